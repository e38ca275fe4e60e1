use Rattle.systems.proofs.Alike.{alike_laws}
use Rattle.systems.proofs.laws.alike_stands.Goals as goal

pub returns : goal.returns
returns c = alike_laws
