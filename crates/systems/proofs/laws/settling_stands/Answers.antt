use Rattle.systems.proofs.Settled.{settling_laws}
use Rattle.systems.proofs.laws.settling_stands.Goals as goal

pub returns : goal.returns
returns c = settling_laws
