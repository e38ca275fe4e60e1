use Rattle.systems.proofs.Solutions.{filling_laws}
use Rattle.systems.proofs.laws.fillings_stand.Goals as goal

pub returns : goal.returns
returns c = filling_laws
