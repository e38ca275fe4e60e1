use Rattle.planes.proofs.Remainders.{remainders_right}
use Rattle.planes.proofs.laws.remainders_stand.Goals as goal

pub returns : goal.returns
returns c = remainders_right
