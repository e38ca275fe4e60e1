use Rattle.classes.proofs.Needing.{musts_right}
use Rattle.classes.proofs.laws.musts_stand.Goals as goal

pub returns : goal.returns
returns c = musts_right
