use Rattle.checking.proofs.Verdicts.{verdicts_right}
use Rattle.checking.proofs.laws.verdicts_stand.Goals as goal

pub returns : goal.returns
returns c = verdicts_right
