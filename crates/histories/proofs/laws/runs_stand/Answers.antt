use Rattle.histories.proofs.Telling.{runs_tell}
use Rattle.histories.proofs.laws.runs_stand.Goals as goal

pub returns : goal.returns
returns c = runs_tell
