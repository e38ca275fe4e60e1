use Rattle.histories.proofs.Worked.{searches_worked}
use Rattle.histories.proofs.laws.worked_searches_stand.Goals as goal

pub returns : goal.returns
returns c = searches_worked
