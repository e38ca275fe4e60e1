use Rattle.checking.proofs.Worked.{checks_worked}
use Rattle.checking.proofs.laws.worked_checks_stand.Goals as goal

pub returns : goal.returns
returns c = checks_worked
