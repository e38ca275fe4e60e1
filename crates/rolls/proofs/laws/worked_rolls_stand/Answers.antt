use Rattle.rolls.proofs.Worked.{rolls_worked}
use Rattle.rolls.proofs.laws.worked_rolls_stand.Goals as goal

pub returns : goal.returns
returns c = rolls_worked
