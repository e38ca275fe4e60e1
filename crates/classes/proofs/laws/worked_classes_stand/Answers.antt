use Rattle.classes.proofs.Worked.{classes_worked}
use Rattle.classes.proofs.laws.worked_classes_stand.Goals as goal

pub returns : goal.returns
returns c = classes_worked
