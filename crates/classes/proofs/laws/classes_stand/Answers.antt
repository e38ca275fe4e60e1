use Rattle.classes.proofs.Classing.{classes_right}
use Rattle.classes.proofs.laws.classes_stand.Goals as goal

pub returns : goal.returns
returns c = classes_right
