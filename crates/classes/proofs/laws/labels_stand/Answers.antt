use Rattle.classes.proofs.Joining.{labels_right}
use Rattle.classes.proofs.laws.labels_stand.Goals as goal

pub returns : goal.returns
returns c = labels_right
