use Rattle.keeping.proofs.Broken.{asking_right}
use Rattle.keeping.proofs.laws.asking_stands.Goals as goal

pub returns : goal.returns
returns c = asking_right
