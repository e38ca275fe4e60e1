use Rattle.patterns.proofs.Whole.{telling_right}
use Rattle.patterns.proofs.laws.telling_stands.Goals as goal

pub returns : goal.returns
returns c = telling_right
