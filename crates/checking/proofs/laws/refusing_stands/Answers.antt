use Rattle.checking.proofs.Accepting.{refusing_right}
use Rattle.checking.proofs.laws.refusing_stands.Goals as goal

pub returns : goal.returns
returns c = refusing_right
