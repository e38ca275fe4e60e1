use Rattle.checking.proofs.Accepting.{accepting_right}
use Rattle.checking.proofs.laws.accepting_stands.Goals as goal

pub returns : goal.returns
returns c = accepting_right
