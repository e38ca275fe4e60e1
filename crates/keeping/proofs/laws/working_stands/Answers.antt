use Rattle.keeping.proofs.Following.{working_right}
use Rattle.keeping.proofs.laws.working_stands.Goals as goal

pub returns : goal.returns
returns c = working_right
