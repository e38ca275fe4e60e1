use Rattle.systems.proofs.Spaces.{solutions_right}
use Rattle.systems.proofs.laws.solutions_stand.Goals as goal

pub returns : goal.returns
returns c = solutions_right
