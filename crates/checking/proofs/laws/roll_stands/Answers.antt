use Rattle.checking.proofs.Accepting.{roll_right}
use Rattle.checking.proofs.laws.roll_stands.Goals as goal

pub returns : goal.returns
returns c = roll_right
