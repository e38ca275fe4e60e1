use Rattle.frames.proofs.Cells.{numbers_right}
use Rattle.frames.proofs.laws.numbers_stand.Goals as goal

pub returns : goal.returns
returns c = numbers_right
