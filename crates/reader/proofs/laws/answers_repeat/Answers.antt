use Rattle.reader.proofs.Again.{repeats}
use Rattle.reader.proofs.laws.answers_repeat.Goals as goal

pub returns : goal.returns
returns c = repeats
