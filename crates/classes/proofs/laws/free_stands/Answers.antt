use Rattle.classes.proofs.Freeing.{free_right}
use Rattle.classes.proofs.laws.free_stands.Goals as goal

pub returns : goal.returns
returns c = free_right
