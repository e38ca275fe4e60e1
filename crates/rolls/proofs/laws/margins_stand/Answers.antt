use Rattle.rolls.proofs.Margins.{margins_right}
use Rattle.rolls.proofs.laws.margins_stand.Goals as goal

pub returns : goal.returns
returns c = margins_right
