use Rattle.rolls.proofs.Chains.{joined_alike}
use Rattle.rolls.proofs.Generations.{first_decides}
use Rattle.rolls.proofs.laws.roll_laws_stand.Goals as goal

pub returns : goal.returns
returns c = record { first_decides = first_decides; joined_alike = joined_alike }
