use Rattle.rolls.proofs.Dictionary.{order_laws}
use Rattle.rolls.proofs.laws.order_laws_stand.Goals as goal

pub returns : goal.returns
returns c = order_laws
