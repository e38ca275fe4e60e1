use Rattle.std.proofs.Common.{rules}
use Rattle.orders.proofs.places.PlacesOrder.rank_of.Goals.{then-this-ne0, else-this-ne0}
use Rattle.orders.proofs.places.PlacesOrder.rank_of.Goals as goal

pub overflow_mul-result : goal.overflow_mul-result
overflow_mul-result g c = elim c.if-this-ne0.branch [
  | then-this-ne0 w ↦ search rules
  | else-this-ne0 w ↦ search rules
]

pub overflow_add-result : goal.overflow_add-result
overflow_add-result g c = elim c.if-this-ne0.branch [
  | then-this-ne0 w ↦ search rules
  | else-this-ne0 w ↦ search rules
]
