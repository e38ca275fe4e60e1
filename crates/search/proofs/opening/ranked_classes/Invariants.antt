use Rattle.std.proofs.Common.{◌≡◌}
use Rattle.systems.specs.Spaces.{classes_by_rank}
use Rattle.search.proofs.opening.ranked_classes.Given as goal

abbrev pub invariant-loop-rank : goal.invariant-loop-rank
invariant-loop-rank g l = l.ranks.items ≡ classes_by_rank l.classes.labels.items (g.O.Order.cell_of_rank l.order l.frame) l.rank
