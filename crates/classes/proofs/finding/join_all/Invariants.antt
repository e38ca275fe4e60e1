use Rattle.std.proofs.Common.{◌≡◌, ℕ, ◌/◌, ◌%◌, ◌<◌, ◌≤◌}
use Rattle.planes.specs.Ties.{Within}
use Rattle.classes.specs.Labels.{Low, labels_after}
use Rattle.classes.proofs.finding.join_all.Given as goal

abbrev pub invariant-loop-cell : goal.invariant-loop-cell
invariant-loop-cell g l = record {
  space : l.cell-iterator.space.now ≡ l.space;
  reached : l.cell-iterator.next ≤ l.cell-iterator.«end»;
  value : l.labels ≡ labels_after (g.S.Space.tied l.space) l.cell-iterator.size l.cell-iterator.next;
  low : Low l.labels;
  inside : (k : ℕ) → k < l.cell-iterator.next → Within l.cell-iterator.size (g.S.Space.tied l.space (k / l.cell-iterator.size) (k % l.cell-iterator.size));
}
