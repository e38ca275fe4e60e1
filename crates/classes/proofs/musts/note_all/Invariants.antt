use Rattle.std.proofs.Common.{◌≡◌, ◌≤◌, length, replicate}
use Rattle.classes.specs.Asked.{asked_after, unasked}
use Rattle.classes.proofs.musts.note_all.Given as goal

abbrev pub invariant-loop-cell : goal.invariant-loop-cell
invariant-loop-cell g l = record {
  space : l.cell-iterator.space.now ≡ l.space;
  reached : l.cell-iterator.next ≤ l.cell-iterator.«end»;
  asked : l.initial.musts ≡ replicate (length l.initial.musts) unasked → l.musts ≡ asked_after (g.S.Space.tied l.space) l.cell-iterator.size l.labels (length l.initial.musts) l.cell-iterator.next;
}
