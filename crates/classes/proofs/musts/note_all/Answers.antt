use Rattle.std.proofs.Common.{◌≡◌, ◌/◌, ◌%◌, length, sym, ap, ◌∙◌, arith, rules}
use Rattle.classes.specs.Asked.{asked_after}
use Rattle.classes.proofs.Asking.{asked_none, asked_more}
use Rattle.classes.proofs.musts.note_all.Goals as goal

pub loop-cell-init : goal.loop-cell-init
loop-cell-init g c =
    let first : c.into_iter-cell-iterator.result.next ≡ 0 = search rules in
    record { space = search rules; reached = omega (arith, first); asked = λ e. asked_none _ _ _ _ _ _ first e }

pub loop-cell-preserved : goal.loop-cell-preserved
loop-cell-preserved g c =
    let inv = c.loop-cell.invariant in
    let step = c.in-Some.ensures.steps in
    let taken = step.3 in
    let tied = g.S.Space.tied c.args.space.now in
    let n = c.loop-cell.cell-iterator.next in
    let size = c.loop-cell.cell-iterator.size in
    let asks : c.in-Some.tie ≡ tied (n / size) (n % size) = taken.asks ∙ ap (λ s. g.S.Space.tied s (n / size) (n % size)) inv.space in
    record {
      space = ap (λ s. s.now) step.0 ∙ inv.space;
      reached = omega (arith, step.2, taken.below, taken.onward);
      asked = λ e. asked_more tied size c.args.labels.now _ n _ c.in-Some.cell _ _ _ (inv.asked e) taken.onward taken.cell asks c.note.ensures ∙ ap (λ k. asked_after tied k c.args.labels.now (length c.args.musts.now) c.next.new.self.next) (sym step.1);
    }
