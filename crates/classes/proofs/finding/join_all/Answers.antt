use Rattle.std.proofs.Common.{◌≡◌, ◌*◌, ◌/◌, ◌%◌, ◌<◌, length, sym, ap, ◌∙◌, subst, arith, rules, below_more}
use Rattle.std.proofs.lemmas.Nat.{mod_below}
use Rattle.std.proofs.lemmas.List.FromFn.{length-range_with_len}
use Rattle.std.specs.List.{range_with_len}
use Rattle.frames.specs.Frames.{cells}
use Rattle.planes.specs.Ties.{Within}
use Rattle.classes.specs.Labels.{Low, labels_after}
use Rattle.classes.proofs.United.{after_none, after_more, counting_low, low_lowered, each_row}
use Rattle.classes.proofs.finding.join_all.Goals as goal

pub loop-cell-init : goal.loop-cell-init
loop-cell-init g c =
    let ties = c.into_iter-cell-iterator.result in
    let space : ties.space.now ≡ c.args.space.now = search rules in
    let first : ties.next ≡ 0 = search rules in
    let size : ties.size ≡ cells (g.S.Plane.means c.args.space.now).frame = ties.sized ∙ ap (λ s. cells (g.S.Plane.means s).frame) space in
    record {
      space = space;
      reached = omega (arith, first);
      value = after_none _ ties.size ties.next c.args.labels.now first (c.requires ∙ ap (range_with_len 0) (sym size));
      low = subst Low (sym c.requires) (counting_low _);
      inside = λ k h. absurd {A = Within ties.size (g.S.Space.tied c.args.space.now (k / ties.size) (k % ties.size))} (omega (arith, first));
    }

pub join-requires : goal.join-requires
join-requires g c =
    let ties = c.loop-cell.cell-iterator in
    let taken = c.in-Some.ensures.steps.3 in
    let size : ties.size ≡ cells (g.S.Plane.means c.args.space.now).frame = ties.sized ∙ ap (λ s. cells (g.S.Plane.means s).frame) c.loop-cell.invariant.space in
    let long : length c.loop-cell.labels ≡ ties.size = c.loop-cell.auto.labels ∙ ap length c.requires ∙ length-range_with_len 0 _ ∙ sym size in
    record { cell = omega (arith, long, taken.cell, mod_below ties.next ties.size ties.some); tie = subst (λ n. Within n c.in-Some.tie) (sym long) taken.within }

pub loop-cell-preserved : goal.loop-cell-preserved
loop-cell-preserved g c =
    let inv = c.loop-cell.invariant in
    let step = c.in-Some.ensures.steps in
    let taken = step.3 in
    let tied = g.S.Space.tied c.args.space.now in
    let n = c.loop-cell.cell-iterator.next in
    let size = c.loop-cell.cell-iterator.size in
    let asks : c.in-Some.tie ≡ tied (n / size) (n % size) = taken.asks ∙ ap (λ s. g.S.Space.tied s (n / size) (n % size)) inv.space in
    let inside = below_more _ n inv.inside (subst (Within size) asks taken.within) in
    record {
      space = ap (λ s. s.now) step.0 ∙ inv.space;
      reached = omega (arith, step.2, taken.below, taken.onward);
      value = after_more tied size n _ c.in-Some.cell _ _ _ inv.value taken.onward taken.cell asks c.join.ensures.value ∙ ap (λ k. labels_after tied k c.next.new.self.next) (sym step.1);
      low = low_lowered c.loop-cell.labels c.join.new.labels inv.low c.join.ensures.lower;
      inside = λ k h. subst (λ s. Within s (tied (k / s) (k % s))) (sym step.1) (inside k (omega (arith, taken.onward)));
    }

pub returns : goal.returns
returns g c =
    let inv = c.loop-cell.invariant in
    let ties = c.loop-cell.cell-iterator in
    let tied = g.S.Space.tied c.args.space.now in
    let rows = g.S.Space.count c.args.space.now in
    let size : ties.size ≡ cells (g.S.Plane.means c.args.space.now).frame = ties.sized ∙ ap (λ s. cells (g.S.Plane.means s).frame) inv.space in
    let ended : ties.«end» ≡ rows * ties.size = ties.ended ∙ ap (λ s. g.S.Space.count s * ties.size) inv.space in
    let last : ties.next ≡ rows * ties.size = omega (arith, ended, inv.reached, c.in-None.ensures.steps.3) in
    record {
      value = inv.value ∙ ap (labels_after tied ties.size) last ∙ (λ i. labels_after tied (size i) (rows * size i));
      low = inv.low;
      inside = subst (λ n. (row c : _) → row < rows → c < n → Within n (tied row c)) size (each_row tied ties.size rows (λ k h. inv.inside k (omega (arith, last))));
    }
