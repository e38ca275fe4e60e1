-- Each number is asked in turn, so that the first found is the first of all.
use Rattle.std.proofs.Common.{◌≡◌, ℕ, ◌*◌, ◌<◌, ◌/◌, ◌%◌, Some, true, false, sym, ap, ◌∙◌, subst}
use Rattle.frames.specs.Frames.{cells}
use Rattle.keeping.specs.Asked.{undone, tie_at, tie_found}
use Rattle.keeping.proofs.Firsts.{first_none, first_more, first_hit}
use Rattle.keeping.proofs.ties.broken_tie.Goals as goal

pub loop-number-init : goal.loop-number-init
loop-number-init g c = first_none _

pub returns-then-undone : goal.returns-then-undone
returns-then-undone g c =
    let space = c.args.space.now in
    let tied = g.S.Space.tied space in
    let all = cells (g.S.Plane.means space).frame in
    let n = c.loop-number.number in
    let size : c.cells-size.result ≡ all = c.cells-size.ensures ∙ ap cells c.frame.ensures in
    let less : n < g.S.Space.count space * all = subst (λ k. n < k) (λ i. c.rows.ensures.0 i * size i) c.loop-number-test.true in
    let test : ℕ → ℕ → _ = λ k m. undone c.args.cells.now (m % k) (tied (m / k) (m % k)) in
    let hit : test all n ≡ true = sym (c.undone.ensures ∙ ap (undone c.args.cells.now (n % c.cells-size.result)) c.tie.ensures.0 ∙ ap (λ k. test k n) size) ∙ c.if-undone.true in
    ap (λ k. Some (tie_at k n)) size ∙ sym (ap (tie_found all) (first_hit (test all) n _ c.loop-number.invariant hit less))

pub loop-number-preserved : goal.loop-number-preserved
loop-number-preserved g c =
    let space = c.args.space.now in
    let tied = g.S.Space.tied space in
    let all = cells (g.S.Plane.means space).frame in
    let n = c.loop-number.number in
    let size : c.cells-size.result ≡ all = c.cells-size.ensures ∙ ap cells c.frame.ensures in
    let test : ℕ → ℕ → _ = λ k m. undone c.args.cells.now (m % k) (tied (m / k) (m % k)) in
    let miss : test all n ≡ false = sym (c.undone.ensures ∙ ap (undone c.args.cells.now (n % c.cells-size.result)) c.tie.ensures.0 ∙ ap (λ k. test k n) size) ∙ c.if-undone.false in
    first_more (test all) n c.loop-number.invariant miss
