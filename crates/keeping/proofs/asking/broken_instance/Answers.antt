-- Each number is asked in turn, so that the first found is the first of all.
use Rattle.std.proofs.Common.{◌≡◌, ◌<◌, ◌/◌, Some, true, false, sym, ap, ◌∙◌, arith, subst}
use Rattle.frames.proofs.Cells.{generation_below}
use Rattle.rolls.specs.Rolls.{surface}
use Rattle.keeping.specs.declared.places.InstanceAt.{InstanceAt}
use Rattle.keeping.specs.Asked.{fails, instance_at, instance_found, instances, across, down}
use Rattle.keeping.proofs.Firsts.{first_none, first_more, first_hit}
use Rattle.keeping.proofs.asking.broken_instance.Goals as goal

pub loop-number-init : goal.loop-number-init
loop-number-init g c = first_none _

pub fails-requires-clause-before : goal.fails-requires-clause-before
fails-requires-clause-before g c =
    let f = (g.S.Plane.means c.args.space.now).frame in
    let n = c.loop-number.number in
    let less : n < instances f = subst (λ k. n < k) (c.instances-number-end.ensures.value ∙ ap instances c.frame-frame.ensures) c.loop-number-test.true in
    let here : c.instance_at-at.result.t ≡ n / across f / down f = ap (λ (i : InstanceAt). i.t) (c.instance_at-at.ensures ∙ ap (λ k. instance_at k n) c.frame-frame.ensures) in
    subst (λ t. t < f.period) (sym here) (generation_below (across f) (down f) f.period n (omega arith) (omega arith) less)

pub returns-then-fails : goal.returns-then-fails
returns-then-fails g c =
    let space = c.args.space.now in
    let s = surface (g.S.Plane.means space) (g.S.Space.count space) (g.S.Space.tied space) in
    let n = c.loop-number.number in
    let at : c.instance_at-at.result ≡ instance_at s.frame n = c.instance_at-at.ensures ∙ ap (λ k. instance_at k n) c.frame-frame.ensures in
    let less : n < instances s.frame = subst (λ k. n < k) (c.instances-number-end.ensures.value ∙ ap instances c.frame-frame.ensures) c.loop-number-test.true in
    let hit : fails s c.args.rule.now c.args.cells.now (instance_at s.frame n) ≡ true = sym (c.fails.ensures ∙ ap (fails s c.args.rule.now c.args.cells.now) at) ∙ c.if-fails.true in
    ap Some at ∙ sym (ap (instance_found s.frame) (first_hit _ n (instances s.frame) c.loop-number.invariant hit less))

pub loop-number-preserved : goal.loop-number-preserved
loop-number-preserved g c =
    let space = c.args.space.now in
    let s = surface (g.S.Plane.means space) (g.S.Space.count space) (g.S.Space.tied space) in
    let n = c.loop-number.number in
    let at : c.instance_at-at.result ≡ instance_at s.frame n = c.instance_at-at.ensures ∙ ap (λ k. instance_at k n) c.frame-frame.ensures in
    let miss : fails s c.args.rule.now c.args.cells.now (instance_at s.frame n) ≡ false = sym (c.fails.ensures ∙ ap (fails s c.args.rule.now c.args.cells.now) at) ∙ c.if-fails.false in
    first_more _ n c.loop-number.invariant miss
