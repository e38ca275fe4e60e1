-- Each cell is put behind those before it, as the generations are defined.
use Rattle.std.proofs.Common.{◌≡◌, ◌*◌, ap, ◌∙◌, rules, vec_items}
use Rattle.frames.specs.declared.frame.Frame.{Frame}
use Rattle.rolls.specs.Rolls.{surface}
use Rattle.keeping.specs.Worked.{grown, next_of}
use Rattle.keeping.proofs.Grown.{grown_more, part_below}
use Rattle.keeping.proofs.working.worked_out.Goals as goal

pub loop-number-init : goal.loop-number-init
unfolding grown
loop-number-init g c = search rules

pub next_of-on-requires : goal.next_of-on-requires
next_of-on-requires g c =
    let f = (g.S.Plane.means c.args.space.now).frame in
    let places : c.places.result ≡ f.width * f.height = c.places.ensures.value ∙ ap (λ (k : Frame). k.width * k.height) c.frame-frame.ensures in
    let period : c.period.result ≡ f.period = c.period.ensures ∙ ap (λ (k : Frame). k.period) c.frame-frame.ensures in
    part_below f c.places.result c.period.result c.loop-number.number places period c.loop-number-test.true

pub loop-number-preserved : goal.loop-number-preserved
loop-number-preserved g c =
    let space = c.args.space.now in
    let s = surface (g.S.Plane.means space) (g.S.Space.count space) (g.S.Space.tied space) in
    let r = c.args.rule.now in
    let before = c.loop-number.invariant in
    let n = c.loop-number.number in
    let on : c.next_of-on.result ≡ next_of s r (grown s r c.args.first.now n) n = c.next_of-on.ensures ∙ ap (λ l. next_of s r l n) (c.as_slice.ensures.value ∙ before) in
    grown_more s r c.args.first.now n (vec_items c.loop-number.cells) (vec_items c.push.new.self) c.next_of-on.result before on c.in_ok-push.ensures.items
