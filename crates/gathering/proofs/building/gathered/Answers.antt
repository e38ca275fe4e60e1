use Rattle.std.proofs.Common.{◌≡◌, ◌+◌, ◌*◌, ◌<◌, ◌/◌, ◌%◌, true, false, [], ◌∷◌, ◌++◌, Vec, vec_items, vec_len, ap, ◌∙◌, subst, sym, arith, rules}
use Rattle.std.proofs.lemmas.Bool.{not-false}
use Rattle.std.specs.declared.alloc.Global.{Global}
use Rattle.frames.specs.declared.frame.Frame.{Frame}
use Rattle.frames.specs.Radix.{high_below}
use Rattle.systems.specs.declared.instance.Instance.{Instance}
use Rattle.systems.specs.Alike.{SameLooks}
use Rattle.systems.specs.Spaces.{instance_at}
use Rattle.rolls.specs.Rolls.{ninth}
use Rattle.classes.proofs.Places.{each_more}
use Rattle.gathering.specs.Bounds.{EachNames, Names, nowhere}
use Rattle.gathering.specs.Rendering.{Classed, bare, kept}
use Rattle.gathering.proofs.Keeping.{Kept, Known, at_number, spots_of, kept_none, kept_more, kept_same, kept_all, known_none, known_more, known_kept, if_new, if_known}
use Rattle.gathering.proofs.building.gathered.Goals as goal
use Rattle.gathering.proofs.building.gathered.Goals.{then-branch+in_ok-push, else-branch}

pub loop-number-init : goal.loop-number-init
loop-number-init g c =
    let s = bare (g.P.Plane.means c.args.ground.now.plane.now) in
    let n = kept c.args.ground.now.classes.now in
    let empty : vec_items c.new-instances.result ≡ [] = c.new-instances.ensures.items in
    record {
      named = subst (EachNames (vec_len c.args.ground.now.classes.now.lowest + 1)) (sym empty) (λ k l. absurd (omega arith));
      few = search rules;
      known = known_none _ _ c.new-known.ensures.empty;
      spots = λ whole. kept_none s n _ empty;
    }

pub instance_at-requires : goal.instance_at-requires
instance_at-requires g c =
    let f = c.args.ground.now.frame in
    let low : c.loop-number.number < f.period * (f.height + 18) * (f.width + 18) = omega (arith, c.spots-number-end.ensures.value, c.loop-number-test.true) in
    subst (λ t. t < f.period) (sym c.spot.ensures.t) (high_below f.period (f.height + 18) (f.width + 18) c.loop-number.number (omega arith) (omega arith) low)

pub loop-number-preserved : goal.loop-number-preserved
loop-number-preserved g c =
    let me = c.args.ground.now in
    let s = bare (g.P.Plane.means me.plane.now) in
    let n = kept me.classes.now in
    let m = c.loop-number.number in
    let i = c.in_sequence-instance.result in
    let is = vec_items c.loop-number.instances in
    let inv = c.loop-number.invariant in
    let told = c.in_ok-insert.ensures in
    let spot = c.spot.result in
    let top = vec_len me.classes.now.lowest + 1 in
    let asked : Classed me.frame me.classes.now → c.instance_at.result ≡ at_number s n m = λ whole.
    c.instance_at.ensures.value whole
    ∙ (λ h. instance_at s n (c.spot.ensures.t h) (c.spot.ensures.x h) (c.spot.ensures.y h))
    ∙ ap (λ (f : Frame). instance_at s n (m / (f.width + 18) / (f.height + 18)) (ninth (m % (f.width + 18))) (ninth (m / (f.width + 18) % (f.height + 18)))) me.framed in
    let same : Classed me.frame me.classes.now → SameLooks (at_number s n m) i = λ whole. subst (λ j. SameLooks j i) (asked whole) c.in_sequence-instance.ensures.looks in
    let named = c.in_sequence-instance.ensures.named top c.instance_at.ensures.named in
    elim c.if-branch.branch [
      | then-branch+in_ok-push w ↦
          let new : c.in_ok-insert.field-0 ≡ true = search rules in
          let pushed : vec_items w.push.new.self ≡ is ++ i ∷ [] = search rules in
          let stands : vec_items c.if-branch.instances ≡ is ++ i ∷ [] = ap (λ (v : Vec Instance Global). vec_items v) w.instances-is ∙ pushed in
          record {
            named = each_more (λ k v. Names top v) nowhere is _ i stands inv.named named;
            few = search rules;
            known = known_more c.loop-number.known.keys c.insert.new.self.keys is _ i (if_new _ _ _ new told.keys) stands inv.known;
            spots = λ whole. kept_more s n m is _ i (inv.spots whole) (same whole) stands;
          }
      | else-branch w ↦
          let stands : vec_items c.if-branch.instances ≡ is = ap (λ (v : Vec Instance Global). vec_items v) w.instances-is in
          let old : c.in_ok-insert.field-0 ≡ false = search rules in
          let mine = known_kept c.loop-number.known.keys is i inv.known (not-false _ (sym told.added ∙ old)) in
          record {
            named = subst (EachNames top) (sym stands) inv.named;
            few = search rules;
            known = subst (Known c.insert.new.self.keys) (sym stands) (subst (λ v. Known v is) (sym (if_known _ _ _ old told.keys)) inv.known);
            spots = λ whole. subst (Kept s n (m + 1)) (sym stands) (kept_same s n m is i (inv.spots whole) (same whole) mine);
          }
    ]

pub returns-clause-named : goal.returns-clause-named
returns-clause-named g c = c.loop-number.invariant.named

pub returns-clause-few : goal.returns-clause-few
returns-clause-few g c = omega (arith, c.loop-number.invariant.few, c.spots-number-end.ensures.few)

pub returns-clause-rendered : goal.returns-clause-rendered
returns-clause-rendered g c = λ whole.
    let me = c.args.ground.now in
    let last : c.loop-number.number ≡ c.spots-number-end.result = omega arith in
    let all : c.loop-number.number ≡ spots_of (bare (g.P.Plane.means me.plane.now)) =
    last ∙ c.spots-number-end.ensures.value ∙ ap (λ (f : Frame). f.period * (f.height + 18) * (f.width + 18)) me.framed in
    kept_all (bare (g.P.Plane.means me.plane.now)) (kept me.classes.now) c.loop-number.number _ all (c.loop-number.invariant.spots whole)
