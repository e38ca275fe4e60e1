use Rattle.std.proofs.Common.{◌≡◌, ℕ, ◌+◌, ◌-◌, ◌<◌, ◌≢◌, min, List, length, get_or, set, take, drop, vec_items, vec_len, sym, refl, ap, ap₂, ◌∙◌, arith, length-drop}
use Rattle.std.proofs.lemmas.List.{take_rest, get_or-drop}
use Rattle.codes.specs.declared.value.Value.TheVariants.{Unknown}
use Rattle.settling.specs.Knowing.{put_back}
use Rattle.settling.proofs.Counted.{set_unknown}
use Rattle.settling.proofs.Held.{back_next, back_ended, nothing_left}
use Rattle.settling.proofs.known.Known.undo.Goals as goal

pub loop-class-init : goal.loop-class-init
loop-class-init c = record { sized = refl; more = omega arith; nothing = c.args.self.now.nothing; back = refl }

pub loop-class-preserved : goal.loop-class-preserved
loop-class-preserved c =
    let was = c.args.self.now in
    let d = c.deref.result.now in
    let n = c.min-kept.result in
    let k = c.loop-class.class-index in
    let σ = vec_items c.loop-class.values in
    let rest = take_rest d n in
    let same : d ≡ vec_items was.trail = c.deref.ensures.value in
    let item : c.from.result ≡ get_or (vec_items was.trail) (n + k) 0 = c.from.ensures ∙ ap (λ (ys : List ℕ). get_or ys k 0) rest ∙ get_or-drop n d k 0 ∙ ap (λ (ys : List ℕ). get_or ys (n + k) 0) same in
    let within : n + k < length (vec_items was.trail) = omega (arith, c.loop-class-test.true, ap length rest, length-drop n d, ap length same, was.trail.ok.0) in
    let inside = was.trailed (n + k) within in
    let items : List ℕ = take (length d - n) (drop n d) in
    record {
      sized = c.loop-class.invariant.sized;
      more = let u = set_unknown σ c.from.result in omega (arith, u, c.loop-class.invariant.more);
      nothing = λ j e.
          let ne : c.from.result ≢ j = λ q. omega (arith, q, item, inside, e, c.loop-class.invariant.sized) in
          nothing_left σ c.from.result j ne (c.loop-class.invariant.nothing j e);
      back = ap (λ (x : ℕ). put_back (drop (k + 1) items) (set σ x Unknown)) c.from.ensures ∙ sym (back_next items k σ c.loop-class-test.true) ∙ c.loop-class.invariant.back;
    }

pub invariant_of-self : goal.invariant_of-self
invariant_of-self c =
    let was = c.args.self.now in
    let told = c.truncate.ensures in
    let d = c.deref.result.now in
    let n = c.min-kept.result in
    let rest = take_rest d n in
    record {
      nothing = c.loop-class.invariant.nothing;
      trailed = λ k l.
          let kept : k < n = omega (arith, l, c.truncate.new.self.ok.0, told.len, c.min-kept.ensures, c.len.ensures) in
          omega (arith, told.by_index k 0 kept, was.trailed k (omega (arith, kept, c.min-kept.ensures, c.len.ensures, was.trail.ok.0)), c.loop-class.invariant.sized);
      room = omega (arith, told.len, c.loop-class.invariant.more, c.loop-class.auto.class-index-end, ap length rest, length-drop n d, ap length c.deref.ensures.value, was.trail.ok.0, was.room, c.loop-class.invariant.sized);
      reserved = omega (arith, told.capacity, c.loop-class.invariant.sized, was.reserved);
      reached = omega (arith, told.len, was.reached, c.min.ensures, c.min-kept.ensures, c.len.ensures);
    }

pub returns-clause-back : goal.returns-clause-back
returns-clause-back c =
    let was = c.args.self.now in
    let d = c.deref.result.now in
    let n = c.min-kept.result in
    let σ = vec_items c.loop-class.values in
    let kept : n ≡ min c.args.mark (vec_len was.trail) = c.min-kept.ensures ∙ ap (min c.args.mark) c.len.ensures in
    let items : List ℕ = take (length d - n) (drop n d) in
    sym (back_ended items c.loop-class.class-index σ c.loop-class-test.false) ∙ c.loop-class.invariant.back
    ∙ ap (λ (ys : List ℕ). put_back ys (vec_items was.values)) (take_rest d n ∙ ap₂ drop kept c.deref.ensures.value)
