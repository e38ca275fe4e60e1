use Rattle.std.proofs.Common.{◌≡◌, ℕ, ◌+◌, List, [], ◌∷◌, ◌++◌, length, Vec, vec_items, ap, ◌∙◌, subst, sym, rules}
use Rattle.std.proofs.lemmas.List.{length_push}
use Rattle.std.specs.declared.alloc.Global.{Global}
use Rattle.gathering.specs.Bounds.{Under, EachUnder}
use Rattle.gathering.specs.Rendering.{Noted, EachNoted}
use Rattle.gathering.proofs.Noting.{got_more}
use Rattle.gathering.proofs.touching.touching_each.Goals as goal

pub loop-class-preserved : goal.loop-class-preserved
loop-class-preserved c =
    let is = c.args.instances.now in
    let old = vec_items c.loop-class.each in
    let numbers = c.in_ok-touching.field-0 in
    let inv = c.loop-class.invariant in
    let told = c.in_ok-touching.ensures in
    let pushed : vec_items c.push.new.self ≡ old ++ numbers ∷ [] = search rules in
    let U : ℕ → Vec ℕ Global → Type 0 = λ j v. Under (length is) (vec_items v) in
    let N : ℕ → Vec ℕ Global → Type 0 = λ j v. Noted is j (vec_items v) in
    let last : N (length old) numbers = subst (λ j. N j numbers) (sym inv.len) told.noted in
    record {
      within = subst (EachUnder (length is)) (sym pushed) (got_more U old numbers inv.within told.within);
      noted = subst (EachNoted is) (sym pushed) (got_more N old numbers inv.noted last);
      len = ap (λ (l : List (Vec ℕ Global)). length l) pushed ∙ length_push old numbers ∙ ap (λ n. n + 1) inv.len;
    }
