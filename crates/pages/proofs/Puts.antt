-- Bytes copied into a page, and a part of it that is lent on and comes back.
use Rattle.std.proofs.Common.{◌≡◌, ℕ, ◌+◌, ◌-◌, List, [], ◌++◌, length, take, drop, sym, refl, ap, ◌∙◌, arith}
use borrow.Rule.Slice.PartMut.{put_mid}
use Rattle.std.proofs.lemmas.List.{drop-drop, take-append-drop}
use Rattle.pages.specs.Pages.{Placed}

pub placed_none : (old : List ℕ) (at : ℕ) → Placed old at [] old at
placed_none old at =
    let same : at + 0 ≡ at = omega arith in
    (sym same, sym (take-append-drop at old) ∙ ap (λ n. take at old ++ drop n old) (sym same))

-- bytes copied over a part
pub placed_copy : (old bytes copy : List ℕ) (at : ℕ) → copy ≡ bytes → Placed old at bytes (put_mid at (at + length bytes - at) old copy) (at + length bytes)
placed_copy old bytes copy at e = (refl, ap (λ l. take at old ++ (l ++ drop (at + length bytes - at) (drop at old))) e ∙ ap (λ l. take at old ++ (bytes ++ l)) (drop-drop (at + length bytes - at) at old ∙ ap (λ n. drop n old) (omega arith)))

-- a text at the front of what was lent
pub placed_front : (old new text : List ℕ) (n : ℕ) → n ≡ length text → new ≡ text ++ drop n old → Placed old 0 text new n
placed_front old new text n e h =
    let same : n ≡ 0 + length text = omega arith in
    (same, h ∙ ap (λ k. text ++ drop k old) same)

-- where what was lent came back as it was, the whole is as it was
pub kept_lent : (old lent : List ℕ) (at n : ℕ) → lent ≡ take n (drop at old) → put_mid at n old lent ≡ old
kept_lent old lent at n e = ap (λ z. take at old ++ (z ++ drop n (drop at old))) e ∙ ap (λ z. take at old ++ z) (take-append-drop n (drop at old)) ∙ take-append-drop at old
