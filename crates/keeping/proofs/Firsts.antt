-- The first number below another that passes a test: how a loop that asks each in turn comes to it.
use Rattle.std.proofs.Common.{◌≡◌, ℕ, zero, suc, ◌+◌, ◌<◌, Bool, true, false, Some, None, Option, sym, ap, ◌∙◌, refl, inl, inr, add-one, arith}
use Rattle.std.proofs.lemmas.Bool.{cases_order}
use Rattle.keeping.specs.Asked.{first_below, found_or}

pub first_none : (test : ℕ → Bool) → first_below test 0 ≡ None
unfolding first_below
first_none test = refl

pub first_more : (test : ℕ → Bool) (n : ℕ) → first_below test n ≡ None → test n ≡ false → first_below test (n + 1) ≡ None
unfolding first_below
first_more test n before here = ap (first_below test) (add-one n) ∙ (λ i. found_or (before i) (here i) n)

pub first_hit : (test : ℕ → Bool) (n m : ℕ) → first_below test n ≡ None → test n ≡ true → n < m → first_below test m ≡ Some n
unfolding first_below
first_hit test n zero before here less = absurd (omega arith)
first_hit test n (suc m) before here less =
    elim (cases_order n m) [
      | inl same ↦ (λ i. found_or (first_below test (sym same i)) (test (sym same i)) (sym same i)) ∙ (λ i. found_or (before i) (here i) n)
      | inr (inl lower) ↦ ap (λ o. found_or o (test m) m) (first_hit test n m before here lower)
      | inr (inr higher) ↦ absurd (omega arith)
    ]

none_some : {m : ℕ} → ◌≡◌ {A = Option ℕ} None (Some m) → ⊥
none_some e = cc

none_found : (o : Option ℕ) (hit : Bool) (n : ℕ) → found_or o hit n ≡ None → (o ≡ None) × (hit ≡ false)
none_found (Some k) hit n e = absurd (none_some (sym e))
none_found None true n e = absurd (none_some (sym e))
none_found None false n e = (refl, refl)

-- where none is found none passes, and where none passes none is found
pub first_misses : (test : ℕ → Bool) (n : ℕ) → first_below test n ≡ None → (k : ℕ) → k < n → test k ≡ false
unfolding first_below
first_misses test zero e k less = absurd (omega arith)
first_misses test (suc n) e k less =
    let parts = none_found (first_below test n) (test n) n e in
    elim (cases_order k n) [ inl same ↦ ap test same ∙ parts.1 | inr (inl lower) ↦ first_misses test n parts.0 k lower | inr (inr higher) ↦ absurd (omega arith) ]

pub none_passes : (test : ℕ → Bool) (n : ℕ) → ((k : ℕ) → k < n → test k ≡ false) → first_below test n ≡ None
unfolding first_below
none_passes test zero h = refl
none_passes test (suc n) h = λ i. found_or (none_passes test n (λ k less. h k (omega arith)) i) (h n (omega arith) i) n

found_at : (test : ℕ → Bool) (n m : ℕ) → ((k : ℕ) → first_below test n ≡ Some k → (k < n) × (test k ≡ true) × ((j : ℕ) → j < k → test j ≡ false)) → (o : Option ℕ) (hit : Bool) → first_below test n ≡ o → test n ≡ hit → found_or o hit n ≡ Some m → (m < suc n) × (test m ≡ true) × ((k : ℕ) → k < m → test k ≡ false)
found_at test n m ind (Some k) hit eo eh e =
    let same : k ≡ m = cc in
    let w = ind m (eo ∙ ap Some same) in
    (omega (arith, w.0), w.1, w.2)
found_at test n m ind None true eo eh e =
    let same : n ≡ m = cc in
    (omega (arith, same), ap test (sym same) ∙ eh, λ k less. first_misses test n eo k (omega (arith, same)))
found_at test n m ind None false eo eh e = absurd (none_some e)

-- what is found is below, passes, and none before it does
pub first_found : (test : ℕ → Bool) (n m : ℕ) → first_below test n ≡ Some m → (m < n) × (test m ≡ true) × ((k : ℕ) → k < m → test k ≡ false)
unfolding first_below
first_found test zero m e = absurd (none_some e)
first_found test (suc n) m e = found_at test n m (λ k. first_found test n k) (first_below test n) (test n) refl refl e
