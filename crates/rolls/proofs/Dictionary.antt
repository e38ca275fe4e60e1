-- Dictionary order: never before itself, onward, and of two different fillings one comes first.
use Rattle.std.proofs.Common.{◌≡◌, ℕ, zero, suc, ◌<◌, ◌≤◌, Bool, true, false, ◌⊎◌, List, length, sym, refl, ◌∙◌, subst, inl, inr, arith}
use Rattle.std.proofs.lemmas.List.{ext_get_or}
use Rattle.std.proofs.lemmas.Bool.{both_ways, cases_order}
use Rattle.rolls.specs.Laws.{Before, Orders, OrderLaws}
use Rattle.rolls.specs.Rolls.{at}

never_itself : (n : ℕ) (cell : ℕ → ℕ) (f : List Bool) → Before n cell f f → ⊥
never_itself n cell f b = both_ways (at f (cell b.place)) b.off b.on

onward : (n : ℕ) (cell : ℕ → ℕ) (f g h : List Bool) → Before n cell f g → Before n cell g h → Before n cell f h
onward n cell f g h p q =
    elim (cases_order p.place q.place) [
      | inl same ↦ absurd (both_ways (at g (cell q.place)) q.off (subst (λ k. at g (cell k) ≡ true) same p.on))
      | inr (inl less) ↦ record { place = p.place; below = p.below; off = p.off; on = sym (q.alike p.place less) ∙ p.on; alike = λ k l. p.alike k l ∙ q.alike k (omega arith) }
      | inr (inr more) ↦ record { place = q.place; below = q.below; off = p.alike q.place more ∙ q.off; on = q.on; alike = λ k l. p.alike k (omega arith) ∙ q.alike k l }
    ]

-- two values are the same, or one is off and the other on
values : (a b : Bool) → (a ≡ b) ⊎ (((a ≡ false) × (b ≡ true)) ⊎ ((a ≡ true) × (b ≡ false)))
values false false = inl refl
values false true = inr (inl (refl, refl))
values true false = inr (inr (refl, refl))
values true true = inl refl

module _ (n : ℕ) (cell : ℕ → ℕ) (f g : List Bool) where
  abbrev Alike : ℕ → Type 0
  Alike m = (k : ℕ) → k < m → at f (cell k) ≡ at g (cell k)

  abbrev Compared : ℕ → Type 0
  Compared m = Alike m ⊎ (Before n cell f g ⊎ Before n cell g f)

  one_more : (m : ℕ) → m < n → Alike m → (at f (cell m) ≡ at g (cell m)) ⊎ (((at f (cell m) ≡ false) × (at g (cell m) ≡ true)) ⊎ ((at f (cell m) ≡ true) × (at g (cell m) ≡ false))) → Compared (suc m)
  one_more m l h (inl same) = inl (λ k less. elim (cases_order k m) [ inl e ↦ subst (λ j. at f (cell j) ≡ at g (cell j)) (sym e) same | inr (inl below) ↦ h k below | inr (inr above) ↦ absurd (omega arith) ])
  one_more m l h (inr (inl d)) = inr (inl (record { place = m; below = l; off = d.0; on = d.1; alike = h }))
  one_more m l h (inr (inr d)) = inr (inr (record { place = m; below = l; off = d.1; on = d.0; alike = λ k less. sym (h k less) }))

  extend : (m : ℕ) → m < n → Compared m → Compared (suc m)
  extend m l (inl h) = one_more m l h (values (at f (cell m)) (at g (cell m)))
  extend m l (inr b) = inr b

  compared : (m : ℕ) → m ≤ n → Compared m
  compared zero l = inl (λ k less. absurd (omega arith))
  compared (suc m) l = extend m (omega arith) (compared m (omega arith))

module _ (n : ℕ) (cell rank : ℕ → ℕ) (o : Orders n cell rank) (f g : List Bool) (lf : length f ≡ n) (lg : length g ≡ n) where
  decided : Compared n cell f g n → (f ≡ g) ⊎ (Before n cell f g ⊎ Before n cell g f)
  decided (inl h) =
      inl (ext_get_or false f g (lf ∙ sym lg) (λ c less.
      let inside : c < n = omega arith in
      subst (λ k. at f k ≡ at g k) (o.forth c inside) (h (rank c) (o.ranked c inside))))
  decided (inr b) = inr b

  either : (f ≡ g) ⊎ (Before n cell f g ⊎ Before n cell g f)
  either = decided (compared n cell f g n (omega arith))

pub order_laws : OrderLaws
order_laws = record { never_itself = never_itself; onward = onward; either = either }
