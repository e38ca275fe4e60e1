-- Decisions as choices make them: few, each of an unknown class, and in dictionary order.
use Rattle.std.proofs.Common.{◌≡◌, ℕ, ◌<◌, ◌≤◌, Bool, true, false, List, [], ◌∷◌, ◌++◌, length, get_or, set, Some, Option, sym, refl, ap, ◌∙◌, inl, inr, arith, length-set}
use Rattle.std.proofs.lemmas.List.{get_or-set_same}
use Rattle.codes.specs.declared.value.Value.{Value}
use Rattle.codes.specs.declared.value.Value.TheVariants.{Off, On, Unknown}
use Rattle.codes.specs.Laws.{known}
use Rattle.systems.specs.Systems.{In, here, there, Sys, at, Below, whole, Sol, Proper, unknowns}
use Rattle.systems.specs.Settling.{Least}
use Rattle.systems.proofs.Base.{never, known_unknown, known_inj, view}
use Rattle.systems.proofs.Settle.{below_set, set_adds, unknowns_set}
use Rattle.systems.proofs.Solutions.{sol_closed}
use Rattle.histories.specs.Searches.{Decision, sets, base, or_else, first_unknown, Turns, last_off, later, Stands, no_choice, choice, Sooner, side_at, side}
use Rattle.histories.proofs.Sides.{side_le}

-- ---- the first unknown class
module _ (v : ℕ → Value) where
  first_at : (u : Value) (y x : ℕ) (o : Option ℕ) {P : Type 0} → or_else u y o ≡ Some x → (u ≡ Unknown → y ≡ x → P) → ((b : Bool) → u ≡ known b → o ≡ Some x → P) → P
  first_at Unknown y x o e f g = f refl (cc)
  first_at Off y x o e f g = g false refl e
  first_at On y x o e f g = g true refl e

  pub first_unknown_is : (xs : List ℕ) (x : ℕ) → first_unknown v xs ≡ Some x → v x ≡ Unknown
  first_unknown_is [] x e = never (cc)
  first_unknown_is (y ∷ ys) x e = first_at (v y) y x (first_unknown v ys) e (λ k q. ap v (sym q) ∙ k) (λ b k q. first_unknown_is ys x q)

  pub first_in : (xs : List ℕ) (x : ℕ) → first_unknown v xs ≡ Some x → In x xs
  first_in [] x e = never (cc)
  first_in (y ∷ ys) x e = first_at (v y) y x (first_unknown v ys) e (λ k q. rw (← q) here) (λ b k q. there (first_in ys x q))

  first_sooner : (f g : List Bool) → Below v (whole f) → Below v (whole g) → (xs : List ℕ) (x : ℕ) → first_unknown v xs ≡ Some x → get_or f x false ≡ false → get_or g x false ≡ true → Sooner xs f g
  first_sooner f g hf hg [] x e p q = never (cc)
  first_sooner f g hf hg (y ∷ ys) x e p q =
      first_at (v y) y x (first_unknown v ys) e
      (λ k s. inl (rw s p, rw s q))
      (λ b k r. inr (known_inj (get_or f y false) (get_or g y false) (hf y b k ∙ sym (hg y b k)), first_sooner f g hf hg ys x r p q))

-- ---- decisions
pub stands_push : (S : Sys) {ρ : List Value} {ds : List Decision} (σ : List Value) (x : ℕ) (b : Bool) → Stands S ρ ds → Least S (base ρ ds) σ → first_unknown (at σ) S.order ≡ Some x → Stands S ρ (ds ++ sets x b ∷ [])
stands_push S σ x b no_choice l e = choice σ l e no_choice
stands_push S σ x b (choice τ k q c) l e = choice τ k q (stands_push S σ x b c l e)

pub stands_turn : (S : Sys) {ρ : List Value} {ds ds' : List Decision} → Turns ds ds' → Stands S ρ ds → Stands S ρ ds'
stands_turn S (last_off a) (choice σ l e c) = choice σ l e no_choice
stands_turn S (later t) (choice σ l e c) = choice σ l e (stands_turn S t c)

module _ (S : Sys) (proper : Proper S) where
  chosen_in : (v : ℕ → Value) (x : ℕ) (ρ : List Value) → length ρ ≡ length S.start → first_unknown v S.order ≡ Some x → x < length ρ
  chosen_in v x ρ l e = omega (arith, proper.chosen x (first_in v S.order x e))

  chosen_unknown : (σ : List Value) (x : ℕ) (ρ : List Value) → Least S ρ σ → first_unknown (at σ) S.order ≡ Some x → at ρ x ≡ Unknown
  chosen_unknown σ x ρ s e =
      elim (view (at ρ x)) [
        | inl k ↦ k
        | inr k ↦ absurd (known_unknown k.0 (sym (s.above x k.0 k.1) ∙ first_unknown_is (at σ) S.order x e))
      ]

  pub stands_adds : {ρ : List Value} {ds : List Decision} → Stands S ρ ds → Below (at ρ) (at (base ρ ds))
  stands_adds no_choice y a e = e
  stands_adds {ρ} (choice {x = x} {b = b} σ s e c) y a k = stands_adds c y a (set_adds ρ x b (chosen_unknown σ x ρ s e) y a k)

  -- there are at most as many decisions as unknown classes
  pub stands_few : {ρ : List Value} {ds : List Decision} → length ρ ≡ length S.start → Stands S ρ ds → length ds ≤ unknowns ρ
  stands_few l no_choice = omega arith
  stands_few {ρ} l (choice {x = x} {b = b} σ s e c) =
      omega (arith, stands_few (length-set ρ x (known b) ∙ l) c, unknowns_set ρ x b (chosen_unknown σ x ρ s e) (chosen_in (at σ) x ρ l e))

  -- under a state are the fillings that its decisions and what is known from the start allow
  same_side_at : (a b : Bool) (s : ℕ) → a ≡ b → side_at a b s ≡ s
  same_side_at true true s e = refl
  same_side_at false false s e = refl
  same_side_at true false s e = never (cc)
  same_side_at false true s e = never (cc)

  under_side_at : (a b : Bool) (s : ℕ) → side_at a b s ≡ 1 → (a ≡ b) × (s ≡ 1)
  under_side_at true true s e = (refl, e)
  under_side_at false false s e = (refl, e)
  under_side_at true false s e = absurd (omega arith)
  under_side_at false true s e = absurd (omega arith)

  pub under_below : (f : List Bool) (ρ : List Value) (ds : List Decision) → side f ds ≡ 1 → Below (at ρ) (whole f) → Below (at (base ρ ds)) (whole f)
  under_below f ρ [] e h = h
  under_below f ρ (sets x b ∷ ds) e h =
      let u = under_side_at (get_or f x false) b (side f ds) e in
      under_below f (set ρ x (known b)) ds u.1 (below_set ρ (whole f) h x b (ap known u.0))

  pub below_under : (f : List Bool) {ρ : List Value} {ds : List Decision} → length ρ ≡ length S.start → Stands S ρ ds → Below (at (base ρ ds)) (whole f) → side f ds ≡ 1
  below_under f l no_choice h = refl
  below_under f {ρ} l (choice {x = x} {b = b} {ds = ds} σ s e c) h =
      let k : get_or f x false ≡ b = known_inj (get_or f x false) b (h x b (stands_adds c x b (get_or-set_same ρ x (known b) Unknown (chosen_in (at σ) x ρ l e)))) in
      same_side_at (get_or f x false) b (side f ds) k ∙ below_under f (length-set ρ x (known b) ∙ l) c h

  -- what lies before comes first in the dictionary
  sooner_side_at : (a c b : Bool) (s t : ℕ) {P : Type 0} → t ≤ 2 → side_at a b s < side_at c b t → (a ≡ false → c ≡ true → P) → (a ≡ b → c ≡ b → s < t → P) → P
  sooner_side_at true true true s t l h p q = q refl refl h
  sooner_side_at false false false s t l h p q = q refl refl h
  sooner_side_at false true true s t l h p q = p refl refl
  sooner_side_at false true false s t l h p q = p refl refl
  sooner_side_at true true false s t l h p q = absurd (omega arith)
  sooner_side_at false false true s t l h p q = absurd (omega arith)
  sooner_side_at true false true s t l h p q = absurd (omega arith)
  sooner_side_at true false false s t l h p q = absurd (omega arith)

  pub sooner_side : (f g : List Bool) → Sol S f → Sol S g → {ρ : List Value} {ds : List Decision} → Stands S ρ ds → Below (at ρ) (whole f) → Below (at ρ) (whole g) → side f ds < side g ds → Sooner S.order f g
  sooner_side f g sf sg no_choice hf hg l = absurd (omega arith)
  sooner_side f g sf sg {ρ} (choice {x = x} {b = b} {ds = ds} σ s e c) hf hg l =
      sooner_side_at (get_or f x false) (get_or g x false) b (side f ds) (side g ds) (side_le g ds) l
      (λ p q. first_sooner (at σ) f g (s.least (whole f) (sol_closed S f sf) hf) (s.least (whole g) (sol_closed S g sg) hg) S.order x e p q)
      (λ p q k. sooner_side f g sf sg c (below_set ρ (whole f) hf x b (ap known p)) (below_set ρ (whole g) hg x b (ap known q)) k)
