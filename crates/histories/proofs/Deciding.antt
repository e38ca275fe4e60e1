-- What a program that decides by rank, settles and turns back goes by.
-- Some of these lemmas no proof cites yet; they stay, since nothing else says what they say.
use Rattle.std.proofs.Common.{◌≡◌, ℕ, zero, suc, ◌<◌, Bool, true, false, List, [], ◌∷◌, ◌++◌, map, length, get_or, set, Some, None, Option, sym, refl, ap, ◌∙◌, inl, inr, arith}
use Rattle.codes.specs.declared.value.Value.{Value}
use Rattle.codes.specs.declared.value.Value.TheVariants.{Off, On, Unknown}
use Rattle.codes.specs.Laws.{known}
use Rattle.systems.specs.Systems.{Sys, at, Below, Proper}
use Rattle.systems.specs.Settling.{Least, Dead}
use Rattle.systems.proofs.Base.{never, known_unknown, view}
use Rattle.systems.proofs.Settle.{least_then, dead_then}
use Rattle.histories.specs.Searches.{Decision, sets, base, or_else, first_unknown, AllOn, no_more, one_on, Turns, last_off, later, Stands, choice}
use Rattle.histories.specs.Going.{filled}
use Rattle.histories.proofs.Standing.{first_in, first_unknown_is}
use Rattle.histories.proofs.Telling.{base_long}
use Rattle.histories.proofs.Going.{choice_some, filled_is}

-- ---- decisions in front of others
pub base_append : (ρ : List Value) (ds es : List Decision) → base ρ (ds ++ es) ≡ base (base ρ ds) es
base_append ρ [] es = refl
base_append ρ (sets x b ∷ ds) es = base_append (set ρ x (known b)) ds es

pub turns_at : (ds : List Decision) (x : ℕ) (es : List Decision) → AllOn es → Turns (ds ++ sets x false ∷ es) (ds ++ sets x true ∷ [])
turns_at [] x es a = last_off a
turns_at (d ∷ ds) x es a = later (turns_at ds x es a)

-- whether a decision is on
abbrev pub is_on : Decision → Bool
is_on (sets x b) = b

pub on_each : (ds : List Decision) (d : Decision) → ((k : ℕ) → k < length ds → is_on (get_or ds k d) ≡ true) → AllOn ds
on_each [] d h = no_more
on_each (sets x true ∷ ds) d h = one_on (on_each ds d (λ k l. h (suc k) (omega arith)))
on_each (sets x false ∷ ds) d h = never (cc (h 0 (omega arith)))

-- before each decision that stands the search was settled, and its class was the first unknown one
pub stands_before : (S : Sys) (ρ : List Value) (ds : List Decision) (x : ℕ) (b : Bool) (es : List Decision) → Stands S ρ (ds ++ sets x b ∷ es) → (σ : List Value) × Least S (base ρ ds) σ × (first_unknown (at σ) S.order ≡ Some x)
stands_before S ρ [] x b es (choice σ l e c) = (σ, l, e)
stands_before S ρ (sets y a ∷ ds) x b es (choice σ l e c) = stands_before S (set ρ y (known a)) ds x b es c

-- ---- the first unknown class by rank
-- a class that is known is passed over
passed : (w : Value) (x : ℕ) (o : Option ℕ) → (w ≡ Unknown → ⊥) → or_else w x o ≡ o
passed Off x o n = refl
passed On x o n = refl
passed Unknown x o n = absurd (n refl)

pub first_at_rank : (v : ℕ → Value) (order : List ℕ) (k : ℕ) → k < length order → v (get_or order k 0) ≡ Unknown → ((j : ℕ) → j < k → v (get_or order j 0) ≡ Unknown → ⊥) → first_unknown v order ≡ Some (get_or order k 0)
first_at_rank v [] k l u h = absurd (omega arith)
first_at_rank v (x ∷ xs) zero l u h = ap (λ (w : Value). or_else w x (first_unknown v xs)) u
first_at_rank v (x ∷ xs) (suc k) l u h = passed (v x) x (first_unknown v xs) (h 0 (omega arith)) ∙ first_at_rank v xs k (omega arith) u (λ j m. h (suc j) (omega arith))

pub first_nowhere : (v : ℕ → Value) (order : List ℕ) → ((j : ℕ) → j < length order → v (get_or order j 0) ≡ Unknown → ⊥) → first_unknown v order ≡ None
first_nowhere v [] h = refl
first_nowhere v (x ∷ xs) h = passed (v x) x (first_unknown v xs) (h 0 (omega arith)) ∙ first_nowhere v xs (λ j m. h (suc j) (omega arith))

-- what is known stays known
pub known_still : (v w : ℕ → Value) → Below v w → (x : ℕ) → (v x ≡ Unknown → ⊥) → w x ≡ Unknown → ⊥
known_still v w h x n u = elim (view (v x)) [ inl e ↦ n e | inr k ↦ known_unknown k.0 (sym (h x k.0 k.1) ∙ u) ]

module _ (S : Sys) (proper : Proper S) (ds : List Decision) (σ : List Value) (l : Least S (base S.start ds) σ) where
  -- where no class with a rank is unknown, all are known: a find
  pub find_of : Stands S S.start ds → first_unknown (at σ) S.order ≡ None → (f : List Bool) × (σ ≡ map known f)
  find_of c e = by (filled σ) refl
    where
      by : (o : Option (List Bool)) → filled σ ≡ o → (f : List Bool) × (σ ≡ map known f)
      by None q = absurd (choice_some S proper ds c σ l q e)
      by (Some f) q = (f, filled_is σ f q)

  -- to decide the first unknown class and settle again is to settle with one decision more
  module _ (x : ℕ) (first : first_unknown (at σ) S.order ≡ Some x) (b : Bool) where
    within : x < length (base S.start ds)
    within = omega (arith, base_long S.start ds, proper.chosen x (first_in (at σ) S.order x first))

    pub decided_least : (τ : List Value) → Least S (set σ x (known b)) τ → Least S (base S.start (ds ++ sets x b ∷ [])) τ
    decided_least τ t =
        rw (base_append S.start ds (sets x b ∷ []))
        (least_then S (base S.start ds) σ x b (first_unknown_is (at σ) S.order x first) within l τ t)

    pub decided_dead : Dead S (set σ x (known b)) → Dead S (base S.start (ds ++ sets x b ∷ []))
    decided_dead d =
        rw (base_append S.start ds (sets x b ∷ []))
        (dead_then S (base S.start ds) σ x b (first_unknown_is (at σ) S.order x first) within l d)
