-- The laws of settling.
use Rattle.std.specs.Prelude.{◌≡◌, ℕ, ◌+◌, ◌<◌, Bool, ◌⊎◌, List, map, length, Some, None, slice_set}
use Rattle.codes.specs.declared.value.Value.{Value}
use Rattle.codes.specs.declared.value.Value.TheVariants.{Unknown}
use Rattle.codes.specs.Laws.{known}
use Rattle.systems.specs.Systems.{Sys, at, Below, unknowns, whole, Sol, Proper}
use Rattle.systems.specs.Settling.{Step, Steps, Settles, Meets, Least, Dead, settled}

-- what settling comes to, whatever its sequence
pub record SettlingLaws : Type 0 where
  -- it ends: each step leaves one unknown class fewer, and from any values some sequence ends closed or at a contradiction
  pub fewer : (S : Sys) → Proper S → (ρ ρ' : List Value) → length ρ ≡ length S.start → Step S ρ ρ' → unknowns ρ' + 1 ≡ unknowns ρ
  pub ends : (S : Sys) → Proper S → (ρ : List Value) → length ρ ≡ length S.start → ((σ : List Value) × Settles S ρ σ) ⊎ Meets S ρ
  -- whatever the sequence: closed values are the least above, and at a contradiction there are none
  pub comes_least : (S : Sys) (ρ σ : List Value) → Settles S ρ σ → Least S ρ σ
  pub comes_dead : (S : Sys) (ρ : List Value) → Meets S ρ → Dead S ρ
  -- so two sequences end at the same values, and not one at values and one at a contradiction
  pub one : (S : Sys) (ρ σ τ : List Value) → Settles S ρ σ → Settles S ρ τ → σ ≡ τ
  pub not_both : (S : Sys) (ρ σ : List Value) → Settles S ρ σ → Meets S ρ → ⊥
  -- to settle, decide a class and settle again is to decide it and settle
  pub again : (S : Sys) (ρ σ τ : List Value) (x : ℕ) (b : Bool) → at σ x ≡ Unknown → x < length ρ → Least S ρ σ → Least S (slice_set σ x (known b)) τ → Least S (slice_set ρ x (known b)) τ
  pub again_dead : (S : Sys) (ρ σ : List Value) (x : ℕ) (b : Bool) → at σ x ≡ Unknown → x < length ρ → Least S ρ σ → Dead S (slice_set σ x (known b)) → Dead S (slice_set ρ x (known b))
  -- settling as it is computed is such a sequence
  pub computed : (S : Sys) → Proper S → (ρ σ : List Value) → length ρ ≡ length S.start → settled S ρ ≡ Some σ → Settles S ρ σ
  pub computed_dead : (S : Sys) → Proper S → (ρ : List Value) → length ρ ≡ length S.start → settled S ρ ≡ None → Meets S ρ

-- settling and the fillings of the classes
pub record FillingLaws : Type 0 where
  -- a solution that agrees with what is known agrees with everything that is forced
  pub forced : (S : Sys) (f : List Bool) → Sol S f → (ρ σ : List Value) → Below (at ρ) (whole f) → Steps S ρ σ → Below (at σ) (whole f)
  -- and lets no contradiction arise
  pub possible : (S : Sys) (f : List Bool) → Sol S f → (ρ : List Value) → Below (at ρ) (whole f) → Meets S ρ → ⊥
  -- where everything is known and no contradiction was met, the filling is a solution
  pub full : (S : Sys) → Proper S → (f : List Bool) (ρ : List Value) → length ρ ≡ length S.start → Below (at S.start) (at ρ) → Settles S ρ (map known f) → Sol S f
