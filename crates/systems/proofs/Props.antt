-- What settling comes to has one proof at most, so that a type can carry it, truncated, and give it back whole.
-- Some of these lemmas no proof cites yet; they stay, since nothing else says what they say.
use Rattle.std.proofs.Common.{ℕ, false, List, length, refl}
use mathlib.Core.Bool.{Bool-set}
use mathlib.Core.HLevel.{Discrete, hedberg, Π_prop, ¬_prop}
use mathlib.Core.Logic.{∥∥₁_elim}
use native.Mathlib.Decide.{ℕ_discrete}
use Rattle.codes.specs.declared.value.Value.{Value}
use Rattle.codes.specs.declared.value.Value.TheVariants.{Off, On, Unknown}
use Rattle.codes.specs.Laws.{known}
use Rattle.systems.specs.Systems.{Sys, at, code_for, Below}
use Rattle.systems.specs.Settling.{Closed, Least, Dead}
use Rattle.systems.specs.Trails.{QuietBut}
use Rattle.systems.proofs.Base.{never}

value_discrete : Discrete Value
value_discrete Off Off = yes refl
value_discrete On On = yes refl
value_discrete Unknown Unknown = yes refl
value_discrete Off On = no (λ e. never (cc))
value_discrete Off Unknown = no (λ e. never (cc))
value_discrete On Off = no (λ e. never (cc))
value_discrete On Unknown = no (λ e. never (cc))
value_discrete Unknown Off = no (λ e. never (cc))
value_discrete Unknown On = no (λ e. never (cc))

value_set : IsSet Value
value_set = hedberg value_discrete

below_prop : (v w : ℕ → Value) → IsProp (Below v w)
below_prop v w = Π_prop (λ x. Π_prop (λ b. Π_prop (λ e. value_set (w x) (known b))))

closed_prop : (S : Sys) (v : ℕ → Value) → IsProp (Closed S v)
closed_prop S v c d = λ i. record {
  not_torn = Bool-set S.torn false c.not_torn d.not_torn i;
  quiet = Π_prop (λ j. Π_prop (λ m. hedberg ℕ_discrete (code_for S.rule v j) 0)) c.quiet d.quiet i;
}

pub least_prop : (S : Sys) (ρ σ : List Value) → IsProp (Least S ρ σ)
least_prop S ρ σ s t = λ i. record {
  closed = closed_prop S (at σ) s.closed t.closed i;
  above = below_prop (at ρ) (at σ) s.above t.above i;
  least = Π_prop (λ v. Π_prop (λ c. Π_prop (λ h. below_prop (at σ) v))) s.least t.least i;
  long = hedberg ℕ_discrete (length σ) (length ρ) s.long t.long i;
}

pub least_of : (S : Sys) (ρ σ : List Value) → ∥ Least S ρ σ ∥₁ → Least S ρ σ
least_of S ρ σ t = ∥∥₁_elim t (least_prop S ρ σ) (λ s. s)

pub dead_prop : (S : Sys) (ρ : List Value) → IsProp (Dead S ρ)
dead_prop S ρ = Π_prop (λ v. Π_prop (λ c. ¬_prop))

pub quiet_prop : (S : Sys) (v : ℕ → Value) (xs : List ℕ) → IsProp (QuietBut S v xs)
quiet_prop S v xs = Π_prop (λ i. Π_prop (λ m. Π_prop (λ o. hedberg ℕ_discrete (code_for S.rule v i) 0)))
