-- The number of each value, and the value of each number.
use Rattle.std.specs.Prelude.{◌≡◌, ℕ, ◌<◌, ◌≤◌, Bool, true, cond, not, ◌==◌, Result}
use Rattle.std.specs.Result.{MatchResult}
use Rattle.codes.specs.declared.value.Value.{Value}
use Rattle.codes.specs.declared.value.UnknownNumber.{UnknownNumber}
use Rattle.codes.specs.declared.value.Value.TheVariants.{Off, On, Unknown}

abbrev pub number_of : Value → ℕ
number_of Off = 0
number_of On = 1
number_of Unknown = 2

abbrev pub value_of : ℕ → Value
value_of n = cond (n == 0) Off (cond (n == 1) On Unknown)

-- whether a value may be b: an unknown one may be either
abbrev pub agrees : Value → Bool → Bool
agrees Off b = not b
agrees On b = b
agrees Unknown b = true

-- a number below 3 is that of its value; any other names none, and is handed back
abbrev pub NumberNames : ℕ → Result Value UnknownNumber → Type 0
NumberNames number read = MatchResult read (λ value. (number < 3) × (value ≡ value_of number)) (λ fault. (3 ≤ number) × (fault ≡ record { 0 = number }))
