-- The ties of a space, row by row.
use Rattle.std.specs.Prelude.{◌≡◌, ℕ, ◌+◌, ◌/◌, ◌%◌, ◌<◌, ◌≤◌, Option, MatchOption}
use Rattle.planes.specs.declared.tie.Tie.{Tie}
use Rattle.planes.specs.Ties.{Within}

-- a cell and its tie that were taken out, of rows of so many cells: those of number n, before the last; the next number is after
pub record TakenOut (tie : ℕ → ℕ → Tie) (size n last after : ℕ) (x : ℕ × Tie) : Type 0 where
  pub below : n < last
  pub onward : after ≡ n + 1
  pub cell : x.0 ≡ n % size
  pub asks : x.1 ≡ tie (n / size) (n % size)
  pub within : Within size x.1

-- what is given where the next number was n: its cell and tie, or nothing from the last on
abbrev pub GivesTie : (ℕ → ℕ → Tie) → ℕ → ℕ → ℕ → ℕ → Option (ℕ × Tie) → Type 0
GivesTie tie size n last after r = MatchOption r (last ≤ n) (TakenOut tie size n last after)
