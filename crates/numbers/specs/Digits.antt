-- The one row of digits that stands for a number.
use Rattle.std.specs.Prelude.{◌≡◌, ℕ, ◌^◌, ◌<◌, List, length, decimal, slice_index}
use Rattle.std.specs.Str.Parse.{AllDigits, digits_value}

-- a row of digits stands for a number: it is not empty, each byte is one of `0` to `9`, a zero comes first only in the row `0`,
-- and each digit counts ten times the one after it
pub record StandsFor (n : ℕ) (row : List ℕ) : Type 0 where
  pub some : 0 < length row
  pub digits : AllDigits 10 row
  pub lead : slice_index row 0 ≡ 48 → length row ≡ 1
  pub value : digits_value 10 row ≡ n

-- for each number of 64 bits one row of digits stands, its decimal digits, and no other
abbrev pub OneRow : Type 0
OneRow = (n : ℕ) → n < 2 ^ 64 → StandsFor n (decimal n) × ((row : List ℕ) → StandsFor n row → row ≡ decimal n)
