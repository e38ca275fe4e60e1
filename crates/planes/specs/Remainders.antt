-- What a remainder is, in words.
use Rattle.std.specs.Prelude.{◌≡◌, ℕ, ◌<◌, ◌≤◌, ℤ, pos, ◌+ℤ◌, ◌*ℤ◌}
use Rattle.planes.specs.Looks.{wrap}

-- a place below n that differs from the number by a multiple of n
pub record RemainderRight (n : ℕ) (c : ℤ) : Type 0 where
  pub below : wrap n c < n
  pub times : ℤ
  pub apart : c ≡ pos (wrap n c) +ℤ times *ℤ pos n

abbrev pub RemaindersStand : Type 0
RemaindersStand = (n : ℕ) (c : ℤ) → 1 ≤ n → RemainderRight n c
