-- What a tie may be: a cell that it names exists, and out of range nothing is asked.
use Rattle.std.specs.Prelude.{◌≡◌, ℕ, ◌<◌, ◌≤◌}
use Rattle.planes.specs.declared.tie.Tie.{Tie}
use Rattle.planes.specs.declared.tie.Tie.TheVariants.{Free, Off, On, Same}

-- a cell that is named has a number below n
abbrev pub Within : ℕ → Tie → Type 0
Within n Free = Unit {0}
Within n Off = Unit {0}
Within n On = Unit {0}
Within n (Same c) = c < n

-- the tie t of a row and a cell, of so many rows and n cells
pub record TieIn (rows n row cell : ℕ) (t : Tie) : Type 0 where
  pub within : Within n t
  pub past_rows : rows ≤ row → t ≡ Free
  pub past_cells : n ≤ cell → t ≡ Free
