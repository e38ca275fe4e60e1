-- What is asked of classes, in the words of their cells.
use Rattle.std.specs.Prelude.{◌≡◌, ℕ, ◌*◌, ◌<◌, Bool, true, List, length, slice_index_or}
use Rattle.frames.specs.Frames.{cells}
use Rattle.rolls.specs.Rolls.{Surface}
use Rattle.classes.specs.declared.classes.Musts.{Musts}
use Rattle.classes.specs.Asked.{asked_after, asks, must, unasked}
use Rattle.classes.specs.Classed.{numbers_in, class_of, class_count}
use Rattle.classes.specs.Joins.{TiesInside}

-- what is asked of each class of a surface, as it is found
abbrev pub musts_in : Surface → List Musts
musts_in s = asked_after s.tie (cells s.frame) (numbers_in s).classes (class_count s) (s.rows * cells s.frame)

-- a cell of a class that some row asks to be off or on
pub record AskedOf (s : Surface) (j : ℕ) (b : Bool) : Type 0 where
  pub row : ℕ
  pub cell : ℕ
  pub in_row : row < s.rows
  pub in_box : cell < cells s.frame
  pub in_class : class_of s cell ≡ j
  pub tie : s.tie row cell ≡ must b

-- off or on is asked of a class exactly when a row asks it of one of its cells
pub record MustsRight (s : Surface) : Type 0 where
  pub long : length (musts_in s) ≡ class_count s
  pub asked : (j : ℕ) (b : Bool) → AskedOf s j b → asks b (slice_index_or (musts_in s) j unasked) ≡ true
  pub only : (j : ℕ) (b : Bool) → asks b (slice_index_or (musts_in s) j unasked) ≡ true → AskedOf s j b

abbrev pub MustsStand : Type 0
MustsStand = (s : Surface) → TiesInside s → MustsRight s
