-- What the numbers of classes come to, in the words of chains of ties.
use Rattle.std.specs.Prelude.{◌≡◌, ℕ, ◌<◌, length, slice_index}
use Rattle.frames.specs.Frames.{cells}
use Rattle.rolls.specs.Joined.{Joined}
use Rattle.rolls.specs.Rolls.{Surface}
use Rattle.classes.specs.Joins.{TiesInside, label_of}
use Rattle.classes.specs.Labels.{joined_labels}
use Rattle.classes.specs.Numbers.{Numbers, numbers_of}

-- the classes of a surface, as they are found
abbrev pub numbers_in : Surface → Numbers
numbers_in s = numbers_of (joined_labels s.frame s.rows s.tie)

-- the class of a cell, the lowest cell of a class, and how many classes there are
abbrev pub class_of : Surface → ℕ → ℕ
class_of s c = slice_index (numbers_in s).classes c

abbrev pub lowest_of : Surface → ℕ → ℕ
lowest_of s j = slice_index (numbers_in s).lowest j

abbrev pub class_count : Surface → ℕ
class_count s = length (numbers_in s).lowest

-- every cell has a class; two cells have one class exactly when they are joined; each class has its lowest cell; and classes are numbered in the sequence of these
pub record ClassesRight (s : Surface) : Type 0 where
  pub long : length (numbers_in s).classes ≡ cells s.frame
  pub within : (a : ℕ) → a < cells s.frame → class_of s a < class_count s
  pub joins : (a b : ℕ) → a < cells s.frame → b < cells s.frame → Joined s a b → class_of s a ≡ class_of s b
  pub joined : (a b : ℕ) → a < cells s.frame → b < cells s.frame → class_of s a ≡ class_of s b → Joined s a b
  -- the lowest cell of a cell's class is the lowest cell that is joined to it
  pub lowest : (a : ℕ) → a < cells s.frame → lowest_of s (class_of s a) ≡ label_of s a
  pub in_box : (j : ℕ) → j < class_count s → lowest_of s j < cells s.frame
  pub begun : (j : ℕ) → j < class_count s → class_of s (lowest_of s j) ≡ j
  pub rising : (j k : ℕ) → j < k → k < class_count s → lowest_of s j < lowest_of s k

abbrev pub ClassesStand : Type 0
ClassesStand = (s : Surface) → TiesInside s → ClassesRight s
