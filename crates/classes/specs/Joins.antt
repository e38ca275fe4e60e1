-- What the labels come to, in the words of chains of ties.
use Rattle.std.specs.Prelude.{◌≡◌, ℕ, ◌<◌, ◌≤◌, slice_index}
use Rattle.frames.specs.Frames.{cells}
use Rattle.planes.specs.Ties.{Within}
use Rattle.rolls.specs.Joined.{Joined}
use Rattle.rolls.specs.Rolls.{Surface}
use Rattle.classes.specs.Labels.{joined_labels}

-- the label of a cell once every tie has been taken
abbrev pub label_of : Surface → ℕ → ℕ
label_of s c = slice_index (joined_labels s.frame s.rows s.tie) c

-- the cells that ties name exist
abbrev pub TiesInside : Surface → Type 0
TiesInside s = (row c : ℕ) → row < s.rows → c < cells s.frame → Within (cells s.frame) (s.tie row c)

-- cells have one label exactly when they are joined, and the label is the lowest cell that is joined to them
pub record LabelsRight (s : Surface) : Type 0 where
  pub joins : (a b : ℕ) → Joined s a b → label_of s a ≡ label_of s b
  pub joined : (a b : ℕ) → a < cells s.frame → b < cells s.frame → label_of s a ≡ label_of s b → Joined s a b
  pub own : (a : ℕ) → a < cells s.frame → Joined s a (label_of s a)
  pub lowest : (a b : ℕ) → b < cells s.frame → Joined s a b → label_of s a ≤ b

abbrev pub LabelsStand : Type 0
LabelsStand = (s : Surface) → TiesInside s → LabelsRight s
