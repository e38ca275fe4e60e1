-- How many classes nothing is asked of, in the words of cells and rows.
use Rattle.std.specs.Prelude.{◌≡◌, ℕ, ◌<◌, ◌≤◌, Bool, List, length, slice_index}
use Rattle.frames.specs.Frames.{cells}
use Rattle.rolls.specs.Joined.{Joined}
use Rattle.rolls.specs.Rolls.{Surface}
use Rattle.classes.specs.Asked.{free_among, must}
use Rattle.classes.specs.Joins.{TiesInside}
use Rattle.classes.specs.Needed.{musts_in}

-- a cell that stands for a free class: the lowest of the cells joined to it, none of which any row asks to be off or on
pub record Leads (s : Surface) (c : ℕ) : Type 0 where
  pub in_box : c < cells s.frame
  pub lowest : (d : ℕ) → d < cells s.frame → Joined s c d → c ≤ d
  pub unasked : (row d : ℕ) (b : Bool) → row < s.rows → d < cells s.frame → Joined s c d → s.tie row d ≡ must b → ⊥

-- those cells, each once and rising, are as many as the classes that are counted as free
pub record FreeRight (s : Surface) : Type 0 where
  pub leads : List ℕ
  pub rising : (j k : ℕ) → j < k → k < length leads → slice_index leads j < slice_index leads k
  pub each : (k : ℕ) → k < length leads → Leads s (slice_index leads k)
  pub all : (c : ℕ) → Leads s c → (k : ℕ) × (k < length leads) × (slice_index leads k ≡ c)
  pub as_many : free_among (musts_in s) ≡ length leads

abbrev pub FreeStands : Type 0
FreeStands = (s : Surface) → TiesInside s → FreeRight s
