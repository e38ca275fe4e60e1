-- What a layer asks, in the words of its rows: those below as they are, then its own.
use Rattle.std.specs.Prelude.{◌≡◌, ℕ, ◌+◌, ◌<◌, ◌≤◌, Bool, Some}
use Rattle.frames.specs.declared.frame.Frame.{Frame}
use Rattle.frames.specs.Frames.{number_at}
use Rattle.planes.specs.declared.tie.Tie.{Tie}
use Rattle.planes.specs.declared.tie.Tie.TheVariants.{Free}
use Rattle.planes.specs.Layers.{must}

-- a layer of `all` rows with these ties, over a space of so many rows, where the layer's own row asks `own`
pub record LayerRight (rows : ℕ) (below : ℕ → ℕ → Tie) (own : ℕ → Tie) (all : ℕ) (tie : ℕ → ℕ → Tie) : Type 0 where
  pub as_below : (row cell : ℕ) → row < rows → tie row cell ≡ below row cell
  -- over fewer than 1,000 rows there is one more, and that is the layer's own
  pub one_row_more : rows < 1000 → all ≡ rows + 1
  pub its_own : rows < 1000 → (cell : ℕ) → tie rows cell ≡ own cell
  -- over 1,000 none is added
  pub no_row_more : 1000 ≤ rows → all ≡ rows
  -- past the last row nothing is asked
  pub beyond : (row cell : ℕ) → all ≤ row → tie row cell ≡ Free

-- what a layer over so many rows asks before and after a cell at column x, row y and generation t was fixed
pub record FixAsks (f : Frame) (rows x y t : ℕ) (on : Bool) (before after : ℕ → ℕ → Tie) : Type 0 where
  pub cell : ℕ
  pub number : number_at f (record { x = x; y = y; t = t }) ≡ Some cell
  -- the layer's own row, where it has one, asks the value of that cell
  pub asked : rows < 1000 → after rows cell ≡ must on
  -- and each other tie is as it was
  pub others : (row c : ℕ) → ((row ≡ rows) × (c ≡ cell) → ⊥) → after row c ≡ before row c
