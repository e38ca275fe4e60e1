-- What a fix comes to, in the words of what is asked of cells.
use Rattle.std.specs.Prelude.{◌≡◌, ℕ, ◌+◌, ◌<◌, ◌≤◌, Bool, List, length, Some, None, Ok, Err}
use Rattle.frames.specs.declared.frame.Frame.{Frame}
use Rattle.frames.specs.Frames.{number_at}
use Rattle.planes.specs.declared.fault.FixFault.TheVariants.{NoCell, Held, Full}
use Rattle.planes.specs.declared.pins.Pin.{Pin}
use Rattle.planes.specs.declared.tie.Tie.TheVariants.{Free}
use Rattle.planes.specs.Layers.{must}
use Rattle.planes.specs.Pins.{fixed_cell, pinned}

-- the value is asked of one cell more, and of every other cell what was asked before
pub record AsksToo (before after : List Pin) (cell : ℕ) (on : Bool) : Type 0 where
  pub asked : pinned after cell ≡ must on
  pub others : (c : ℕ) → (c ≡ cell → ⊥) → pinned after c ≡ pinned before c
  pub one_more : length after ≡ length before + 1

-- a cell that the box has not is refused with 7; one of which a value is asked with 8; and any other with 9 where 64 are held, else it is granted
pub record FixRight (f : Frame) (pins : List Pin) (x y t : ℕ) (on : Bool) : Type 0 where
  pub no_cell : number_at f (record { x = x; y = y; t = t }) ≡ None → fixed_cell f pins x y t on ≡ Err NoCell
  pub held : (cell : ℕ) → number_at f (record { x = x; y = y; t = t }) ≡ Some cell → (pinned pins cell ≡ Free → ⊥) → fixed_cell f pins x y t on ≡ Err Held
  pub full : (cell : ℕ) → number_at f (record { x = x; y = y; t = t }) ≡ Some cell → pinned pins cell ≡ Free → 64 ≤ length pins → fixed_cell f pins x y t on ≡ Err Full
  pub granted : (cell : ℕ) → number_at f (record { x = x; y = y; t = t }) ≡ Some cell → pinned pins cell ≡ Free → length pins < 64 → (after : List Pin) × (fixed_cell f pins x y t on ≡ Ok after) × AsksToo pins after cell on

abbrev pub FixesStand : Type 0
FixesStand = (f : Frame) (pins : List Pin) (x y t : ℕ) (on : Bool) → FixRight f pins x y t on
