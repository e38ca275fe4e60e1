-- What it means that a text stands in a page.
use Rattle.std.specs.Prelude.{◌≡◌, ℕ, ◌+◌, ◌<◌, ◌≤◌, List, ◌++◌, length, take, drop, Ok, Err, Result}
use Rattle.pages.specs.declared.fault.PageFault.{PageFault}
use Rattle.pages.specs.declared.fault.PageFault.TheVariants.{Short}

-- the text stands from a place on, the rest is as it was, and `after` is the place after it
abbrev pub Placed : List ℕ → ℕ → List ℕ → List ℕ → ℕ → Type 0
Placed old at text new after = (after ≡ at + length text) × (new ≡ take at old ++ (text ++ drop (at + length text) old))

-- the same where the text fits from the place on; where it does not, page and place are as they were
pub record PlacedIfFits (old : List ℕ) (at : ℕ) (text new : List ℕ) (after : ℕ) : Type 0 where
  pub fits : at + length text ≤ length old → Placed old at text new after
  pub short : length old < at + length text → (after ≡ at) × (new ≡ old)

-- the text stands from the place on, or it does not fit from there on and the page is as it was
abbrev pub Written : List ℕ → ℕ → List ℕ → List ℕ → Result ℕ PageFault → Type 0
Written old at text new (Ok after) = (after ≤ length old) × Placed old at text new after
Written old at text new (Err Short) = (length old < at + length text) × (new ≡ old)
