-- Which five numbers make a frame, and which refusal each others are due.
use Rattle.std.specs.Prelude.{◌≡◌, ℕ, ◌*◌, ◌≤◌, ℤ, pos, negsuc, ◌≤ℤ◌, Ok, Err}
use Rattle.frames.specs.declared.fault.FrameFault.TheVariants.{Size, Period, Cells, Drift}
use Rattle.frames.specs.Frames.{built}

-- a number from low to high, both included
abbrev pub Between : ℕ → ℕ → ℕ → Type 0
Between low high n = (low ≤ n) × (n ≤ high)

-- a drift from -8 to 8
abbrev pub Slow : ℤ → Type 0
Slow d = (negsuc 7 ≤ℤ d) × (d ≤ℤ pos 8)

-- width and height are 1 to 32, the period is 1 to 16, there are at most 4,096 cells, and both drifts are from -8 to 8
abbrev pub Sized : ℕ → ℕ → Type 0
Sized w h = Between 1 32 w × Between 1 32 h

abbrev pub Lasting : ℕ → Type 0
Lasting p = Between 1 16 p

abbrev pub Small : ℕ → ℕ → ℕ → Type 0
Small w h p = w * h * p ≤ 4096

abbrev pub Slowly : ℤ → ℤ → Type 0
Slowly dx dy = Slow dx × Slow dy

-- five numbers that keep all four limits make the frame of just these numbers; all others are refused by the first limit that they break
pub record FrameRight (w h p : ℕ) (dx dy : ℤ) : Type 0 where
  pub made : Sized w h → Lasting p → Small w h p → Slowly dx dy → built w h p dx dy ≡ Ok (record { width = w; height = h; period = p; dx = dx; dy = dy })
  pub size : (Sized w h → ⊥) → built w h p dx dy ≡ Err Size
  pub period : Sized w h → (Lasting p → ⊥) → built w h p dx dy ≡ Err Period
  pub cells : Sized w h → Lasting p → (Small w h p → ⊥) → built w h p dx dy ≡ Err Cells
  pub drift : Sized w h → Lasting p → Small w h p → (Slowly dx dy → ⊥) → built w h p dx dy ≡ Err Drift

abbrev pub FramesStand : Type 0
FramesStand = (w h p : ℕ) (dx dy : ℤ) → FrameRight w h p dx dy
