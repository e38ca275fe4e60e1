-- How cells are numbered, in words.
use Rattle.std.specs.Prelude.{◌≡◌, ℕ, ◌+◌, ◌*◌}
use Rattle.frames.specs.declared.frame.Frame.{Frame}
use Rattle.frames.specs.Frames.{cell_number}

-- from 0 at the top left of the first generation, one by one to the right, row by row downwards, and generation by generation
pub record NumbersRight (f : Frame) : Type 0 where
  pub first : cell_number f 0 0 0 ≡ 0
  pub right : (x y t : ℕ) → cell_number f (x + 1) y t ≡ cell_number f x y t + 1
  pub down : (x y t : ℕ) → cell_number f x (y + 1) t ≡ cell_number f x y t + f.width
  pub onward : (x y t : ℕ) → cell_number f x y (t + 1) ≡ cell_number f x y t + f.width * f.height

abbrev pub NumbersStand : Type 0
NumbersStand = (f : Frame) → NumbersRight f
