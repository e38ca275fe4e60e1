-- What a frame is made of, which numbers make one, and the numbers of its cells.
use Rattle.std.specs.Prelude.{ℕ, ◌+◌, ◌*◌, ◌/◌, ◌%◌, Bool, cond, ◌&&◌, ℤ, pos, negsuc, Some, None, Ok, Err, Option, Result, nat_le, nat_lt}
use Rattle.frames.specs.declared.frame.Frame.{Frame}
use Rattle.frames.specs.declared.frame.Cell.{Cell}
use Rattle.frames.specs.declared.fault.FrameFault.{FrameFault}
use Rattle.frames.specs.declared.fault.FrameFault.TheVariants.{Size, Period, Cells, Drift}

-- a frame's five numbers, without the proofs of its limits
pub record Shape : Type 0 where
  pub width : ℕ
  pub height : ℕ
  pub period : ℕ
  pub dx : ℤ
  pub dy : ℤ

abbrev pub shape_of : Frame → Shape
shape_of f = record { width = f.width; height = f.height; period = f.period; dx = f.dx; dy = f.dy }

-- from low to high, both included
abbrev pub between : ℕ → ℕ → ℕ → Bool
between low high n = nat_le low n && nat_le n high

-- from -8 to 8
abbrev pub slow : ℤ → Bool
slow (pos n) = nat_le n 8
slow (negsuc n) = nat_le n 7

-- the frame of five numbers, or the first limit that they break
abbrev pub built : ℕ → ℕ → ℕ → ℤ → ℤ → Result Shape FrameFault
built w h p dx dy =
    cond (between 1 32 w && between 1 32 h)
    (cond (between 1 16 p)
    (cond (nat_le (w * h * p) 4096)
    (cond (slow dx && slow dy)
    (Ok (record { width = w; height = h; period = p; dx = dx; dy = dy }))
    (Err Drift)) (Err Cells)) (Err Period)) (Err Size)

-- what an answer says of the frame that it holds
abbrev pub shown : Result Frame FrameFault → Result Shape FrameFault
shown (Ok f) = Ok (shape_of f)
shown (Err e) = Err e

-- how many cells there are, in all generations
abbrev pub cells : Frame → ℕ
cells f = f.width * f.height * f.period

-- the number of the cell at column x, row y, generation t
abbrev pub cell_number : Frame → ℕ → ℕ → ℕ → ℕ
cell_number f x y t = (t * f.height + y) * f.width + x

-- the same, or nothing for a cell outside the box
abbrev pub number_at : Frame → Cell → Option ℕ
number_at f c = cond (nat_lt c.x f.width && nat_lt c.y f.height && nat_lt c.t f.period) (Some (cell_number f c.x c.y c.t)) None

-- the cell of a number below `cells`
abbrev pub cell_at : Frame → ℕ → Cell
cell_at f n = record { x = n % f.width; y = n / f.width % f.height; t = n / f.width / f.height }
