-- Cells and their numbers. A cell's number has the digits t, y and x.
use Rattle.std.proofs.Common.{◌≡◌, ℕ, ◌+◌, ◌*◌, ◌/◌, ◌%◌, ◌<◌, ◌≤◌, Some, None, sym, subst, arith}
use Rattle.std.proofs.lemmas.Bool.{cond-true, and_from, lt-ltb}
use Rattle.frames.specs.declared.frame.Cell.{Cell}
use Rattle.frames.specs.declared.frame.Frame.{Frame}
use Rattle.frames.specs.Frames.{cell_number, number_at}
use Rattle.frames.specs.Numbers.{NumbersStand}
use Rattle.frames.specs.Radix.{joined, joined_digits, joined_below, high_below, last_of, middle_of, first_of, last_first}

-- a cell of the box has a number below the number of cells
pub number_below : (w h p x y t : ℕ) → x < w → y < h → t < p → (t * h + y) * w + x < w * h * p
number_below w h p x y t hx hy ht = subst (λ n. joined h w t y x < n) (last_first w h p) (joined_below p h w t y x ht hy hx)

-- and the generation of a number below that is below the period
pub generation_below : (w h p n : ℕ) → 1 ≤ w → 1 ≤ h → n < w * h * p → n / w / h < p
generation_below w h p n hw hh less = high_below p h w n hh hw (subst (λ m. n < m) (sym (last_first w h p)) less)

-- the cell of a cell's number is that cell
module _ (w h x y t : ℕ) (hx : x < w) (hy : y < h) where
  pub column_back : ((t * h + y) * w + x) % w ≡ x
  column_back = last_of h w t y x hx

  pub row_back : ((t * h + y) * w + x) / w % h ≡ y
  row_back = middle_of h w t y x hy hx

  pub generation_back : ((t * h + y) * w + x) / w / h ≡ t
  generation_back = first_of h w t y x hy hx

-- the number of a number's cell is that number
pub number_back : (w h n : ℕ) → (n / w / h * h + n / w % h) * w + n % w ≡ n
number_back w h n = joined_digits h w n

-- a cell of the box has its number
pub numbered : (f : Frame) (c : Cell) → c.x < f.width → c.y < f.height → c.t < f.period → number_at f c ≡ Some (cell_number f c.x c.y c.t)
numbered f c hx hy ht = cond-true _ _ None (and_from _ _ (and_from _ _ (lt-ltb _ _ hx) (lt-ltb _ _ hy)) (lt-ltb _ _ ht))

-- and numbers go on by ones, rows and generations
pub numbers_right : NumbersStand
numbers_right f = record {
  first = omega arith;
  right = λ x y t. omega arith;
  down = λ x y t. omega arith;
  onward = λ x y t. omega arith;
}
