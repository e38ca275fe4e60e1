-- Worked examples of classes, in a box of two by two: cells 0 and 1 above 2 and 3.
use Rattle.std.specs.Prelude.{◌≡◌, ℕ, Bool, true, false, cond, [], ◌∷◌, ◌==◌}
use Rattle.planes.specs.Layers.{mirror_tie, must}
use Rattle.planes.specs.Looks.{plain_look}
use Rattle.planes.specs.declared.tie.Tie.{Tie}
use Rattle.planes.specs.declared.tie.Tie.TheVariants.{Free}
use Rattle.rolls.specs.Examples.{two_by_two}
use Rattle.rolls.specs.Rolls.{Surface}
use Rattle.classes.specs.Asked.{free_among, torn_among}
use Rattle.classes.specs.Classed.{numbers_in}
use Rattle.classes.specs.Needed.{musts_in}

-- three rows: a mirror of the kind of a number, then a must for cell 1, then one for cell 2
abbrev pub mirrored : ℕ → Bool → Bool → ℕ → ℕ → Tie
mirrored number first second row cell =
    cond (row == 0) (mirror_tie two_by_two number cell)
    (cond (row == 1) (cond (cell == 1) (must first) Free) (cond (cell == 2) (must second) Free))

-- the box on a plain plane with the first of these rows
abbrev pub rows_of : ℕ → ℕ → Bool → Bool → Surface
rows_of rows number first second = record { frame = two_by_two; look = plain_look two_by_two; rows = rows; tie = mirrored number first second }

pub record ClassesWorked : Type 0 where
  -- without ties each cell is a class by itself, and all are free
  pub alone : numbers_in (rows_of 0 0 true true) ≡ record { classes = 0 ∷ 1 ∷ 2 ∷ 3 ∷ []; lowest = 0 ∷ 1 ∷ 2 ∷ 3 ∷ [] }
  pub all_free : free_among (musts_in (rows_of 0 0 true true)) ≡ 4
  -- left and right change places: two classes, whose lowest cells are 0 and 2
  pub across : numbers_in (rows_of 1 1 true true) ≡ record { classes = 0 ∷ 0 ∷ 1 ∷ 1 ∷ []; lowest = 0 ∷ 2 ∷ [] }
  pub across_free : free_among (musts_in (rows_of 1 1 true true)) ≡ 2
  -- at the diagonal from the top left: cells 1 and 2 are joined, and the classes are numbered by their lowest cells
  pub diagonal : numbers_in (rows_of 1 4 true true) ≡ record { classes = 0 ∷ 1 ∷ 1 ∷ 2 ∷ []; lowest = 0 ∷ 1 ∷ 3 ∷ [] }
  pub diagonal_free : free_among (musts_in (rows_of 1 4 true true)) ≡ 3
  -- a quarter turn: chains of ties join all four
  pub turned : numbers_in (rows_of 1 6 true true) ≡ record { classes = 0 ∷ 0 ∷ 0 ∷ 0 ∷ []; lowest = 0 ∷ [] }
  pub turned_free : free_among (musts_in (rows_of 1 6 true true)) ≡ 1
  -- cell 1 has to be on: what is asked of one cell is asked of its class, which is known from the start
  pub known : musts_in (rows_of 2 4 true true) ≡ record { off = false; on = false } ∷ record { off = false; on = true } ∷ record { off = false; on = false } ∷ []
  pub two_free : free_among (musts_in (rows_of 2 4 true true)) ≡ 2
  pub whole : torn_among (musts_in (rows_of 2 4 true true)) ≡ false
  -- cell 2 has to be off besides: the class of both is torn, and no more free than before
  pub torn : torn_among (musts_in (rows_of 3 4 true false)) ≡ true
  pub still_two : free_among (musts_in (rows_of 3 4 true false)) ≡ 2
