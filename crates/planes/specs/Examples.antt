-- Worked examples of looks and ties, in a box of three columns and two rows: cells 0 1 2 above 3 4 5.
use Rattle.std.specs.Prelude.{◌≡◌, ℕ, true, false, List, [], ◌∷◌, pos, negsuc, Some, None, Ok, Err}
use Rattle.std.proofs.Common.{lit≤}
use Rattle.frames.specs.declared.frame.Frame.{Frame}
use Rattle.planes.specs.declared.fault.FixFault.TheVariants.{NoCell, Held}
use Rattle.planes.specs.declared.pins.Pin.{Pin}
use Rattle.planes.specs.declared.tie.Tie.{Tie}
use Rattle.planes.specs.declared.tie.Tie.TheVariants.{Free, Off, On, Same}
use Rattle.planes.specs.Layers.{mirror_tie, one_more}
use Rattle.planes.specs.Looks.{plain_look, torus_look, cylinder_look}
use Rattle.planes.specs.Pins.{fixed_cell, own_tie}

abbrev pub three_by_two : Frame
three_by_two = record {
  width = 3;
  height = 2;
  period = 1;
  dx = pos 0;
  dy = pos 0;
  wide = lit≤ tt;
  narrow = lit≤ tt;
  tall = lit≤ tt;
  low = lit≤ tt;
  lasting = lit≤ tt;
  short = lit≤ tt;
  small = lit≤ tt;
  left = record { le = tt };
  right = record { le = tt };
  up = record { le = tt };
  down = record { le = tt };
}

-- what a mirror of the kind of a number asks of cells 0 to 5
abbrev pub mirrored : ℕ → List Tie
mirrored number =
    mirror_tie three_by_two number 0 ∷ mirror_tie three_by_two number 1 ∷ mirror_tie three_by_two number 2
    ∷ mirror_tie three_by_two number 3 ∷ mirror_tie three_by_two number 4 ∷ mirror_tie three_by_two number 5 ∷ []

-- the same box in two generations: the second one has the cells 6 7 8 above 9 10 11
abbrev pub three_by_two_twice : Frame
three_by_two_twice = record three_by_two { period = 2; lasting = lit≤ tt; short = lit≤ tt; small = lit≤ tt }

-- what a mirror of the kind of a number asks of the cells of its second generation
abbrev pub mirrored_later : ℕ → List Tie
mirrored_later number =
    mirror_tie three_by_two_twice number 6 ∷ mirror_tie three_by_two_twice number 7 ∷ mirror_tie three_by_two_twice number 8
    ∷ mirror_tie three_by_two_twice number 9 ∷ mirror_tie three_by_two_twice number 10 ∷ mirror_tie three_by_two_twice number 11 ∷ []

-- cell 1 has to be on
abbrev pub one_pin : List Pin
one_pin = record { cell = 1; on = true } ∷ []

pub record PlanesWorked : Type 0 where
  -- left of column 0: nothing on the plain plane, column 2 where columns go round
  pub plain : plain_look three_by_two (negsuc 0) (pos 1) ≡ None
  pub torus : torus_look three_by_two (negsuc 0) (pos 2) ≡ Some (record { x = 2; y = 0 })
  pub cylinder : cylinder_look three_by_two (negsuc 0) (pos 1) ≡ Some (record { x = 2; y = 1 })
  pub cylinder_ends : cylinder_look three_by_two (negsuc 0) (pos 2) ≡ None
  -- at both ends of the range the remainder is not negative
  pub far : torus_look three_by_two (negsuc 2147483647) (pos 2147483647) ≡ Some (record { x = 1; y = 1 })
  -- the images by their cells; a cell whose image lies outside has to be off
  pub left_right : mirrored 1 ≡ Same 2 ∷ Same 1 ∷ Same 0 ∷ Same 5 ∷ Same 4 ∷ Same 3 ∷ []
  pub top_bottom : mirrored 2 ≡ Same 3 ∷ Same 4 ∷ Same 5 ∷ Same 0 ∷ Same 1 ∷ Same 2 ∷ []
  pub half_turn : mirrored 3 ≡ Same 5 ∷ Same 4 ∷ Same 3 ∷ Same 2 ∷ Same 1 ∷ Same 0 ∷ []
  pub falling : mirrored 4 ≡ Same 0 ∷ Same 3 ∷ Off ∷ Same 1 ∷ Same 4 ∷ Off ∷ []
  pub rising : mirrored 5 ≡ Off ∷ Same 5 ∷ Same 2 ∷ Off ∷ Same 4 ∷ Same 1 ∷ []
  pub quarter_turn : mirrored 6 ≡ Same 2 ∷ Same 5 ∷ Off ∷ Same 1 ∷ Same 4 ∷ Off ∷ []
  -- an image lies in the generation of its cell
  pub left_right_later : mirrored_later 1 ≡ Same 8 ∷ Same 7 ∷ Same 6 ∷ Same 11 ∷ Same 10 ∷ Same 9 ∷ []
  pub quarter_turn_later : mirrored_later 6 ≡ Same 8 ∷ Same 11 ∷ Off ∷ Same 7 ∷ Same 10 ∷ Off ∷ []
  -- any other kind asks nothing
  pub untied : mirrored 0 ≡ Free ∷ Free ∷ Free ∷ Free ∷ Free ∷ Free ∷ []
  pub untied_too : mirrored 7 ≡ mirrored 0
  -- a pin asks its value of its cell, and nothing of another
  pub pinned : own_tie three_by_two one_pin 1 ≡ On
  pub unpinned : own_tie three_by_two one_pin 2 ≡ Free
  -- a cell that is held is refused with whichever value, and a column that the box has not
  pub held : fixed_cell three_by_two one_pin 1 0 0 false ≡ Err Held
  pub no_cell : fixed_cell three_by_two one_pin 3 0 0 true ≡ Err NoCell
  pub fixed : fixed_cell three_by_two [] 1 0 0 true ≡ Ok one_pin
  -- the row after 999 others is added, the one after 1,000 is not
  pub last_row : one_more 999 ≡ 1000
  pub no_row : one_more 1000 ≡ 1000
