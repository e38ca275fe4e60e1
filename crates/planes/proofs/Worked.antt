-- The worked examples of looks and ties, by computing them.
use Rattle.std.proofs.Common.{refl}
use Rattle.planes.specs.Examples.{PlanesWorked}

pub planes_worked : PlanesWorked
planes_worked = record {
  plain = refl;
  torus = refl;
  cylinder = refl;
  cylinder_ends = refl;
  far = refl;
  left_right = refl;
  top_bottom = refl;
  half_turn = refl;
  falling = refl;
  rising = refl;
  quarter_turn = refl;
  left_right_later = refl;
  quarter_turn_later = refl;
  untied = refl;
  untied_too = refl;
  pinned = refl;
  unpinned = refl;
  held = refl;
  no_cell = refl;
  fixed = refl;
  last_row = refl;
  no_row = refl;
}
