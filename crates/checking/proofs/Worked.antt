-- The worked examples, by computing.
use Rattle.std.proofs.Common.{◌≡◌, [], ◌∷◌, Ok, None, ◌∙◌, refl, lit≤}
use Rattle.rle.specs.declared.mark.Mark.TheVariants.{Off, On, NextRow}
use Rattle.rle.specs.Items.{heading, read_item}
use Rattle.rle.specs.Scans.{past, in_turn, digits_on, numeral, size}
use Rattle.rle.specs.Spots.{spot_past}
use Rattle.rules.specs.Forms.{written, digits_below}
use Rattle.rolls.specs.Examples.{plainly, down_right, life}
use Rattle.keeping.specs.Asked.{first_below}
use Rattle.keeping.specs.Worked.{grown}
use Rattle.patterns.specs.Told.{Told, told, told_on}
use Rattle.checking.specs.Examples.{ChecksWorked, once, twice, blinker_text, glider_text}
use Rattle.checking.proofs.Accepting.{to_cells}

-- what the texts tell
blinker : Told
blinker = record {
  width = 3;
  height = 3;
  rule = None;
  line = 1;
  column = 13;
  runs =
      record { count = 1; mark = Off } ∷ record { count = 1; mark = On } ∷ record { count = 1; mark = NextRow } ∷ record { count = 1; mark = Off } ∷ record { count = 1; mark = On }
      ∷ record { count = 1; mark = NextRow } ∷ record { count = 1; mark = Off } ∷ record { count = 1; mark = On } ∷ [];
}

glider : Told
glider = record {
  width = 3;
  height = 3;
  rule = None;
  line = 1;
  column = 13;
  runs =
      record { count = 1; mark = Off } ∷ record { count = 1; mark = On } ∷ record { count = 1; mark = NextRow } ∷ record { count = 2; mark = Off } ∷ record { count = 1; mark = On }
      ∷ record { count = 1; mark = NextRow } ∷ record { count = 3; mark = On } ∷ [];
}

blinker_told : told blinker_text ≡ Ok blinker
unfolding blinker told_on read_item heading past in_turn digits_on numeral size spot_past
blinker_told = refl

glider_told : told glider_text ≡ Ok glider
unfolding glider told_on read_item heading past in_turn digits_on numeral size spot_past
glider_told = refl

pub checks_worked : ChecksWorked
unfolding blinker glider written digits_below first_below grown
checks_worked = record {
  comes_back = to_cells (plainly twice) life blinker_text blinker (record { few = lit≤ tt; tells = blinker_told; named = refl; narrow = lit≤ tt; low = lit≤ tt }) ∙ refl;
  blinks = to_cells (plainly once) life blinker_text blinker (record { few = lit≤ tt; tells = blinker_told; named = refl; narrow = lit≤ tt; low = lit≤ tt }) ∙ refl;
  flies = to_cells (plainly down_right) life glider_text glider (record { few = lit≤ tt; tells = glider_told; named = refl; narrow = lit≤ tt; low = lit≤ tt }) ∙ refl;
}
