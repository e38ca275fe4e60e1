-- After the end and after a fault the reader answers the same again.
use Rattle.std.specs.Prelude.{◌≡◌, Ok, Err, Result}
use Rattle.rle.specs.declared.fault.ReadFault.{ReadFault}
use Rattle.reader.specs.declared.item.Located.{Located}
use Rattle.reader.specs.declared.reader.Reader.{Reader}
use Rattle.reader.specs.Calls.{LocatedShown, shown_answer, standing, Answered}
use Rattle.reader.specs.Shown.{over}

-- the end, or a fault
abbrev pub Final : Result LocatedShown ReadFault → Type 0
Final (Ok l) = l.item ≡ over
Final (Err fault) = Unit {0}

-- of two calls in a row, where the first answers the end or a fault, the second answers the same and leaves the reader as it stands
abbrev pub Repeats : Type 0
Repeats =
    (first second third : Reader) (r s : Result Located ReadFault) → Answered first second r → Answered second third s → Final (shown_answer r) → (shown_answer s ≡ shown_answer r) × (standing third ≡ standing second)
