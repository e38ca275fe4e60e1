-- What a reader of a text answers from the first byte on, call after call.
use Rattle.std.specs.Prelude.{◌≡◌, ℕ, ◌<◌, ◌≤◌, Bool, ◌⊎◌, List, [], ◌∷◌, length, Ok, Err, Option, Result, ◌≢◌}
use Rattle.rle.specs.declared.fault.ReadCause.{ReadCause}
use Rattle.rle.specs.declared.fault.ReadCause.TheVariants.{TooLong}
use Rattle.rle.specs.declared.fault.ReadFault.{ReadFault}
use Rattle.rle.specs.declared.mark.Run.{Run}
use Rattle.rle.specs.Items.{Part}
use Rattle.rle.specs.Laws.{Given, AtFault, Placed}
use Rattle.rle.specs.Patterns.{Shows}
use Rattle.rle.specs.Spots.{Spot, corner, spot_before}
use Rattle.reader.specs.declared.item.Located.{Located}
use Rattle.reader.specs.declared.reader.Reader.{Reader}
use Rattle.reader.specs.Calls.{LocatedShown, shown_answer, fault_at, Begun, Opened, Answered}
use Rattle.reader.specs.Shown.{over, told_part}

-- what a call answers, without references
abbrev pub Answer : Type 0
Answer = Result LocatedShown ReadFault

-- calls one after another, and what they answered
pub data Calls : Reader → List Answer → Reader → Type 0 where
  none : (r : Reader) → Calls r [] r
  call : (r s t : Reader) (a : Result Located ReadFault) (more : List Answer) → Answered r s a → Calls s more t → Calls r (shown_answer a ∷ more) t

-- answers without a fault, of which the last is the end and no other
abbrev pub Whole : List Answer → Type 0
Whole [] = ⊥
Whole (Err fault ∷ more) = ⊥
Whole (Ok l ∷ more) = ((l.item ≡ over) × (more ≡ [])) ⊎ ((l.item ≢ over) × Whole more)

-- the answers are these items of a text, one for each
abbrev pub Tells : List ℕ → List Answer → List Part → Type 0
Tells text [] [] = Unit {0}
Tells text [] (x ∷ xs) = ⊥
Tells text (a ∷ more) [] = ⊥
Tells text (Err fault ∷ more) (x ∷ xs) = ⊥
Tells text (Ok l ∷ more) (x ∷ xs) = (l.item ≡ told_part text x) × Tells text more xs

-- the first fault among some answers
abbrev pub Meets : ReadFault → List Answer → Type 0
Meets fault [] = ⊥
Meets fault (Err f ∷ more) = f ≡ fault
Meets fault (Ok l ∷ more) = Meets fault more

-- a text that is not too long and shows a pattern is read to its end by as many calls as it has parts, and they answer its parts
abbrev pub ReadsAll : Type 0
ReadsAll =
    (remarks : List (List ℕ)) (w h : ℕ) (rule : Option (List ℕ)) (runs : List Run) (pattern : ℕ → ℕ → Bool) (text : List ℕ) → Shows remarks w h rule runs pattern text → length text ≤ 65536 →
    (items : List Part) × Given remarks w h rule runs items
    × ((first last : Reader) (answers : List Answer) → Opened text first → Calls first answers last → length answers ≡ length items → Whole answers × Tells text answers items)

-- and no other is: one whose end is answered shows a pattern, and the answers are its parts
abbrev pub ReadsNoOther : Type 0
ReadsNoOther =
    (text : List ℕ) (first last : Reader) (answers : List Answer) → Opened text first → Calls first answers last → Whole answers →
    (length text ≤ 65536)
    × ((remarks : List (List ℕ)) × (w : ℕ) × (h : ℕ) × (rule : Option (List ℕ)) × (runs : List Run) × (pattern : ℕ → ℕ → Bool) × (items : List Part)
    × Shows remarks w h rule runs pattern text × Given remarks w h rule runs items × Tells text answers items)

-- the line and column of a fault
abbrev pub spot_of : ReadFault → Spot
spot_of fault = record { line = fault.line; column = fault.column }

-- a text is at fault as it is answered to be: for that cause, from some bytes on, and at the line and column where these start
abbrev pub FaultsStand : Type 0
FaultsStand =
    (text : List ℕ) (first last : Reader) (answers : List Answer) (fault : ReadFault) → Opened text first → Calls first answers last → Meets fault answers →
    (at : List ℕ) × AtFault text fault.cause at × Placed text at (spot_of fault) × (fault ≡ fault_at (spot_before text at) fault.cause)

-- where a text is at fault for a cause in this way, that is the fault that is answered, whatever else is wrong with it
abbrev pub TellsFault : ReadCause → Type 0
TellsFault cause =
    (text at : List ℕ) (first last : Reader) (answers : List Answer) (fault : ReadFault) → length text ≤ 65536 → AtFault text cause at → Opened text first → Calls first answers last → Meets fault answers →
    fault ≡ fault_at (spot_before text at) cause

-- a text that is too long is refused by the first call, at its first byte
abbrev pub RefusesLong : Type 0
RefusesLong =
    (text : List ℕ) (first second : Reader) (r : Result Located ReadFault) → Opened text first → 65536 < length text → Answered first second r → shown_answer r ≡ Err (fault_at corner TooLong)

-- a reader that is not refused stands as one that is made of any text
abbrev pub OpensAlike : Type 0
OpensAlike = (text : List ℕ) (first : Reader) → Begun text (Ok first) → Opened text first
