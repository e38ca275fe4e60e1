-- The law of what a text tells, in the words of the grammar.
use Rattle.std.specs.Prelude.{◌≡◌, ℕ, ◌<◌, ◌≤◌, ◌⊎◌, List, length, Ok, Err, Option}
use Rattle.rle.specs.declared.fault.ReadCause.{ReadCause}
use Rattle.rle.specs.declared.fault.ReadCause.TheVariants.{TooLong}
use Rattle.rle.specs.declared.fault.ReadFault.{ReadFault}
use Rattle.rle.specs.declared.mark.Run.{Run}
use Rattle.rle.specs.Spots.{corner}
use Rattle.reader.specs.Calls.{fault_at}
use Rattle.rle.specs.Laws.{AtFault, Placed, Readable}
use Rattle.patterns.specs.Places.{name_place}
use Rattle.patterns.specs.Told.{Told, told}

-- what is told of a text of the grammar: its sizes, its rule and where that starts, or would start, and its runs
abbrev pub told_form : (remarks : List (List ℕ)) (w h : ℕ) (rule : Option (List ℕ)) (runs : List Run) (text : List ℕ) → Readable remarks w h rule runs text → Told
told_form remarks w h rule runs text r =
    let place = name_place remarks w h rule r.form.line r.form.headed in
    record { width = w; height = h; rule = rule; line = place.line; column = place.column; runs = runs }

-- from these bytes on a text is at fault for a cause, and from no byte before them for any
pub record FirstAt (text : List ℕ) (cause : ReadCause) (at : List ℕ) : Type 0 where
  pub fault : AtFault text cause at
  pub first : (other : ReadCause) (there : List ℕ) → AtFault text other there → length there ≤ length at

-- a text is at fault: it is too long, which is told at its first byte; or it is not, and this is its first fault, told at the line
-- and the column where that stands
abbrev pub Faulty : List ℕ → ReadFault → Type 0
Faulty text fault =
    ((65536 < length text) × (fault ≡ fault_at corner TooLong))
    ⊎ ((length text ≤ 65536) × ((at : List ℕ) × FirstAt text fault.cause at × Placed text at (record { line = fault.line; column = fault.column })))

-- a text of at most 65,536 bytes that is of the grammar, whose sizes are at most 32 and whose runs lie in its box, tells its parts;
-- no other text tells anything, and what is told in its place is its fault, which is one
pub record TellingLaws : Type 0 where
  pub every : (remarks : List (List ℕ)) (w h : ℕ) (rule : Option (List ℕ)) (runs : List Run) (text : List ℕ) → length text ≤ 65536 → (r : Readable remarks w h rule runs text) → told text ≡ Ok (told_form remarks w h rule runs text r)
  pub only : (text : List ℕ) (t : Told) → told text ≡ Ok t → (length text ≤ 65536) × ((remarks : List (List ℕ)) × Readable remarks t.width t.height t.rule t.runs text)
  pub faulty : (text : List ℕ) (fault : ReadFault) → told text ≡ Err fault → Faulty text fault
  pub one_fault : (text : List ℕ) (fault : ReadFault) → Faulty text fault → told text ≡ Err fault
