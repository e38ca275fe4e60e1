-- What a call of the reader answers, and how the reader stands after it.
use Rattle.std.specs.Prelude.{◌≡◌, ℕ, ◌<◌, ◌≤◌, cond, List, [], length, Ok, Err, Result, nat_le}
use Rattle.rle.specs.declared.fault.ReadCause.{ReadCause}
use Rattle.rle.specs.declared.fault.ReadCause.TheVariants.{TooLong}
use Rattle.rle.specs.declared.fault.ReadFault.{ReadFault}
use Rattle.rle.specs.declared.phase.Phase.{Phase}
use Rattle.rle.specs.declared.phase.Phase.TheVariants.{Opening, Body, Failed}
use Rattle.rle.specs.Items.{Taken, opening_item, body_item, item_start, read_item}
use Rattle.rle.specs.Scans.{Scan, good, bad}
use Rattle.rle.specs.Spots.{Spot, spot_before}
use Rattle.reader.specs.declared.item.Located.{Located}
use Rattle.reader.specs.declared.reader.Reader.{Reader}
use Rattle.reader.specs.Left.{left}
use Rattle.reader.specs.Shown.{Shown, shown_item, told_part}

-- how a reader stands: the bytes that are left, and how far it has come
pub record Stand : Type 0 where
  pub rest : List ℕ
  pub phase : Phase

-- how this reader stands
abbrev pub standing : Reader → Stand
standing r = record { rest = left r; phase = r.phase }

-- what is read of a text: all of it, or nothing where it has more than 65,536 bytes
abbrev pub readable : List ℕ → List ℕ
readable text = cond (nat_le (length text) 65536) text []

-- how far a reader has come at the start: a text that is too long is at fault
abbrev pub first_phase : List ℕ → Phase
first_phase text = cond (nat_le (length text) 65536) Opening (Failed TooLong)

-- a reader stands at the start of a text
pub record Opened (text : List ℕ) (r : Reader) : Type 0 where
  pub whole : r.text.now ≡ readable text
  pub stands : standing r ≡ record { rest = readable text; phase = first_phase text }

-- a reader stands at the start of a text of at most 65,536 bytes, or a longer one is refused at its first byte
abbrev pub Begun : List ℕ → Result Reader ReadFault → Type 0
Begun text (Ok r) = (length text ≤ 65536) × (r.text.now ≡ text) × (standing r ≡ record { rest = text; phase = Opening })
Begun text (Err fault) = (65536 < length text) × (fault ≡ record { line = 1; column = 1; cause = TooLong })

-- an item without references, and where it starts
pub record LocatedShown : Type 0 where
  pub spot : Spot
  pub item : Shown

-- what an answer shows, without references
abbrev pub shown_answer : Result Located ReadFault → Result LocatedShown ReadFault
shown_answer (Ok l) = Ok (record { spot = record { line = l.line; column = l.column }; item = shown_item l.item })
shown_answer (Err fault) = Err fault

-- a cause and where it stands
abbrev pub fault_at : Spot → ReadCause → ReadFault
fault_at spot cause = record { line = spot.line; column = spot.column; cause = cause }

-- what has to be answered: the item, which stands where it starts, or the cause, which stands where the bytes from the fault on start
abbrev pub answer_of : List ℕ → List ℕ → Scan Taken → Result LocatedShown ReadFault
answer_of text start (good taken rest) = Ok (record { spot = spot_before text start; item = told_part text taken.part })
answer_of text start (bad cause rest) = Err (fault_at (spot_before text rest) cause)

-- how the reader stands then: after the item, or at the fault
abbrev pub stand_after : Scan Taken → Stand
stand_after (good taken rest) = record { rest = rest; phase = taken.phase }
stand_after (bad cause rest) = record { rest = rest; phase = Failed cause }

-- a call answers the next item of the text or the first fault, and the reader then stands after the one or at the other
pub record Answered (old new : Reader) (r : Result Located ReadFault) : Type 0 where
  pub text : new.text.now ≡ old.text.now
  pub answer : shown_answer r ≡ answer_of old.text.now (item_start old.phase (left old)) (read_item old.phase (left old))
  pub stands : standing new ≡ stand_after (read_item old.phase (left old))

-- the item that starts with the first byte
abbrev pub item_here : Phase → List ℕ → Scan Taken
item_here Opening t = opening_item t
item_here (Body c) t = body_item c t
item_here (Failed cause) t = bad cause t
