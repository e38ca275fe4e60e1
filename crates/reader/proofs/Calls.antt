-- An item or a cause that is read as its definition says is answered as it has to be.
use Rattle.std.proofs.Common.{◌≡◌, ℕ, List, Ok, Err, Result, refl, ap, ◌∙◌}
use Rattle.rle.specs.declared.fault.ReadCause.{ReadCause}
use Rattle.rle.specs.declared.fault.ReadFault.{ReadFault}
use Rattle.rle.specs.declared.phase.Phase.{Phase}
use Rattle.rle.specs.declared.phase.Phase.TheVariants.{Opening, Body, Failed}
use Rattle.rle.specs.Items.{item_start, read_item}
use Rattle.rle.specs.Items.{Taken as Expected}
use Rattle.rle.specs.Scans.{Scan, good, bad}
use Rattle.rle.specs.Spots.{Spot, spot_before}
use Rattle.reader.specs.declared.item.Taken.{Taken}
use Rattle.reader.specs.declared.reader.Reader.{Reader}
use Rattle.reader.specs.Calls.{Stand, LocatedShown, fault_at, answer_of, stand_after, item_here}
use Rattle.reader.specs.Left.{left, outcome}
use Rattle.reader.specs.Shown.{TakenShown, shown_taken, told_taken, retold, Took}
use Rattle.reader.proofs.Places.{here_spot}

from_start : (phase : Phase) (t : List ℕ) → item_here phase (item_start phase t) ≡ read_item phase t
unfolding read_item
from_start Opening t = refl
from_start (Body c) t = refl
from_start (Failed cause) t = refl

-- the answer and the stand, from what is shown
abbrev answer : List ℕ → Spot → Scan TakenShown → Result LocatedShown ReadFault
answer text spot (good x rest) = Ok (record { spot = spot; item = x.item })
answer text spot (bad cause rest) = Err (fault_at (spot_before text rest) cause)

abbrev stand : Scan TakenShown → Stand
stand (good x rest) = record { rest = rest; phase = x.phase }
stand (bad cause rest) = record { rest = rest; phase = Failed cause }

answer_told : (text start : List ℕ) (s : Scan Expected) → answer text (spot_before text start) (retold (told_taken text) s) ≡ answer_of text start s
answer_told text start (good taken rest) = refl
answer_told text start (bad cause rest) = refl

stand_told : (text : List ℕ) (s : Scan Expected) → stand (retold (told_taken text) s) ≡ stand_after s
stand_told text (good taken rest) = refl
stand_told text (bad cause rest) = refl

module _ (old mid new : Reader) (r : Result Taken ReadCause) (same : mid.text.now ≡ old.text.now) (starts : left mid ≡ item_start old.phase (left old)) (took : Took (item_here old.phase) mid new r) where
  told : outcome shown_taken r (left new) ≡ retold (told_taken old.text.now) (read_item old.phase (left old))
  told =
      took.told
      ∙ ap (λ z. retold (told_taken z) (item_here old.phase (left mid))) same
      ∙ ap (λ z. retold (told_taken old.text.now) (item_here old.phase z)) starts
      ∙ ap (retold (told_taken old.text.now)) (from_start old.phase (left old))

  pub call_text : new.text.now ≡ old.text.now
  call_text = took.text ∙ same

  pub call_answer : answer old.text.now (record { line = mid.line; column = mid.column }) (outcome shown_taken r (left new)) ≡ answer_of old.text.now (item_start old.phase (left old)) (read_item old.phase (left old))
  call_answer =
      ap (λ s. answer old.text.now s (outcome shown_taken r (left new))) (here_spot old.text.now mid same ∙ ap (spot_before old.text.now) starts)
      ∙ ap (answer old.text.now _) told
      ∙ answer_told old.text.now (item_start old.phase (left old)) (read_item old.phase (left old))

  pub call_stands : stand (outcome shown_taken r (left new)) ≡ stand_after (read_item old.phase (left old))
  call_stands = ap stand told ∙ stand_told old.text.now (read_item old.phase (left old))

  pub fault_spot : (cause : ReadCause) → record { line = new.line; column = new.column; cause = cause } ≡ fault_at (spot_before old.text.now (left new)) cause
  fault_spot cause = ap (λ s. fault_at s cause) (here_spot old.text.now new call_text)
