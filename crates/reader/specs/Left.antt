-- The bytes that a reader has not passed, and how it passes some.
use Rattle.std.specs.Prelude.{◌≡◌, ℕ, ◌+◌, ◌-◌, ◌*◌, Bool, cond, List, [], ◌∷◌, drop, Some, None, Ok, Err, Option, Result}
use Rattle.lines.specs.Lines.{blank, first_line}
use Rattle.rle.specs.Items.{line_over, mark_of}
use Rattle.rle.specs.declared.fault.ReadCause.{ReadCause}
use Rattle.rle.specs.Scans.{Scan, good, bad, and_then, this_byte, space, gap, byte_of, is_loose, in_turn, digit, size}
use Rattle.rle.specs.declared.fault.ReadCause.TheVariants.{Byte, Ended}
use Rattle.rle.specs.declared.mark.Mark.{Mark}
use Rattle.rle.specs.declared.phase.Step.{Step}
use Rattle.reader.specs.declared.gap.Gap.{Gap}
use Rattle.reader.specs.declared.gap.Gap.TheVariants.{Blanks, Space}
use Rattle.reader.specs.declared.reader.Reader.{Reader}

-- the bytes from where the reader stands
abbrev pub left : Reader → List ℕ
left r = drop r.at r.text.now

-- the first byte, if there is one
abbrev pub first_of : List ℕ → Option ℕ
first_of [] = None
first_of (b ∷ bs) = Some b

-- a number with the digit that stands first at its end, if one does
abbrev pub longer_by : ℕ → List ℕ → Option ℕ
longer_by n [] = None
longer_by n (b ∷ bs) = cond (digit b) (Some (n * 10 + (b - 48))) None

-- which bytes may be passed over
abbrev pub filler : Gap → ℕ → Bool
filler Blanks = blank
filler Space = space

-- a step's byte, and the blanks that may follow it
abbrev pub step_here : Step → List ℕ → Scan (Unit {0})
step_here s t = and_then (this_byte (byte_of s) t) (λ _ rest. good tt (gap (is_loose s) rest))

-- a size after some bytes
abbrev pub size_after : List Step → List ℕ → Scan ℕ
size_after steps t = and_then (in_turn steps t) (λ _ rest. size rest)

-- a line that a newline ends, without it
abbrev pub whole_line : List ℕ → Scan (List ℕ)
whole_line t = and_then (line_over t) (λ _ rest. good (first_line t) rest)

-- a mark, or the cause where none stands
abbrev pub mark_found : Option Mark → List ℕ → List ℕ → Scan Mark
mark_found None here rest = bad Byte here
mark_found (Some m) here rest = good m rest

-- the mark of a run
abbrev pub mark_here : List ℕ → Scan Mark
mark_here [] = bad Ended []
mark_here (b ∷ bs) = mark_found (mark_of b) (b ∷ bs) bs

-- bytes are passed: what is then left of the same text
pub record Passed (rest : List ℕ → List ℕ) (old new : Reader) : Type 0 where
  pub text : new.text.now ≡ old.text.now
  pub over : left new ≡ rest (left old)

-- an answer, seen by what it means, with the bytes that are left then
abbrev pub outcome : {A B : Type 0} → (A → B) → Result A ReadCause → List ℕ → Scan B
outcome view (Ok a) rest = good (view a) rest
outcome view (Err cause) rest = bad cause rest

-- a part is read as a definition says: its meaning or the cause, and what is then left of the same text
pub record Scanned {A B : Type 0} (view : A → B) (scan : List ℕ → Scan B) (old new : Reader) (r : Result A ReadCause) : Type 0 where
  pub text : new.text.now ≡ old.text.now
  pub told : outcome view r (left new) ≡ scan (left old)

-- a part is read as a definition says, and means what it is
abbrev pub Read : {A : Type 0} → (List ℕ → Scan A) → Reader → Reader → Result A ReadCause → Type 0
Read scan old new r = Scanned (λ a. a) scan old new r
