-- Reading parts of a text from the front: bytes, blanks, numbers.
use Rattle.std.specs.Prelude.{ℕ, zero, suc, ◌+◌, ◌-◌, ◌*◌, Bool, true, false, cond, ◌&&◌, ◌||◌, List, [], ◌∷◌, ◌==◌, nat_le}
use Rattle.lines.specs.Lines.{blank}
use Rattle.rle.specs.declared.fault.ReadCause.{ReadCause}
use Rattle.rle.specs.declared.fault.ReadCause.TheVariants.{Byte, Size, Ended}
use Rattle.rle.specs.declared.phase.Step.{Step}
use Rattle.rle.specs.declared.phase.Step.TheVariants.{Tight, Loose}

-- what was read and the bytes after it, or why the text is at fault and the bytes from the fault on
pub data Scan (A : Type 0) : Type 0 where
  good : A → List ℕ → Scan A
  bad : ReadCause → List ℕ → Scan A

-- one part after another
abbrev pub and_then : {A B : Type 0} → Scan A → (A → List ℕ → Scan B) → Scan B
and_then (good a rest) next = next a rest
and_then (bad cause rest) next = bad cause rest

-- a byte that has to stand here
abbrev pub this_byte : ℕ → List ℕ → Scan (Unit {0})
this_byte c [] = bad Ended []
this_byte c (b ∷ bs) = cond (b == c) (good tt bs) (bad Byte (b ∷ bs))

-- what is left after the bytes at the front that pass a test
unfoldable pub past : (ℕ → Bool) → List ℕ → List ℕ
past test [] = []
past test (b ∷ bs) = cond (test b) (past test bs) (b ∷ bs)

-- the blanks, and what may part runs: blanks and newlines
abbrev pub space : ℕ → Bool
space b = blank b || b == 10

-- what is left after the blanks that may follow a byte
abbrev pub gap : Bool → List ℕ → List ℕ
gap true t = past blank t
gap false t = t

-- the byte of a step
abbrev pub byte_of : Step → ℕ
byte_of (Tight c) = c
byte_of (Loose c) = c

-- whether blanks may follow it
abbrev pub is_loose : Step → Bool
is_loose (Tight c) = false
is_loose (Loose c) = true

-- bytes that have to come in turn
unfoldable pub in_turn : List Step → List ℕ → Scan (Unit {0})
in_turn [] t = good tt t
in_turn (s ∷ ss) t = and_then (this_byte (byte_of s) t) (λ _ rest. in_turn ss (gap (is_loose s) rest))

-- a decimal digit
abbrev pub digit : ℕ → Bool
digit b = nat_le 48 b && nat_le b 57

-- so many digits more may follow those of n; one more than these is out of place
unfoldable pub digits_on : ℕ → ℕ → List ℕ → Scan ℕ
digits_on more n [] = good n []
digits_on zero n (b ∷ bs) = cond (digit b) (bad Byte (b ∷ bs)) (good n (b ∷ bs))
digits_on (suc more) n (b ∷ bs) = cond (digit b) (digits_on more (n * 10 + (b - 48)) bs) (good n (b ∷ bs))

-- a number of one to four digits without a leading zero
unfoldable pub numeral : List ℕ → Scan ℕ
numeral [] = bad Ended []
numeral (b ∷ bs) = cond (nat_le 49 b && nat_le b 57) (digits_on 3 (b - 48) bs) (bad Byte (b ∷ bs))

-- a number that is whole, judged where it starts
abbrev pub judged : List ℕ → ℕ → List ℕ → Scan ℕ
judged start n rest = cond (nat_le n 32) (good n rest) (bad Size start)

-- a width or a height: a number up to 32
unfoldable pub size : List ℕ → Scan ℕ
size t = and_then (numeral t) (judged t)
