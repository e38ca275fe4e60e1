-- What a filling is asked in turn, and the first that does not hold.
use Rattle.std.specs.Prelude.{ℕ, zero, suc, ◌+◌, ◌*◌, ◌/◌, ◌%◌, Bool, false, cond, not, List, ℤ, pos, negsuc, ◌≤ℤ◌, Some, None, Option}
use Rattle.std.specs.Bool.{beq}
use Rattle.frames.specs.declared.frame.Frame.{Frame}
use Rattle.frames.specs.Frames.{cells}
use Rattle.rules.specs.declared.rule.Rule.{Rule}
use Rattle.rules.specs.Answers.{answer}
use Rattle.planes.specs.declared.tie.Tie.{Tie}
use Rattle.planes.specs.declared.tie.Tie.TheVariants.{Free, Off, On, Same}
use Rattle.rolls.specs.Rolls.{Surface, at, value, total, around, successor, ninth}
use Rattle.keeping.specs.declared.places.InstanceAt.{InstanceAt}
use Rattle.keeping.specs.declared.places.TieAt.{TieAt}

-- a column or row that is no further from the corner than any that is looked at
abbrev pub Near : ℤ → Type 0
Near z = (negsuc 63 ≤ℤ z) × (z ≤ℤ pos 63)

-- what was found, or else n where it is to be taken
abbrev pub found_or : Option ℕ → Bool → ℕ → Option ℕ
found_or (Some k) hit n = Some k
found_or None hit n = cond hit (Some n) None

-- the first number below n that passes a test
unfoldable pub first_below : (ℕ → Bool) → ℕ → Option ℕ
first_below test zero = None
first_below test (suc n) = found_or (first_below test n) (test n) n

-- instances have so many columns and rows, and there are so many
abbrev pub across : Frame → ℕ
across f = f.width + 18

abbrev pub down : Frame → ℕ
down f = f.height + 18

abbrev pub instances : Frame → ℕ
instances f = across f * down f * f.period

-- the instance of a number: by generation, then row, then column, both from -9 on
abbrev pub instance_at : Frame → ℕ → InstanceAt
instance_at f n = record { t = n / across f / down f; y = ninth (n / across f % down f); x = ninth (n % across f) }

-- what the rule answers to what is seen at a place
abbrev pub answered : Surface → Rule → List Bool → ℕ → ℤ → ℤ → Bool
answered s r f t x y = answer r (value s f t x y) (total s f t x y around)

-- whether an instance does not hold: its successor is not the rule's answer
abbrev pub fails : Surface → Rule → List Bool → InstanceAt → Bool
fails s r f i = not (beq (successor s f i.t i.x i.y) (answered s r f i.t i.x i.y))

-- the instance of the number that was found
abbrev pub instance_found : Frame → Option ℕ → Option InstanceAt
instance_found f None = None
instance_found f (Some n) = Some (instance_at f n)

-- the first instance that does not hold
abbrev pub broken_instance : Surface → Rule → List Bool → Option InstanceAt
broken_instance s r f = instance_found s.frame (first_below (λ n. fails s r f (instance_at s.frame n)) (instances s.frame))

-- whether a tie of a cell does not hold
abbrev pub undone : List Bool → ℕ → Tie → Bool
undone f c Free = false
undone f c Off = at f c
undone f c On = not (at f c)
undone f c (Same d) = not (beq (at f c) (at f d))

-- the tie of a number: by row, then cell
abbrev pub tie_at : ℕ → ℕ → TieAt
tie_at size n = record { row = n / size; cell = n % size }

abbrev pub tie_found : ℕ → Option ℕ → Option TieAt
tie_found size None = None
tie_found size (Some n) = Some (tie_at size n)

-- the first tie that does not hold
abbrev pub broken_tie : Surface → List Bool → Option TieAt
broken_tie s f = tie_found (cells s.frame) (first_below (λ n. undone f (n % cells s.frame) (s.tie (n / cells s.frame) (n % cells s.frame))) (s.rows * cells s.frame))
