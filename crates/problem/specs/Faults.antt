-- The number of each refusal of a problem, and where it stands.
use Rattle.std.specs.Prelude.{ℕ, ◌≤◌, Ok, Err, Result}
use Rattle.frames.specs.Faults as frames
use Rattle.planes.specs.Faults as planes
use Rattle.rules.specs.Faults as rules
use Rattle.problem.specs.declared.fault.Cause.{Cause}
use Rattle.problem.specs.declared.fault.Cause.TheVariants.{TooLong, Form, Frame, Rule, Fix}
use Rattle.problem.specs.declared.fault.ProblemFault.{ProblemFault}

abbrev pub cause_number : Cause → ℕ
cause_number TooLong = 18
cause_number Form = 27
cause_number (Frame fault) = frames.number_of fault
cause_number (Rule fault) = rules.number_of fault
cause_number (Fix fault) = planes.number_of fault

-- what was read of a line, or the cause and that line
abbrev pub at_line : {X : Type 0} → ℕ → Result X Cause → Result X ProblemFault
at_line line (Ok x) = Ok x
at_line line (Err cause) = Err (record { line = line; cause = cause })

-- a line's own cause: the length of the whole is none
abbrev pub OfLine : Cause → Type 0
OfLine TooLong = ⊥
OfLine Form = Unit {0}
OfLine (Frame fault) = Unit {0}
OfLine (Rule fault) = Unit {0}
OfLine (Fix fault) = Unit {0}

-- a fault at a line from 1 to `last`, for a cause of its own
abbrev pub Refuses : ℕ → ProblemFault → Type 0
Refuses last fault = (1 ≤ fault.line) × (fault.line ≤ last) × OfLine fault.cause
