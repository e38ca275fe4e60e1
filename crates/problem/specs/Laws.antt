-- The laws of reading a problem: which texts are problems, and which line is the first at fault.
use Rattle.std.specs.Prelude.{◌≡◌, ℕ, ◌+◌, ◌<◌, ◌≤◌, ◌⊎◌, List, ◌∷◌, ◌++◌, length, Ok, Err}
use Rattle.problem.specs.Causes.{Why}
use Rattle.problem.specs.Lines.{Stand, first, lines_in}
use Rattle.problem.specs.Reading.{Said, problem_in}
use Rattle.problem.specs.Written.{Written}
use Rattle.problem.specs.declared.fault.Cause.TheVariants.{TooLong, Form}
use Rattle.problem.specs.declared.fault.ProblemFault.{ProblemFault}

-- a line after those before it, with which no problem begins
abbrev pub NoMore : List (List ℕ) → List (List ℕ) → Type 0
NoMore before lines = (line : List ℕ) × (after : List (List ℕ)) × (lines ≡ before ++ (line ∷ after)) × ((rest : List (List ℕ)) (p : Said) → Written (before ++ (line ∷ rest)) p → ⊥)

-- a fault is at the first line with which no problem begins: some problem begins with the lines before it; or at the line that is
-- missing after them
pub record FirstFault (lines : List (List ℕ)) (fault : ProblemFault) : Type 0 where
  pub before : List (List ℕ)
  pub place : fault.line ≡ 1 + length before
  pub begins : (rest : List (List ℕ)) × (p : Said) × Written (before ++ rest) p
  pub stops : ((lines ≡ before) × (fault.cause ≡ Form)) ⊎ NoMore before lines

-- a fault is at the line that comes after some lines with which a problem begins, and its cause is why that line is refused
pub record Refused (lines : List (List ℕ)) (fault : ProblemFault) : Type 0 where
  pub before : List (List ℕ)
  pub after : List (List ℕ)
  pub all : lines ≡ before ++ after
  pub place : fault.line ≡ 1 + length before
  pub begins : (rest : List (List ℕ)) × (p : Said) × Written (before ++ rest) p
  pub why : Why before (first after) fault.cause

-- The lines of a text are those that stand in it, and no others do. The texts of at most 65,536 bytes that are problems are those
-- whose lines are written forms, and they say what is written; any other is refused at its first line at fault,
-- for the cause that the written forms give. A longer text is refused at line 1 for its length, and no other is.
pub record ProblemLaws : Type 0 where
  pub lines : (text : List ℕ) → Stand (lines_in text) text
  pub lines_only : (text : List ℕ) (lines : List (List ℕ)) → Stand lines text → lines_in text ≡ lines
  pub every : (text : List ℕ) (p : Said) → length text ≤ 65536 → Written (lines_in text) p → problem_in text ≡ Ok p
  pub only : (text : List ℕ) (p : Said) → problem_in text ≡ Ok p → (length text ≤ 65536) × Written (lines_in text) p
  pub first : (text : List ℕ) (fault : ProblemFault) → length text ≤ 65536 → problem_in text ≡ Err fault → FirstFault (lines_in text) fault
  pub long : (text : List ℕ) → 65536 < length text → problem_in text ≡ Err (record { line = 1; cause = TooLong })
  pub cause : (text : List ℕ) (fault : ProblemFault) → length text ≤ 65536 → problem_in text ≡ Err fault → Refused (lines_in text) fault
  pub refused : (text : List ℕ) (fault : ProblemFault) → length text ≤ 65536 → Refused (lines_in text) fault → problem_in text ≡ Err fault
  pub long_only : (text : List ℕ) (fault : ProblemFault) → problem_in text ≡ Err fault → fault.cause ≡ TooLong → (65536 < length text) × (fault.line ≡ 1)
