-- Texts of at most 65,536 bytes, and longer ones.
use Rattle.std.proofs.Common.{◌≡◌, ℕ, ◌<◌, ◌≤◌, leb, List, length, Some, None, Ok, Err, Option, sym, ap, subst, ◌∙◌, ⊎_elim}
use Rattle.std.proofs.lemmas.Bool.{cases_lt, cond-false, cond-true, le-leb, lt-leb}
use Rattle.problem.specs.Causes.{LineRefused, Why}
use Rattle.problem.specs.Laws.{FirstFault, Refused}
use Rattle.problem.specs.Lines.{first, lines_in}
use Rattle.problem.specs.Reading.{Said, from_lines, problem_in}
use Rattle.problem.specs.Written.{Written}
use Rattle.problem.specs.declared.fault.Cause.{Cause}
use Rattle.problem.specs.declared.fault.Cause.TheVariants.{TooLong, Form}
use Rattle.problem.specs.declared.fault.ProblemFault.{ProblemFault}
use Rattle.problem.proofs.Exact.{causes_only, causes_told}
use Rattle.problem.proofs.Faulting.{faults_first}
use Rattle.problem.proofs.Whole.{reads_every, reads_only}

abbrev over : ProblemFault
over = record { line = 1; cause = TooLong }

short : (text : List ℕ) → length text ≤ 65536 → problem_in text ≡ from_lines (lines_in text)
unfolding problem_in
short text h = cond-true (leb (length text) 65536) (from_lines (lines_in text)) _ (le-leb (length text) 65536 h)

pub too_long : (text : List ℕ) → 65536 < length text → problem_in text ≡ Err (record { line = 1; cause = TooLong })
unfolding problem_in
too_long text h = cond-false (leb (length text) 65536) (from_lines (lines_in text)) _ (lt-leb (length text) 65536 h)

pub every : (text : List ℕ) (p : Said) → length text ≤ 65536 → Written (lines_in text) p → problem_in text ≡ Ok p
every text p h w = short text h ∙ reads_every (lines_in text) p w

pub only : (text : List ℕ) (p : Said) → problem_in text ≡ Ok p → (length text ≤ 65536) × Written (lines_in text) p
only text p e =
    ⊎_elim
    (λ long. let refused = sym (too_long text long) ∙ e in absurd (cc))
    (λ h. (h, reads_only (lines_in text) p (sym (short text h) ∙ e)))
    (cases_lt 65536 (length text))

pub first_fault : (text : List ℕ) (f : ProblemFault) → length text ≤ 65536 → problem_in text ≡ Err f → FirstFault (lines_in text) f
first_fault text f h e = faults_first (lines_in text) f (sym (short text h) ∙ e)

pub cause_told : (text : List ℕ) (f : ProblemFault) → length text ≤ 65536 → problem_in text ≡ Err f → Refused (lines_in text) f
cause_told text f h e = causes_told (lines_in text) f (sym (short text h) ∙ e)

pub cause_only : (text : List ℕ) (f : ProblemFault) → length text ≤ 65536 → Refused (lines_in text) f → problem_in text ≡ Err f
cause_only text f h r = short text h ∙ causes_only (lines_in text) f r

-- no line is refused for the length of the text
line_cause : (before : List (List ℕ)) (o : Option (List ℕ)) (c : Cause) → Why before o c → c ≡ TooLong → ⊥
line_cause before None c why e = let no : TooLong ≡ Form = sym e ∙ why.1 in absurd (cc)
line_cause before (Some line) c why e = subst (LineRefused before line) e why

pub long_only : (text : List ℕ) (f : ProblemFault) → problem_in text ≡ Err f → f.cause ≡ TooLong → (65536 < length text) × (f.line ≡ 1)
long_only text f e is =
    ⊎_elim
    (λ long. let both = sym (too_long text long) ∙ e in let same : over ≡ f = cc in (long, ap (λ (g : ProblemFault). g.line) (sym same)))
    (λ h. let r = cause_told text f h e in absurd (line_cause r.before (first r.after) f.cause r.why is))
    (cases_lt 65536 (length text))
