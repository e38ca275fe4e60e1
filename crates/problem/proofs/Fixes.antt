-- The lines that fix cells, one after another.
use Rattle.std.proofs.Common.{◌≡◌, ℕ, ◌+◌, List, [], ◌∷◌, Some, None, Ok, Err, Result, refl, ap, ◌∙◌}
use Rattle.problem.specs.Faults.{at_line}
use Rattle.problem.specs.Lines.{first, others}
use Rattle.problem.specs.Reading.{SpaceSaid, fix_line, fixed_as, from_fixes, go_on}
use Rattle.problem.specs.declared.fault.Cause.{Cause}
use Rattle.problem.specs.declared.fault.ProblemFault.{ProblemFault}

-- what a line comes to
step : ℕ → Result SpaceSaid Cause → List (List ℕ) → Result SpaceSaid ProblemFault
step n r ls = go_on (at_line n r) (λ s. from_fixes (n + 1) s ls)

pub fixes_step : (n : ℕ) (s next : SpaceSaid) (ls : List (List ℕ)) (l : List ℕ) → Some l ≡ first ls → Ok next ≡ fix_line s l → from_fixes (n + 1) next (others ls) ≡ from_fixes n s ls
unfolding from_fixes step
fixes_step n s next [] l e is = absurd (cc)
fixes_step n s next (x ∷ xs) l e is =
    let same : l ≡ x = cc in
    ap (λ r. step n r xs) is ∙ ap (λ t. step n (fix_line s t) xs) same

pub fixes_fault : (n : ℕ) (s : SpaceSaid) (cause : Cause) (ls : List (List ℕ)) (l : List ℕ) → Some l ≡ first ls → Err cause ≡ fix_line s l → Err (record { line = n; cause = cause }) ≡ from_fixes n s ls
unfolding from_fixes step
fixes_fault n s cause [] l e is = absurd (cc)
fixes_fault n s cause (x ∷ xs) l e is =
    let same : l ≡ x = cc in
    ap (λ r. step n r xs) is ∙ ap (λ t. step n (fix_line s t) xs) same

pub fixes_end : (n : ℕ) (s : SpaceSaid) (ls : List (List ℕ)) → None ≡ first ls → Ok s ≡ from_fixes n s ls
unfolding from_fixes
fixes_end n s [] e = refl
fixes_end n s (x ∷ xs) e = absurd (cc)

-- what the lines from one on come to, by what this one does
pub fixes_told : (n : ℕ) (s next : SpaceSaid) (ls : List (List ℕ)) (l : List ℕ) (r : Result (Unit {0}) Cause) (t : Result (Unit {0}) ProblemFault) → Some l ≡ first ls → fixed_as next r ≡ fix_line s l → t ≡ at_line n r → go_on (fixed_as next t) (λ u. from_fixes (n + 1) u (others ls)) ≡ from_fixes n s ls
fixes_told n s next ls l (Ok u) t e is told = rw told (fixes_step n s next ls l e is)
fixes_told n s next ls l (Err cause) t e is told = rw told (fixes_fault n s cause ls l e is)
