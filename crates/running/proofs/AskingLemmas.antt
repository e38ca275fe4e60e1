-- What asking for a problem comes to, by what was read and written.
use Rattle.std.proofs.Common.{◌≡◌, ℕ, List, [], None, Some, Ok, Err, Option, Result, sym, ◌∙◌, subst}
use Rattle.std.proofs.KnownBytes.{Keeps-refl}
use Rattle.printing.specs.Printed.{refused_line}
use Rattle.problem.specs.Reading.{problem_in, said}
use Rattle.problem.specs.declared.fault.ProblemFault.{ProblemFault}
use Rattle.problem.specs.declared.problem.Problem.{Problem}
use Rattle.running.specs.Runs.{Asked, IsAllOf}
use Rattle.running.specs.Written.{IsReading, LineWritten}
use Rattle.running.specs.declared.fault.RunFault.{RunFault}
use Rattle.running.specs.declared.fault.RunFault.TheVariants.{Read, Write, List as Listing, Memory}
use Rattle.running.proofs.Texts.{Front, all_of, all_of_it, problem_of_all}

-- what was asked of all that a reader had
abbrev pub AskedOf : Option (List ℕ) → Option (List ℕ) → Result (Option Problem) RunFault → Option (List ℕ) → Type 0
AskedOf known old result new = (text : List ℕ) × IsAllOf known text × Asked text old result new

pub unread : (known old : Option (List ℕ)) (fault : RunFault) → IsReading fault → AskedOf known old (Err fault) old
unread known old (Read e) reading = (all_of known [], all_of_it known [], Keeps-refl old)
unread known old (Write e) reading = absurd reading
unread known old (Listing e) reading = absurd reading
unread known old (Memory e) reading = absurd reading

pub found : (known old : Option (List ℕ)) (read : List ℕ) → Front known read → (p : Problem) → problem_in read ≡ Ok (said p) → AskedOf known old (Ok (Some p)) old
found known old read front p is = (all_of known read, all_of_it known read, (sym (problem_of_all known read front) ∙ is, Keeps-refl old))

pub refused : (known old new : Option (List ℕ)) (read line : List ℕ) → Front known read → (fault : ProblemFault) → problem_in read ≡ Err fault → line ≡ refused_line fault → LineWritten line old (Ok tt) new → AskedOf known old (Ok None) new
refused known old new read line front fault is same written = (all_of known read, all_of_it known read, (fault, sym (problem_of_all known read front) ∙ is, subst (λ (line : List ℕ). LineWritten line old (Ok tt) new) same written))

unfinished_as : (known old new : Option (List ℕ)) (read : List ℕ) → Front known read → (fault : ProblemFault) → problem_in read ≡ Err fault → (e : RunFault) → LineWritten (refused_line fault) old (Err e) new → AskedOf known old (Err e) new
unfinished_as known old new read front fault is (Read e) written = absurd written
unfinished_as known old new read front fault is (Write e) written = (all_of known read, all_of_it known read, (fault, sym (problem_of_all known read front) ∙ is, written))
unfinished_as known old new read front fault is (Listing e) written = absurd written
unfinished_as known old new read front fault is (Memory e) written = absurd written

pub unfinished : (known old new : Option (List ℕ)) (read line : List ℕ) → Front known read → (fault : ProblemFault) → problem_in read ≡ Err fault → line ≡ refused_line fault → (e : RunFault) → LineWritten line old (Err e) new → AskedOf known old (Err e) new
unfinished known old new read line front fault is same e written = unfinished_as known old new read front fault is e (subst (λ (line : List ℕ). LineWritten line old (Err e) new) same written)
