-- What judging a text comes to, by what was read, checked and written.
use Rattle.std.proofs.Common.{◌≡◌, ℕ, Bool, List, [], ◌++◌, None, Some, Ok, Err, Option, Result, sym, ap, ◌∙◌, subst}
use Rattle.std.specs.Prelude.{MatchResult}
use Rattle.std.specs.Io.KnownBytes.{Appends}
use Rattle.std.proofs.KnownBytes.{Appends-trans, Keeps-refl}
use Rattle.std.specs.declared.alloc.AllocError.{AllocError}
use Rattle.checking.specs.Checked.{AsksCells, Refuses, checked}
use Rattle.checking.specs.declared.fault.CheckFault.{CheckFault}
use Rattle.checking.specs.declared.fault.CheckFault.TheVariants as check
use Rattle.rolls.specs.Rolls.{Surface}
use Rattle.rules.specs.declared.rule.Rule.{Rule}
use Rattle.verdicts.specs.Verdicts.{refusal_of, refused_by, verdict_line, verdict_of}
use Rattle.verdicts.specs.declared.verdict.Verdict.{Verdict}
use Rattle.running.specs.Runs.{IsAllOf}
use Rattle.running.specs.Verdicts.{IsVerdict, Judged}
use Rattle.running.specs.Written.{IsReading, LineWritten}
use Rattle.running.specs.declared.fault.RunFault.{RunFault}
use Rattle.running.specs.declared.fault.RunFault.TheVariants.{Read, Write, List as Listing, Memory}
use Rattle.running.proofs.Parts.{part_after, part_before}
use Rattle.running.proofs.Texts.{Front, all_of, all_of_it, checked_of_all}

-- a line that is written in two pieces: the writer failed at the first
pub first_piece : (first second : List ℕ) (old new : Option (List ℕ)) (fault : RunFault) → LineWritten first old (Err fault) new → LineWritten (first ++ second) old (Err fault) new
first_piece first second old new (Write e) written = part_before old new first second written
first_piece first second old new (Read e) written = absurd written
first_piece first second old new (Listing e) written = absurd written
first_piece first second old new (Memory e) written = absurd written

-- or the second was written after it, or a first part of that
pub second_piece : (first second : List ℕ) (old mid new : Option (List ℕ)) (result : Result (Unit {0}) RunFault) → Appends old mid first → LineWritten second mid result new → LineWritten (first ++ second) old result new
second_piece first second old mid new (Ok u) before written = Appends-trans old mid new first second before written
second_piece first second old mid new (Err (Write e)) before written = part_after old mid new first second before written
second_piece first second old mid new (Err (Read e)) before written = absurd written
second_piece first second old mid new (Err (Listing e)) before written = absurd written
second_piece first second old mid new (Err (Memory e)) before written = absurd written

module _ (s : Surface) (rule : Rule) (name : List ℕ) (known old : Option (List ℕ)) where
  -- what was judged of all that a reader had
  abbrev pub JudgedOf : Result (Unit {0}) RunFault → Option (List ℕ) → Type 0
  JudgedOf result new = (text : List ℕ) × IsAllOf known text × Judged s rule name text old result new

  pub unread : (fault : RunFault) → IsReading fault → JudgedOf (Err fault) old
  unread (Read e) reading = (all_of known [], all_of_it known [], Keeps-refl old)
  unread (Write e) reading = absurd reading
  unread (Listing e) reading = absurd reading
  unread (Memory e) reading = absurd reading

  -- a fault that has a verdict is the one that is defined
  same_fault : (want : Result (List Bool) CheckFault) (fault : CheckFault) (verdict : Verdict) → Refuses want fault → refused_by (refusal_of fault) ≡ Some verdict → verdict_of want ≡ Some verdict
  same_fault want check.Rows verdict r v = ap verdict_of r ∙ v
  same_fault want (check.Read e) verdict r v = ap verdict_of r ∙ v
  same_fault want (check.Rule e) verdict r v = ap verdict_of r ∙ v
  same_fault want check.OtherRule verdict r v = ap verdict_of r ∙ v
  same_fault want check.Size verdict r v = ap verdict_of r ∙ v
  same_fault want (check.Instance e) verdict r v = ap verdict_of r ∙ v
  same_fault want (check.Tie e) verdict r v = ap verdict_of r ∙ v
  same_fault want (check.Memory e) verdict r v = absurd (let n : ◌≡◌ {A = Option Verdict} None (Some verdict) = v in cc)

  pub same_verdict : {A : Type 0} (cells : A → List Bool) (want : Result (List Bool) CheckFault) (answer : Result A CheckFault) (verdict : Verdict) → MatchResult answer (λ v. want ≡ Ok (cells v)) (Refuses want) → verdict_of answer ≡ Some verdict → verdict_of want ≡ Some verdict
  same_verdict cells want (Ok v) verdict same is = ap verdict_of same ∙ is
  same_verdict cells want (Err fault) verdict refuses is = same_fault want fault verdict refuses is

  -- a check without a verdict wanted memory, where the cells are to be asked
  unjudged_fault : (want : Result (List Bool) CheckFault) (fault : CheckFault) → Refuses want fault → refused_by (refusal_of fault) ≡ None → AsksCells want
  unjudged_fault want check.Rows r v = absurd (let n : ◌≡◌ {A = Option Verdict} None (refused_by (refusal_of check.Rows)) = sym v in cc)
  unjudged_fault want (check.Read e) r v = absurd (let n : ◌≡◌ {A = Option Verdict} None (refused_by (refusal_of (check.Read e))) = sym v in cc)
  unjudged_fault want (check.Rule e) r v = absurd (let n : ◌≡◌ {A = Option Verdict} None (refused_by (refusal_of (check.Rule e))) = sym v in cc)
  unjudged_fault want check.OtherRule r v = absurd (let n : ◌≡◌ {A = Option Verdict} None (refused_by (refusal_of check.OtherRule)) = sym v in cc)
  unjudged_fault want check.Size r v = absurd (let n : ◌≡◌ {A = Option Verdict} None (refused_by (refusal_of check.Size)) = sym v in cc)
  unjudged_fault want (check.Instance e) r v = absurd (let n : ◌≡◌ {A = Option Verdict} None (refused_by (refusal_of (check.Instance e))) = sym v in cc)
  unjudged_fault want (check.Tie e) r v = absurd (let n : ◌≡◌ {A = Option Verdict} None (refused_by (refusal_of (check.Tie e))) = sym v in cc)
  unjudged_fault want (check.Memory e) r v = r

  no_verdict : {A : Type 0} (cells : A → List Bool) (want : Result (List Bool) CheckFault) (answer : Result A CheckFault) → MatchResult answer (λ v. want ≡ Ok (cells v)) (Refuses want) → verdict_of answer ≡ None → AsksCells want
  no_verdict cells want (Ok v) same is = absurd (let n : ◌≡◌ {A = Option Verdict} None (verdict_of (Ok v)) = sym is in cc)
  no_verdict cells want (Err fault) refuses is = unjudged_fault want fault refuses is

  pub unjudged : {A : Type 0} (cells : A → List Bool) (read : List ℕ) → Front known read → (answer : Result A CheckFault) → MatchResult answer (λ v. checked s rule read ≡ Ok (cells v)) (Refuses (checked s rule read)) → verdict_of answer ≡ None →
      (e : AllocError) → JudgedOf (Err (Memory e)) old
  unjudged cells read front answer same is e = (all_of known read, all_of_it known read, (subst AsksCells (checked_of_all s rule known read front) (no_verdict cells (checked s rule read) answer same is), Keeps-refl old))

  -- the line of the verdict was written, or the writer failed
  lined : (read : List ℕ) → Front known read → (verdict : Verdict) → IsVerdict s rule read verdict → (result : Result (Unit {0}) RunFault) (new : Option (List ℕ)) → LineWritten (verdict_line name verdict) old result new → JudgedOf result new
  lined read front verdict is (Ok u) new written = (all_of known read, all_of_it known read, (verdict, ap verdict_of (sym (checked_of_all s rule known read front)) ∙ is, written))
  lined read front verdict is (Err (Write e)) new written = (all_of known read, all_of_it known read, (verdict, ap verdict_of (sym (checked_of_all s rule known read front)) ∙ is, written))
  lined read front verdict is (Err (Read e)) new written = absurd written
  lined read front verdict is (Err (Listing e)) new written = absurd written
  lined read front verdict is (Err (Memory e)) new written = absurd written

  pub judged : (read line : List ℕ) → Front known read → (verdict : Verdict) → IsVerdict s rule read verdict → line ≡ verdict_line name verdict → (result : Result (Unit {0}) RunFault) (new : Option (List ℕ)) → LineWritten line old result new → JudgedOf result new
  judged read line front verdict is same result new written = lined read front verdict is result new (subst (λ (line : List ℕ). LineWritten line old result new) same written)
