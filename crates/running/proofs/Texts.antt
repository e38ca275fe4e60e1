-- A text of which only so much is read that it is seen to be too long is refused as the whole of it.
use Rattle.std.proofs.Common.{◌≡◌, ◌⊎◌, ℕ, ◌<◌, ◌≤◌, List, None, Some, Ok, Err, Option, Result, IfSome, inl, inr, length, take, refl, sym, ap, ◌∙◌, arith}
use Rattle.std.proofs.lemmas.Bool.{cases_lt, cond-false, lt-leb}
use Rattle.std.proofs.lemmas.List.{length-take-le, take_all}
use Rattle.std.specs.Prelude.{cond, nat_le, nat_lt, unwrap_or}
use Rattle.checking.specs.Checked.{checked, judged}
use Rattle.checking.specs.declared.fault.CheckFault.TheVariants.{Rows}
use Rattle.patterns.proofs.Whole.{telling_right}
use Rattle.patterns.specs.Told.{Told, told}
use Rattle.problem.specs.Lines.{lines_in}
use Rattle.problem.specs.Reading.{from_lines, problem_in}
use Rattle.problem.specs.declared.fault.Cause.TheVariants.{TooLong}
use Rattle.reader.specs.Calls.{fault_at}
use Rattle.rle.specs.Spots.{corner}
use Rattle.rle.specs.declared.fault.ReadCause.TheVariants.{TooLong as TextTooLong}
use Rattle.rle.specs.declared.fault.ReadFault.{ReadFault}
use Rattle.rolls.specs.Rolls.{Surface}
use Rattle.rules.specs.declared.rule.Rule.{Rule}
use Rattle.running.specs.Runs.{IsAllOf}

-- a text that is short is read whole, and of any other too much is read
cut : {A : Type 0} (f : List ℕ → A) (a : A) → ((text : List ℕ) → 65536 < length text → f text ≡ a) → (all : List ℕ) → (length all ≤ 65536) ⊎ (65536 < length all) → f (take 65537 all) ≡ f all
cut f a long all (inl short) = ap f (take_all 65537 all (omega (arith, short)))
cut f a long all (inr much) = long (take 65537 all) (let e : length (take 65537 all) ≡ 65537 = length-take-le 65537 all (omega (arith, much)) in omega (arith, e)) ∙ sym (long all much)

by_length : (n : ℕ) → (n ≤ 65536) ⊎ (65536 < n)
by_length n = elim (cases_lt 65536 n) [ inl much ↦ inr much | inr short ↦ inl short ]

long_problem : (text : List ℕ) → 65536 < length text → problem_in text ≡ Err (record { line = 1; cause = TooLong })
unfolding problem_in
long_problem text much = cond-false (nat_le (length text) 65536) (from_lines (lines_in text)) (Err (record { line = 1; cause = TooLong })) (lt-leb (length text) 65536 much)

-- what is told of a text that is too long
long_is : (text : List ℕ) → 65536 < length text → (r : Result Told ReadFault) → told text ≡ r → told text ≡ Err (fault_at corner TextTooLong)
long_is text much (Ok t) is = absurd (let short = (telling_right.only text t is).0 in omega (arith, short, much))
long_is text much (Err fault) is = elim (telling_right.faulty text fault is) [
  | inl h ↦ is ∙ ap Err h.1
  | inr h ↦ absurd (omega (arith, h.0, much))
]

long_told : (text : List ℕ) → 65536 < length text → told text ≡ Err (fault_at corner TextTooLong)
long_told text much = long_is text much (told text) refl

-- ---- the text that was read
-- what a reader had, or where that is not known what it gave
abbrev pub all_of : Option (List ℕ) → List ℕ → List ℕ
all_of known read = unwrap_or known read

pub all_of_it : (known : Option (List ℕ)) (read : List ℕ) → IsAllOf known (all_of known read)
all_of_it None read = tt
all_of_it (Some all) read = refl

-- so many bytes of it were read
abbrev pub Front : Option (List ℕ) → List ℕ → Type 0
Front known read = IfSome known (λ all. read ≡ take 65537 all)

pub problem_of_all : (known : Option (List ℕ)) (read : List ℕ) → Front known read → problem_in read ≡ problem_in (all_of known read)
problem_of_all None read h = refl
problem_of_all (Some all) read h = ap problem_in h ∙ cut problem_in (Err (record { line = 1; cause = TooLong })) long_problem all (by_length (length all))

told_of_all : (known : Option (List ℕ)) (read : List ℕ) → Front known read → told read ≡ told (all_of known read)
told_of_all None read h = refl
told_of_all (Some all) read h = ap told h ∙ cut told (Err (fault_at corner TextTooLong)) long_told all (by_length (length all))

pub checked_of_all : (s : Surface) (rule : Rule) (known : Option (List ℕ)) (read : List ℕ) → Front known read → checked s rule read ≡ checked s rule (all_of known read)
checked_of_all s rule known read h = ap (λ (t : Result Told ReadFault). cond (nat_lt 8 s.rows) (Err Rows) (judged s rule t)) (told_of_all known read h)
