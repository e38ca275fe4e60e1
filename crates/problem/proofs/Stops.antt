-- Reading lines in turn: a refusal stands at the first line with which nothing could be read.
use Rattle.std.proofs.Common.{◌≡◌, ℕ, ◌+◌, ◌⊎◌, List, [], ◌∷◌, ◌++◌, length, Some, None, Ok, Err, Option, Result, sym, refl, ap, inl, inr, ◌∙◌, ⊎_elim, arith}
use Rattle.problem.specs.Faults.{at_line}
use Rattle.problem.specs.Lines.{first, others}
use Rattle.problem.specs.Reading.{go_on}
use Rattle.problem.specs.declared.fault.Cause.{Cause}
use Rattle.problem.specs.declared.fault.Cause.TheVariants.{Form}
use Rattle.problem.specs.declared.fault.ProblemFault.{ProblemFault}

-- lines are read from a line number on
abbrev pub Reader : Type 0 → Type 0
Reader A = List (List ℕ) → Result A ProblemFault

-- a line with which the same refusal stands whatever follows
abbrev pub Ends : {A : Type 0} → Reader A → List (List ℕ) → List (List ℕ) → ProblemFault → Type 0
Ends r before ls f = (line : List ℕ) × (after : List (List ℕ)) × (ls ≡ before ++ (line ∷ after)) × ((rest : List (List ℕ)) → r (before ++ (line ∷ rest)) ≡ Err f)

-- a refusal, and the lines before the one at fault, which could be gone on with
pub record Stops {A : Type 0} (n : ℕ) (r : Reader A) (ls : List (List ℕ)) (f : ProblemFault) : Type 0 where
  pub before : List (List ℕ)
  pub place : f.line ≡ n + length before
  pub begins : (rest : List (List ℕ)) × (a : A) × (r (before ++ rest) ≡ Ok a)
  pub at_fault : ((ls ≡ before) × (f.cause ≡ Form)) ⊎ Ends r before ls f

-- something can be read, and each refusal stands so
pub record Judges {A : Type 0} (n : ℕ) (r : Reader A) : Type 0 where
  pub goes : (ls : List (List ℕ)) × (a : A) × (r ls ≡ Ok a)
  pub stops : (ls : List (List ℕ)) (f : ProblemFault) → r ls ≡ Err f → Stops n r ls f

-- one line more before those that are read in turn
abbrev pub Turned : {X A : Type 0} → ℕ → (Option (List ℕ) → Result X Cause) → (X → Reader A) → Reader A
Turned n read next ls = go_on (at_line n (read (first ls))) (λ x. next x (others ls))

-- a later refusal, with one line more before it
pub later : {A : Type 0} (n : ℕ) (r s : Reader A) (l : List ℕ) (ls : List (List ℕ)) (f : ProblemFault) → ((rest : List (List ℕ)) → s (l ∷ rest) ≡ r rest) → Stops (n + 1) r ls f → Stops n s (l ∷ ls) f
later n r s l ls f same stop = record {
  before = l ∷ stop.before;
  place = omega (arith, stop.place);
  begins = (stop.begins.0, stop.begins.1, same (stop.before ++ stop.begins.0) ∙ stop.begins.2);
  at_fault = ⊎_elim
      (λ missing. inl (ap (λ x. l ∷ x) missing.0, missing.1))
      (λ (line, after, is, none). inr (line, after, ap (λ x. l ∷ x) is, λ rest. same (stop.before ++ (line ∷ rest)) ∙ none rest))
      stop.at_fault;
}

-- a refusal of the line that is read first
here : {X A : Type 0} (n : ℕ) (read : Option (List ℕ) → Result X Cause) (next : X → Reader A) (l : List ℕ) (ls : List (List ℕ)) (f : ProblemFault) (cause : Cause) → read (Some l) ≡ Err cause → record { line = n; cause = cause } ≡ f → ((ls : List (List ℕ)) × (a : A) × (Turned n read next ls ≡ Ok a)) → Stops n (Turned n read next) (l ∷ ls) f
here n read next l ls f cause e is goes = record {
  before = [];
  place = omega (arith, ap (λ (g : ProblemFault). g.line) is);
  begins = goes;
  at_fault = inr (l, ls, refl, λ rest. ap (λ r. go_on (at_line n r) (λ x. next x rest)) e ∙ ap (λ (g : ProblemFault). Err g) is);
}

by_line : {X A : Type 0} (n : ℕ) (read : Option (List ℕ) → Result X Cause) (next : X → Reader A) → ((x : X) → Judges (n + 1) (next x)) → ((ls : List (List ℕ)) × (a : A) × (Turned n read next ls ≡ Ok a)) → (l : List ℕ) (ls : List (List ℕ)) (f : ProblemFault) (v : Result X Cause) → read (Some l) ≡ v → Turned n read next (l ∷ ls) ≡ Err f → Stops n (Turned n read next) (l ∷ ls) f
by_line n read next judge goes l ls f (Ok x) is e =
    let same = λ (rest : List (List ℕ)). ap (λ r. go_on (at_line n r) (λ y. next y rest)) is in
    later n (next x) (Turned n read next) l ls f same ((judge x).stops ls f (sym (same ls) ∙ e))
by_line n read next judge goes l ls f (Err cause) is e =
    let refused = sym (ap (λ r. go_on (at_line n r) (λ y. next y ls)) is) ∙ e in
    let wanted : ProblemFault = record { line = n; cause = cause } in
    let same : wanted ≡ f = cc in
    here n read next l ls f cause is same goes

turn_stops : {X A : Type 0} (n : ℕ) (read : Option (List ℕ) → Result X Cause) (next : X → Reader A) → read None ≡ Err Form → ((x : X) → Judges (n + 1) (next x)) → ((ls : List (List ℕ)) × (a : A) × (Turned n read next ls ≡ Ok a)) → (ls : List (List ℕ)) (f : ProblemFault) → Turned n read next ls ≡ Err f → Stops n (Turned n read next) ls f
turn_stops n read next missing judge goes [] f e =
    let is = sym (ap (λ r. go_on (at_line n r) (λ y. next y [])) missing) ∙ e in
    let wanted : ProblemFault = record { line = n; cause = Form } in
    let same : wanted ≡ f = cc in
    record { before = []; place = omega (arith, ap (λ (g : ProblemFault). g.line) same); begins = goes; at_fault = inl (refl, ap (λ (g : ProblemFault). g.cause) (sym same)) }
turn_stops n read next missing judge goes (l ∷ ls) f e = by_line n read next judge goes l ls f (read (Some l)) refl e

pub turned : {X A : Type 0} (n : ℕ) (read : Option (List ℕ) → Result X Cause) (next : X → Reader A) (line : List ℕ) (x : X) → read None ≡ Err Form → read (Some line) ≡ Ok x → ((x : X) → Judges (n + 1) (next x)) → Judges n (Turned n read next)
turned {A = A} n read next line x missing ok judge =
    let more = (judge x).goes in
    let goes : (ls : List (List ℕ)) × (a : A) × (Turned n read next ls ≡ Ok a) = (line ∷ more.0, more.1, ap (λ r. go_on (at_line n r) (λ y. next y more.0)) ok ∙ more.2) in
    record { goes = goes; stops = turn_stops n read next missing judge goes }

-- what is read may be told in other words
told_stops : {A B : Type 0} (n : ℕ) (r : Reader A) (tell : A → B) (ls : List (List ℕ)) (f : ProblemFault) → Stops n r ls f → Stops n (λ l. go_on (r l) (λ a. Ok (tell a))) ls f
told_stops n r tell ls f stop = record {
  before = stop.before;
  place = stop.place;
  begins = (stop.begins.0, tell stop.begins.1, ap (λ v. go_on v (λ a. Ok (tell a))) stop.begins.2);
  at_fault = ⊎_elim (λ missing. inl missing) (λ (line, after, is, none). inr (line, after, is, λ rest. ap (λ v. go_on v (λ a. Ok (tell a))) (none rest))) stop.at_fault;
}

pub untold : {A B : Type 0} (v : Result A ProblemFault) (tell : A → B) (f : ProblemFault) → go_on v (λ a. Ok (tell a)) ≡ Err f → v ≡ Err f
untold (Ok a) tell f e = absurd (cc)
untold (Err g) tell f e = let same : g ≡ f = cc in ap (λ (h : ProblemFault). Err h) same

pub told : {A B : Type 0} (n : ℕ) (r : Reader A) (tell : A → B) → Judges n r → Judges n (λ l. go_on (r l) (λ a. Ok (tell a)))
told n r tell judge = record {
  goes = (judge.goes.0, tell judge.goes.1, ap (λ v. go_on v (λ a. Ok (tell a))) judge.goes.2);
  stops = λ ls f e. told_stops n r tell ls f (judge.stops ls f (untold (r ls) tell f e));
}
