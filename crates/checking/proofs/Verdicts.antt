-- What the check computes is the verdict that its line says, and no other is.
use Rattle.std.proofs.Common.{◌≡◌, ℕ, ◌%◌, ◌<◌, ◌≤◌, Bool, true, false, cond, ◌||◌, ◌⊎◌, List, Some, None, Ok, Err, Option, Result, nat_lt, sym, refl, ap, ◌∙◌, subst, inl, inr, arith}
use Rattle.std.specs.Prelude.{MatchResult}
use Rattle.std.specs.Global.{Vec}
use Rattle.std.specs.declared.alloc.AllocError.{AllocError}
use Rattle.std.proofs.lemmas.Bool.{both_ways, cases_lt, cond-true, cond-false, lt-ltb, le-ltb, ltb-true, ltb-false}
use Rattle.rules.specs.declared.fault.RuleFault.{RuleFault}
use Rattle.rules.specs.declared.fault.RuleFault.TheVariants.{Form, BirthZero}
use Rattle.rules.specs.declared.rule.Rule.{Rule}
use Rattle.rules.specs.Forms.{Sets, parsed}
use Rattle.rules.proofs.Forms.{forms_stand}
use Rattle.rle.specs.declared.fault.ReadFault.{ReadFault}
use Rattle.rolls.specs.Rolls.{Surface}
use Rattle.keeping.specs.Asked.{broken_instance, broken_tie}
use Rattle.keeping.specs.declared.places.InstanceAt.{InstanceAt}
use Rattle.keeping.specs.declared.places.TieAt.{TieAt}
use Rattle.keeping.proofs.Broken.{asking_right}
use Rattle.keeping.proofs.Following.{working_right}
use Rattle.patterns.specs.Laid.{laid}
use Rattle.patterns.specs.Laws.{told_form}
use Rattle.patterns.specs.Told.{Told, told}
use Rattle.patterns.proofs.Whole.{telling_right}
use Rattle.checking.specs.Checked.{AsksCells, Refuses, checked, judged, ruled_by, sized, kept, held, after, are_of, rule_text}
use Rattle.checking.specs.Laws.{Suits}
use Rattle.checking.specs.Verdicts.{Legible, NoRule, Names, Fits, filling, VerdictOn, many_rows, misread, no_rule, other_rule, too_large, breaks_instance, breaks_tie, accepts, no_memory, VerdictLaws, shown}
use Rattle.checking.specs.declared.fault.CheckFault.{CheckFault}
use Rattle.checking.specs.declared.fault.CheckFault.TheVariants.{Rows, Read, Rule as RuleFaulty, OtherRule, Size, Instance, Tie, Memory}
use Rattle.checking.proofs.Accepting.{named_is, is_named, own_rule, neither, to_cells, from_cells, keeps_kept, laid_long, roll_right}

-- what a text that is read tells
abbrev told_as : (text : List ℕ) → Legible text → Told
told_as text p = told_form p.remarks p.width p.height p.rule p.runs text p.readable

legible_told : (text : List ℕ) (p : Legible text) → told text ≡ Ok (told_as text p)
legible_told text p = telling_right.every p.remarks p.width p.height p.rule p.runs text p.short p.readable

-- and one that tells something is read
told_legible : (text : List ℕ) (t : Told) → told text ≡ Ok t → Legible text
told_legible text t e =
    let w = telling_right.only text t e in
    record { remarks = w.1.0; width = t.width; height = t.height; rule = t.rule; runs = t.runs; short = w.0; readable = w.1.1 }

-- a text is no rule exactly when it is refused as none
odd : (n : ℕ) → (n % 2 ≡ 0) ⊎ (n % 2 ≡ 1)
odd n = elim (cases_lt (n % 2) 1) [ inl less ↦ inl (omega arith) | inr more ↦ inr (omega arith) ]

none_written : (name : List ℕ) → parsed name ≡ Err Form → NoRule name Form
none_written name e births survivals few less same =
    elim (odd births) [
      | inl even ↦ (let both : ◌≡◌ {A = Result Sets RuleFault} (Err Form) (Ok (record { births = births; survivals = survivals })) = sym e ∙ ap parsed same ∙ forms_stand.0 births survivals few less even in cc)
      | inr uneven ↦ (let both : ◌≡◌ {A = Result Sets RuleFault} (Err Form) (Err BirthZero) = sym e ∙ ap parsed same ∙ forms_stand.1 births survivals few less uneven in cc)
    ]

is_none : (name : List ℕ) (cause : RuleFault) → parsed name ≡ Err cause → NoRule name cause
is_none name Form e = none_written name e
is_none name BirthZero e = forms_stand.3 name e

parsed_none : (name : List ℕ) (z : Result Sets RuleFault) → parsed name ≡ z → NoRule name Form → parsed name ≡ Err Form
parsed_none name (Ok named) e h = (let w = forms_stand.2 name named.births named.survivals e in absurd (h named.births named.survivals w.0 w.1 w.3))
parsed_none name (Err Form) e h = e
parsed_none name (Err BirthZero) e h = (let w = forms_stand.3 name e in absurd (h w.0 w.1 w.2 w.3 w.5))

none_is : (name : List ℕ) (cause : RuleFault) → NoRule name cause → parsed name ≡ Err cause
none_is name Form h = parsed_none name (parsed name) refl h
none_is name BirthZero h = ap parsed h.5 ∙ forms_stand.1 h.0 h.1 h.2 h.3 h.4

-- one of two holds
one_of : (a b : Bool) → (a || b) ≡ true → (a ≡ true) ⊎ (b ≡ true)
one_of true b e = inl refl
one_of false b e = inr e

first_is : (a b : Bool) → a ≡ true → (a || b) ≡ true
first_is true b e = refl
first_is false b e = absurd (both_ways false refl e)

second_is : (a b : Bool) → b ≡ true → (a || b) ≡ true
second_is true b e = refl
second_is false b e = e

module _ (s : Surface) (r : Rule) (text : List ℕ) where
  -- the answer about the cells, once nothing else is refused
  cells_stand : (p : Legible text) → Fits s r text p → (o : Option TieAt) (i : Option InstanceAt) → broken_tie s (filling s r text p) ≡ o → broken_instance s r (filling s r text p) ≡ i → VerdictOn s r text (held (laid s.frame p.runs) o i)
  cells_stand p u None None e f = accepts p u (asking_right.kept s r (filling s r text p) (working_right.long s r (laid s.frame p.runs) (laid_long s.frame p.runs)) f e)
  cells_stand p u (Some at) None e f = breaks_tie p at u ((asking_right.holding s r (filling s r text p)).0 f) (asking_right.tie_first s (filling s r text p) at e)
  cells_stand p u o (Some at) e f = breaks_instance p at u (asking_right.instance_first s r (filling s r text p) at f)

  -- about the sizes
  size_stands : (p : Legible text) → s.rows ≤ 8 → Names r (rule_text p.rule) → (b : Bool) → (nat_lt s.frame.width p.width || nat_lt s.frame.height p.height) ≡ b → VerdictOn s r text (after (cond b (Err Size) (Ok tt)) (kept s r (laid s.frame p.runs)))
  size_stands p few named true e =
      too_large p few named (elim (one_of (nat_lt s.frame.width p.width) (nat_lt s.frame.height p.height) e) [ inl wide ↦ inl (ltb-true s.frame.width p.width wide) | inr high ↦ inr (ltb-true s.frame.height p.height high) ])
  size_stands p few named false e =
      let small = neither (nat_lt s.frame.width p.width) (nat_lt s.frame.height p.height) e in
      cells_stand p (record { few = few; named = named; narrow = ltb-false s.frame.width p.width small.0; low = ltb-false s.frame.height p.height small.1 }) _ _ refl refl

  -- about the rule
  own_stands : (p : Legible text) → s.rows ≤ 8 → (named : Sets) → parsed (rule_text p.rule) ≡ Ok named → (b : Bool) → are_of r named ≡ b → VerdictOn s r text (after (cond b (Ok tt) (Err OtherRule)) (after (sized s.frame (told_as text p)) (kept s r (laid s.frame p.runs))))
  own_stands p few named e true is = size_stands p few (named_is r (rule_text p.rule) named e is) (nat_lt s.frame.width p.width || nat_lt s.frame.height p.height) refl
  own_stands p few named e false is =
      let w = forms_stand.2 (rule_text p.rule) named.births named.survivals e in
      let other : Rule = record { births = named.births; survivals = named.survivals; few_births = w.0; few_survivals = w.1; quiet = w.2 } in
      let own : Sets = record { births = r.births; survivals = r.survivals } in
      let unlike : Names r (rule_text p.rule) → ⊥ = λ k.
      let both : ◌≡◌ {A = Result Sets RuleFault} (Ok named) (Ok own) = sym e ∙ is_named r (rule_text p.rule) k in
      let same : named ≡ own = cc in
      both_ways (are_of r named) is (ap (are_of r) same ∙ own_rule r) in
      other_rule p other few w.3 unlike

  rule_stands : (p : Legible text) → s.rows ≤ 8 → (n : Result Sets RuleFault) → parsed (rule_text p.rule) ≡ n → VerdictOn s r text (after (ruled_by r (told_as text p) n) (after (sized s.frame (told_as text p)) (kept s r (laid s.frame p.runs))))
  rule_stands p few (Err cause) e = no_rule p cause few (is_none (rule_text p.rule) cause e)
  rule_stands p few (Ok named) e = own_stands p few named e (are_of r named) refl

  -- about the text
  text_stands : s.rows ≤ 8 → (z : Result Told ReadFault) → told text ≡ z → VerdictOn s r text (judged s r z)
  text_stands few (Err fault) e = misread fault few (telling_right.faulty text fault e)
  text_stands few (Ok t) e =
      let p = told_legible text t e in
      let same : ◌≡◌ {A = Result Told ReadFault} (Ok (told_as text p)) (Ok t) = sym (legible_told text p) ∙ e in
      subst (λ z. VerdictOn s r text (judged s r z)) same (rule_stands p few (parsed (rule_text p.rule)) refl)

  rows_stand : (b : Bool) → nat_lt 8 s.rows ≡ b → VerdictOn s r text (cond b (Err Rows) (judged s r (told text)))
  rows_stand true e = many_rows (ltb-true 8 s.rows e)
  rows_stand false e = text_stands (ltb-false 8 s.rows e) (told text) refl

  -- the other way: each line tells what is computed
  past_rows : s.rows ≤ 8 → checked s r text ≡ judged s r (told text)
  past_rows few = cond-false (nat_lt 8 s.rows) (Err Rows) (judged s r (told text)) (le-ltb 8 s.rows few)

  past_text : s.rows ≤ 8 → (p : Legible text) → checked s r text ≡ judged s r (Ok (told_as text p))
  past_text few p = past_rows few ∙ ap (judged s r) (legible_told text p)

  -- what is asked after the rule
  after_rule : Legible text → Result (List Bool) CheckFault
  after_rule p = after (sized s.frame (told_as text p)) (kept s r (laid s.frame p.runs))

  past_rule : s.rows ≤ 8 → (p : Legible text) (n : Result Sets RuleFault) → parsed (rule_text p.rule) ≡ n → checked s r text ≡ after (ruled_by r (told_as text p) n) (after_rule p)
  unfolding after_rule
  past_rule few p n e = past_text few p ∙ ap (λ z. after (ruled_by r (told_as text p) z) (after_rule p)) e

  own_sets : Sets
  own_sets = record { births = r.births; survivals = r.survivals }

  past_name : s.rows ≤ 8 → (p : Legible text) → Names r (rule_text p.rule) → checked s r text ≡ after_rule p
  unfolding own_sets
  past_name few p named = past_rule few p (Ok own_sets) (is_named r (rule_text p.rule) named) ∙ ap (λ b. after (cond b (Ok tt) (Err OtherRule)) (after_rule p)) (own_rule r)

  pub suits : (p : Legible text) → Fits s r text p → Suits s r text (told_as text p)
  suits p u = record { few = u.few; tells = legible_told text p; named = u.named; narrow = u.narrow; low = u.low }

  large : (p : Legible text) → (s.frame.width < p.width) ⊎ (s.frame.height < p.height) → (nat_lt s.frame.width p.width || nat_lt s.frame.height p.height) ≡ true
  large p (inl wide) = first_is (nat_lt s.frame.width p.width) (nat_lt s.frame.height p.height) (lt-ltb s.frame.width p.width wide)
  large p (inr high) = second_is (nat_lt s.frame.width p.width) (nat_lt s.frame.height p.height) (lt-ltb s.frame.height p.height high)

  unlike_sets : (p : Legible text) (other : Rule) → Names other (rule_text p.rule) → (Names r (rule_text p.rule) → ⊥) → (b : Bool) → are_of r (record { births = other.births; survivals = other.survivals }) ≡ b → b ≡ false
  unlike_sets p other names unlike true e = absurd (unlike (named_is r (rule_text p.rule) (record { births = other.births; survivals = other.survivals }) (is_named other (rule_text p.rule) names) e))
  unlike_sets p other names unlike false e = refl

  tells : (answer : Result (List Bool) CheckFault) → VerdictOn s r text answer → (answer ≡ checked s r text) ⊎ ((e : AllocError) × (answer ≡ Err (Memory e)))
  unfolding after_rule
  tells answer (many_rows h) = inl (sym (cond-true (nat_lt 8 s.rows) (Err Rows) (judged s r (told text)) (lt-ltb 8 s.rows h)))
  tells answer (misread fault few h) = inl (sym (past_rows few ∙ ap (judged s r) (telling_right.one_fault text fault h)))
  tells answer (no_rule p cause few h) = inl (sym (past_rule few p (Err cause) (none_is (rule_text p.rule) cause h)))
  tells answer (other_rule p other few names unlike) =
      let sets : Sets = record { births = other.births; survivals = other.survivals } in
      inl (sym (past_rule few p (Ok sets) (is_named other (rule_text p.rule) names) ∙ ap (λ b. after (cond b (Ok tt) (Err OtherRule)) (after_rule p)) (unlike_sets p other names unlike (are_of r sets) refl)))
  tells answer (too_large p few named h) = inl (sym (past_name few p named ∙ ap (λ b. after (cond b (Err Size) (Ok tt)) (kept s r (laid s.frame p.runs))) (large p h)))
  tells answer (breaks_instance p at u h) =
      let f = filling s r text p in
      inl (sym (to_cells s r text (told_as text p) (suits p u) ∙ ap (held (laid s.frame p.runs) (broken_tie s f)) (asking_right.one_instance s r f at h)))
  tells answer (breaks_tie p at u all h) =
      let f = filling s r text p in
      let first = laid s.frame p.runs in
      inl (sym (to_cells s r text (told_as text p) (suits p u) ∙ ap (held first (broken_tie s f)) ((asking_right.holding s r f).1 all) ∙ ap (λ o. held first o None) (asking_right.one_tie s f at h)))
  tells answer (accepts p u k) = inl (sym (to_cells s r text (told_as text p) (suits p u) ∙ keeps_kept s r (laid s.frame p.runs) k))
  tells answer (no_memory p e u) = inr (e, refl)

  -- an answer that is about the cells is one of a text that fits
  asked_fits : AsksCells (checked s r text) → (p : Legible text) × Fits s r text p
  unfolding told_legible
  asked_fits h =
      let w = from_cells s r text (checked s r text) refl h in
      let t = w.0 in
      let u = w.1 in
      (told_legible text t u.tells, record { few = u.few; named = u.named; narrow = u.narrow; low = u.low })

  refused_stands : (fault : CheckFault) → Refuses (checked s r text) fault → VerdictOn s r text (checked s r text) → VerdictOn s r text (Err fault)
  refused_stands Rows h v = subst (VerdictOn s r text) h v
  refused_stands (Read fault) h v = subst (VerdictOn s r text) h v
  refused_stands (RuleFaulty fault) h v = subst (VerdictOn s r text) h v
  refused_stands OtherRule h v = subst (VerdictOn s r text) h v
  refused_stands Size h v = subst (VerdictOn s r text) h v
  refused_stands (Instance at) h v = subst (VerdictOn s r text) h v
  refused_stands (Tie at) h v = subst (VerdictOn s r text) h v
  refused_stands (Memory e) h v = (let w = asked_fits h in no_memory w.0 e w.1)

  -- what is answered as computed is the verdict
  pub answered_stands : (answer : Result (Vec Bool) CheckFault) → MatchResult answer (λ v. checked s r text ≡ Ok v.items) (Refuses (checked s r text)) → VerdictOn s r text (shown answer)
  answered_stands (Ok v) h = subst (VerdictOn s r text) h (rows_stand (nat_lt 8 s.rows) refl)
  answered_stands (Err fault) h = refused_stands fault h (rows_stand (nat_lt 8 s.rows) refl)

accepted_is : (s : Surface) (r : Rule) (text : List ℕ) (first : List Bool) → VerdictOn s r text (Ok first) → checked s r text ≡ Ok first
accepted_is s r text first v =
    elim (tells s r text (Ok first) v) [
      | inl e ↦ sym e
      | inr w ↦ (let both : ◌≡◌ {A = Result (List Bool) CheckFault} (Ok first) (Err (Memory w.0)) = w.1 in cc)
    ]

pub verdicts_right : VerdictLaws
verdicts_right = record {
  stands = λ s r text. rows_stand s r text (nat_lt 8 s.rows) refl;
  only = tells;
  roll = λ s r first law few. (
    λ m. let w = (roll_right.exactly s r first law few).0 m in (w.0, subst (VerdictOn s r w.0) w.1 (rows_stand s r w.0 (nat_lt 8 s.rows) refl)),
    λ p. (roll_right.exactly s r first law few).1 (p.0, accepted_is s r p.0 first p.1),
  );
}
