-- Why a line is refused: what reading it answers, and what its written form is.
use Rattle.std.proofs.Common.{◌≡◌, ℕ, ◌%◌, ◌<◌, eqb, ◌⊎◌, List, [], ◌∷◌, length, Some, None, Ok, Err, Option, Result, sym, refl, ap, subst, inl, inr, ◌∙◌, ⊎_elim, arith}
use Rattle.std.specs.Prelude.{codes}
use Rattle.std.proofs.lemmas.Bool.{cases_Bool, cond-false, cond-true}
use Rattle.frames.specs.Frames.{Shape, built}
use Rattle.frames.specs.declared.fault.FrameFault.{FrameFault}
use Rattle.rules.specs.Forms.{Sets, parsed, quiet_only}
use Rattle.rules.specs.declared.fault.RuleFault.{RuleFault}
use Rattle.rules.specs.declared.fault.RuleFault.TheVariants.{Form as NoForm, BirthZero}
use Rattle.rules.proofs.Forms.{form_view, loud, odd_read, parsed_written}
use Rattle.words.specs.Forms.{KeyAndValue}
use Rattle.words.specs.Words.{value_after}
use Rattle.words.proofs.Keys.{either}
use Rattle.words.proofs.Signed.{value_only, value_read}
use Rattle.problem.specs.Causes.{Formed, LineRefused, NoRule, Why}
use Rattle.problem.specs.Forms.{size_in}
use Rattle.problem.specs.Reading.{Said, formed, frame_line, framed, go_on, of_form, rule_line, ruled}
use Rattle.problem.specs.Written.{BoxForm, Written}
use Rattle.problem.specs.declared.fault.Cause.{Cause}
use Rattle.problem.specs.declared.fault.Cause.TheVariants.{TooLong, Form, Frame, Rule, Fix}
use Rattle.problem.specs.declared.forms.Size.{Size}
use Rattle.problem.proofs.Statements.{size_front, size_only}

pub none_of : {A : Type 0} (o : Option A) → ((a : A) → o ≡ Some a → ⊥) → o ≡ None
none_of o never = ⊎_elim (λ none. none) (λ (a, some). absurd (never a some)) (either o)

-- a line that is read and then judged
pub turn_by : {A B : Type 0} (o : Option A) (next : A → Result B Cause) (c : Cause) → go_on (of_form o) next ≡ Err c → ((o ≡ None) × (Form ≡ c)) ⊎ ((a : A) × (o ≡ Some a) × (next a ≡ Err c))
turn_by None next c e = inl (refl, cc)
turn_by (Some a) next c e = inr (a, refl, e)

-- texts that are no rules
no_rule : (fault : RuleFault) (text : List ℕ) → parsed text ≡ Err fault → NoRule fault text
no_rule NoForm text e = λ b s hb hs is.
    let read : quiet_only b s ≡ Err NoForm = sym (ap parsed is ∙ parsed_written b s hb hs) ∙ e in
    ⊎_elim
    (λ odd. let no : Err BirthZero ≡ Err NoForm = sym (cond-true (eqb (b % 2) 1) (Err BirthZero) (Ok (record { births = b; survivals = s })) odd) ∙ read in absurd (cc))
    (λ even. let no : Ok (record { births = b; survivals = s }) ≡ Err NoForm = sym (cond-false (eqb (b % 2) 1) (Err BirthZero) (Ok (record { births = b; survivals = s })) even) ∙ read in absurd (cc))
    (cases_Bool (eqb (b % 2) 1))
no_rule BirthZero text e = loud text e

rule_no : (fault : RuleFault) (text : List ℕ) → NoRule fault text → parsed text ≡ Err fault
rule_no NoForm text never = ⊎_elim (λ bad. bad) (λ a. absurd (never a.0 a.1 a.2 a.3 a.4)) (form_view text)
rule_no BirthZero text (b, s, hb, hs, odd, is) = ap parsed is ∙ parsed_written b s hb hs ∙ odd_read b s odd

-- the first line
rule_by : (line text : List ℕ) → KeyAndValue (codes "rule") text line → (v : Result Sets RuleFault) → parsed text ≡ v → (c : Cause) → ruled v ≡ Err c → LineRefused [] line c
rule_by line text form (Ok s) is c e = absurd (cc)
rule_by line text form (Err fault) is c e = let same : Rule fault ≡ c = cc in subst (LineRefused [] line) same (refl, text, form, no_rule fault text is)

pub rule_why : (o : Option (List ℕ)) (c : Cause) → rule_line o ≡ Err c → Why [] o c
rule_why None c e = (omega arith, cc)
rule_why (Some line) c e =
    ⊎_elim
    (λ (none, is). subst (LineRefused [] line) is (λ (text, form). let some = value_read (codes "rule") text line form in absurd (cc)))
    (λ (text, some, bad). rule_by line text (value_only (codes "rule") text line some) (parsed text) refl c bad)
    (turn_by (value_after (codes "rule") line) (λ text. ruled (parsed text)) c e)

-- the lines of a problem are five at least
pub five : (before : List (List ℕ)) {p : Said} → Written before p → length before < 5 → ⊥
five before w h = omega (arith, h, ap length w.all)

pub why_rule : (o : Option (List ℕ)) (c : Cause) → Why [] o c → rule_line o ≡ Err c
why_rule None c why = ap (λ (d : Cause). Err d) (sym why.1)
why_rule (Some line) TooLong why = absurd why
why_rule (Some line) Form never = ap (λ o. go_on (of_form o) (λ text. ruled (parsed text))) (none_of (value_after (codes "rule") line) (λ text some. never (text, value_only (codes "rule") text line some)))
why_rule (Some line) (Rule fault) (none, text, form, bad) =
    ap (λ o. go_on (of_form o) (λ t. ruled (parsed t))) (value_read (codes "rule") text line form) ∙ ap ruled (rule_no fault text bad)
why_rule (Some line) (Frame fault) (one, size, form, bad) = absurd (omega (arith, one))
why_rule (Some line) (Fix fault) (p, w, cell, form, bad) = absurd (five [] w (omega arith))

-- the second line
frame_by : (a line : List ℕ) (size : Size) → BoxForm size line → (v : Result Shape FrameFault) → built size.width size.height size.period size.dx size.dy ≡ v → (c : Cause) → framed v ≡ Err c → LineRefused (a ∷ []) line c
frame_by a line size form (Ok s) is c e = absurd (cc)
frame_by a line size form (Err fault) is c e = let same : Frame fault ≡ c = cc in subst (LineRefused (a ∷ []) line) same (refl, size, form, is)

pub frame_why : (a : List ℕ) (o : Option (List ℕ)) (c : Cause) → frame_line o ≡ Err c → Why (a ∷ []) o c
frame_why a None c e = (omega arith, cc)
frame_why a (Some line) c e =
    ⊎_elim
    (λ (none, is). subst (LineRefused (a ∷ []) line) is (λ (size, form). let some = size_front line size form in absurd (cc)))
    (λ (size, some, bad). frame_by a line size (size_only line size some) (built size.width size.height size.period size.dx size.dy) refl c bad)
    (turn_by (size_in line) (λ (s : Size). framed (built s.width s.height s.period s.dx s.dy)) c e)

pub why_frame : (a : List ℕ) (o : Option (List ℕ)) (c : Cause) → Why (a ∷ []) o c → frame_line o ≡ Err c
why_frame a None c why = ap (λ (d : Cause). Err d) (sym why.1)
why_frame a (Some line) TooLong why = absurd why
why_frame a (Some line) Form never = ap (λ o. go_on (of_form o) (λ (s : Size). framed (built s.width s.height s.period s.dx s.dy))) (none_of (size_in line) (λ size some. never (size, size_only line size some)))
why_frame a (Some line) (Rule fault) (none, text, form, bad) = absurd (cc)
why_frame a (Some line) (Frame fault) (one, size, form, bad) =
    ap (λ o. go_on (of_form o) (λ (s : Size). framed (built s.width s.height s.period s.dx s.dy))) (size_front line size form) ∙ ap framed bad
why_frame a (Some line) (Fix fault) (p, w, cell, form, bad) = absurd (five (a ∷ []) w (omega arith))

-- the lines after these, which are of their form or not
pub plain_why : {A : Type 0} (before : List (List ℕ)) (read : List ℕ → Option A) → length before < 5 → ((line : List ℕ) → Formed before line → (a : A) × (read line ≡ Some a)) → (o : Option (List ℕ)) (c : Cause) → formed read o ≡ Err c → Why before o c
plain_why before read short reads None c e = (short, cc)
plain_why before read short reads (Some line) c e =
    ⊎_elim
    (λ (none, is). subst (LineRefused before line) is (λ form. let some = reads line form in let both = some.1 in absurd (cc)))
    (λ (a, some, bad). absurd (cc))
    (turn_by (read line) (λ a. Ok a) c (plainly (read line) c e))
  where
    plainly : {B : Type 0} (v : Option B) (d : Cause) → of_form v ≡ Err d → go_on (of_form v) (λ a. Ok a) ≡ Err d
    plainly None d is = is
    plainly (Some b) d is = is

pub why_plain : {A : Type 0} (before : List (List ℕ)) (read : List ℕ → Option A) → 1 < length before → length before < 5 → ((line : List ℕ) (a : A) → read line ≡ Some a → Formed before line) → (o : Option (List ℕ)) (c : Cause) → Why before o c → formed read o ≡ Err c
why_plain before read some short only None c why = ap (λ (d : Cause). Err d) (sym why.1)
why_plain before read some short only (Some line) TooLong why = absurd why
why_plain before read some short only (Some line) Form never = ap of_form (none_of (read line) (λ a is. never (only line a is)))
why_plain before read some short only (Some line) (Rule fault) (none, text, form, bad) = absurd (omega (arith, some, ap length none))
why_plain before read some short only (Some line) (Frame fault) (one, size, form, bad) = absurd (omega (arith, some, one))
why_plain before read some short only (Some line) (Fix fault) (p, w, cell, form, bad) = absurd (five before w short)
