-- Why the first line at fault is refused: what reading answers after the lines before it, and the written forms, both ways.
use Rattle.std.proofs.Common.{◌≡◌, ℕ, ◌+◌, List, [], ◌∷◌, ◌++◌, length, Some, None, Ok, Err, Option, Result, sym, refl, ap, subst, ◌∙◌, ⊎_elim, arith}
use Rattle.std.proofs.lemmas.List.{append-nil}
use Rattle.planes.specs.Layers.{kind_of}
use Rattle.planes.specs.Pins.{fixed_number}
use Rattle.planes.specs.declared.fault.FixFault.{FixFault}
use Rattle.planes.specs.declared.mirror.MirrorKind.{MirrorKind}
use Rattle.planes.specs.declared.pins.Pin.{Pin}
use Rattle.problem.specs.Causes.{LineRefused, Why}
use Rattle.problem.specs.Faults.{at_line}
use Rattle.problem.specs.Forms.{fix_in, mirror_in, order_in, space_in}
use Rattle.problem.specs.Laws.{Refused}
use Rattle.problem.specs.Lines.{first, others}
use Rattle.problem.specs.Reading.{Said, SpaceSaid, fix_line, fixed, formed, frame_line, from_fixes, from_frame, from_lines, from_mirror, from_order, from_space, go_on, look_line, look_of, numbered, of_form, rule_line, with_space}
use Rattle.problem.specs.Written.{FixForm, FixForms, Written, holding}
use Rattle.problem.specs.declared.fault.Cause.{Cause}
use Rattle.problem.specs.declared.fault.Cause.TheVariants.{TooLong, Form, Frame, Rule, Fix}
use Rattle.problem.specs.declared.fault.ProblemFault.{ProblemFault}
use Rattle.problem.specs.declared.forms.Fixing.{Fixing}
use Rattle.problem.proofs.Causes.{frame_why, none_of, plain_why, rule_why, turn_by, why_frame, why_plain, why_rule}
use Rattle.problem.proofs.Faulting.{judge_all, judge_fixes, judge_frame, judge_lines, judge_mirror, judge_order, judge_space}
use Rattle.problem.proofs.Pins.{fix_refused, refused_fix}
use Rattle.problem.proofs.Statements.{fix_front, fix_only, mirror_front, mirror_only, order_front, order_only, space_front, space_only}
use Rattle.problem.proofs.Stops.{Judges, Reader, Turned, untold}
use Rattle.problem.proofs.Whole.{frame_front, reads_only, rule_front}

-- a refusal at a line for a cause
abbrev At : ℕ → Cause → ProblemFault
At n cause = record { line = n; cause = cause }

-- a refusal at the line that is read first is its own: what follows is refused at later lines
own : {X A : Type 0} (n : ℕ) (read : Option (List ℕ) → Result X Cause) (next : X → Reader A) → ((x : X) → Judges (n + 1) (next x)) → (ls : List (List ℕ)) (c : Cause) (v : Result X Cause) → read (first ls) ≡ v → Turned n read next ls ≡ Err (At n c) → read (first ls) ≡ Err c
own n read next judge ls c (Ok x) is e =
    let stop = (judge x).stops (others ls) (At n c) (sym (ap (λ r. go_on (at_line n r) (λ y. next y (others ls))) is) ∙ e) in
    absurd (omega (arith, stop.place))
own n read next judge ls c (Err d) is e =
    let both : Err (At n d) ≡ Err (At n c) = sym (ap (λ r. go_on (at_line n r) (λ y. next y (others ls))) is) ∙ e in
    let same : At n d ≡ At n c = cc in
    is ∙ ap (λ (g : ProblemFault). Err g.cause) same

-- reading refuses the line after some lines exactly where that line is refused so
abbrev Told : List (List ℕ) → List (List ℕ) → Cause → Type 0
Told before after c =
    (from_lines (before ++ after) ≡ Err (At (1 + length before) c) → Why before (first after) c)
    × (Why before (first after) c → from_lines (before ++ after) ≡ Err (At (1 + length before) c))

-- the same for a line that is read in turn
in_turn : {X : Type 0} (n : ℕ) (read : Option (List ℕ) → Result X Cause) (next : X → Reader Said) → ((x : X) → Judges (n + 1) (next x)) → (before after : List (List ℕ)) (c : Cause) → n ≡ 1 + length before → from_lines (before ++ after) ≡ Turned n read next after → ((o : Option (List ℕ)) (d : Cause) → read o ≡ Err d → Why before o d) → ((o : Option (List ℕ)) (d : Cause) → Why before o d → read o ≡ Err d) → Told before after c
in_turn n read next judge before after c place pass to from = (
  λ e. to (first after) c (own n read next judge after c (read (first after)) refl (sym pass ∙ e ∙ ap (λ k. Err (At k c)) (sym place))),
  λ why. pass ∙ ap (λ r. go_on (at_line n r) (λ x. next x (others after))) (from (first after) c why) ∙ ap (λ k. Err (At k c)) place,
)

-- lines of a problem are passed
module _ (lines : List (List ℕ)) (p : Said) (w : Written lines p) where
  abbrev start : SpaceSaid
  start = record { frame = w.frame; look = look_of w.named w.frame; mirror = kind_of w.number; pins = [] }

  one : (more : List (List ℕ)) → from_lines (w.rule_line ∷ more) ≡ from_frame p.rule more
  one more = ap (λ r. go_on (at_line 1 r) (λ rule. from_frame rule more)) (rule_front w.rule_line p.rule w.rule)

  two : (more : List (List ℕ)) → from_lines (w.rule_line ∷ w.box_line ∷ more) ≡ from_space p.rule w.frame more
  two more = one (w.box_line ∷ more) ∙ ap (λ r. go_on (at_line 2 r) (λ frame. from_space p.rule frame more)) (frame_front w.box_line w.size w.frame w.box w.limits)

  three : (more : List (List ℕ)) → from_lines (w.rule_line ∷ w.box_line ∷ w.space_line ∷ more) ≡ from_order p.rule w.frame start.look more
  three more = two (w.space_line ∷ more) ∙ ap (λ o. go_on (at_line 3 (go_on (of_form o) (λ named. Ok (look_of named w.frame)))) (λ look. from_order p.rule w.frame look more)) (space_front w.space_line w.named w.space)

  four : (more : List (List ℕ)) → from_lines (w.rule_line ∷ w.box_line ∷ w.space_line ∷ w.order_line ∷ more) ≡ from_mirror p.rule w.frame start.look p.order more
  four more = three (w.order_line ∷ more) ∙ ap (λ o. go_on (at_line 4 (of_form o)) (λ order. from_mirror p.rule w.frame start.look order more)) (order_front w.order_line p.order w.order)

  five : (more : List (List ℕ)) → from_lines (w.rule_line ∷ w.box_line ∷ w.space_line ∷ w.order_line ∷ w.mirror_line ∷ more) ≡ with_space p.rule p.order (from_fixes 6 start more)
  five more = four (w.mirror_line ∷ more) ∙ ap (λ o. go_on (at_line 5 (of_form o)) (λ mirror. with_space p.rule p.order (from_fixes 6 (record { frame = w.frame; look = start.look; mirror = mirror; pins = [] }) more))) (mirror_front w.mirror_line w.number w.mirror)

-- and so are those that fix cells
fixes_passed : (n : ℕ) (s : SpaceSaid) (fs : List (List ℕ)) (last : SpaceSaid) → FixForms s fs last → (more : List (List ℕ)) → from_fixes n s (fs ++ more) ≡ from_fixes (n + length fs) last more
unfolding from_fixes
fixes_passed n s [] last e more = ap (λ (t : SpaceSaid). from_fixes n t more) e ∙ ap (λ k. from_fixes k last more) (omega arith)
fixes_passed n s (l ∷ fs) last (cell, pins, form, is, forms) more =
    ap (λ o. go_on (at_line n (go_on (of_form o) (λ c. fixed s (fixed_number s.pins c.on (numbered s.frame c))))) (λ next. from_fixes (n + 1) next (fs ++ more))) (fix_front l cell form)
    ∙ ap (λ r. go_on (at_line n (fixed s r)) (λ next. from_fixes (n + 1) next (fs ++ more))) is
    ∙ fixes_passed (n + 1) (holding s pins) fs last forms more
    ∙ ap (λ k. from_fixes k last more) (omega arith)

all_passed : (lines : List (List ℕ)) (p : Said) (w : Written lines p) (more : List (List ℕ)) → from_lines (lines ++ more) ≡ with_space p.rule p.order (from_fixes (1 + length lines) p.space more)
all_passed lines p w more =
    let long = ap length w.all in
    ap (λ ls. from_lines (ls ++ more)) w.all
    ∙ five lines p w (w.fix_lines ++ more)
    ∙ ap (with_space p.rule p.order) (fixes_passed 6 (start lines p w) w.fix_lines p.space w.fixes more)
    ∙ ap (λ k. with_space p.rule p.order (from_fixes k p.space more)) (omega (arith, long))

-- the first of some lines that fix cells
front_forms : (s : SpaceSaid) (fs gs : List (List ℕ)) (last : SpaceSaid) → FixForms s (fs ++ gs) last → (mid : SpaceSaid) × FixForms s fs mid
front_forms s [] gs last e = (s, refl)
front_forms s (l ∷ fs) gs last (cell, pins, form, is, more) =
    let rest = front_forms (holding s pins) fs gs last more in
    (rest.0, (cell, pins, form, is, rest.1))

-- a refusal at the first of some lines that fix cells is its own
own_fix : (n : ℕ) (s : SpaceSaid) (l : List ℕ) (ls : List (List ℕ)) (c : Cause) (v : Result SpaceSaid Cause) → fix_line s l ≡ v → from_fixes n s (l ∷ ls) ≡ Err (At n c) → fix_line s l ≡ Err c
unfolding from_fixes
own_fix n s l ls c (Ok t) is e =
    let stop = (judge_fixes (n + 1) t).stops ls (At n c) (sym (ap (λ r. go_on (at_line n r) (λ next. from_fixes (n + 1) next ls)) is) ∙ e) in
    absurd (omega (arith, stop.place))
own_fix n s l ls c (Err d) is e =
    let both : Err (At n d) ≡ Err (At n c) = sym (ap (λ r. go_on (at_line n r) (λ next. from_fixes (n + 1) next ls)) is) ∙ e in
    let same : At n d ≡ At n c = cc in
    is ∙ ap (λ (g : ProblemFault). Err g.cause) same

fix_at : (n : ℕ) (s : SpaceSaid) (l : List ℕ) (ls : List (List ℕ)) (c : Cause) → fix_line s l ≡ Err c → from_fixes n s (l ∷ ls) ≡ Err (At n c)
unfolding from_fixes
fix_at n s l ls c e = ap (λ r. go_on (at_line n r) (λ next. from_fixes (n + 1) next ls)) e

no_fixes : (n : ℕ) (s : SpaceSaid) (f : ProblemFault) → from_fixes n s [] ≡ Err f → ⊥
unfolding from_fixes
no_fixes n s f e = absurd (cc)

-- why a line that fixes a cell is refused, after the lines of a problem
fixed_by : (before : List (List ℕ)) (p : Said) (w : Written before p) (line : List ℕ) (cell : Fixing) → FixForm cell line → (v : Result (List Pin) FixFault) → fixed_number p.space.pins cell.on (numbered p.space.frame cell) ≡ v → (c : Cause) → fixed p.space v ≡ Err c → LineRefused before line c
fixed_by before p w line cell form (Ok pins) is c e = absurd (cc)
fixed_by before p w line cell form (Err fault) is c e =
    let same : Fix fault ≡ c = cc in
    subst (LineRefused before line) same (p, w, cell, form, fix_refused (start before p w) w.fix_lines p.space w.fixes refl cell fault is)

fix_line_at : (s : SpaceSaid) (line : List ℕ) (o : Option Fixing) → fix_in line ≡ o → fix_line s line ≡ go_on (of_form o) (λ c. fixed s (fixed_number s.pins c.on (numbered s.frame c)))
fix_line_at s line o e = ap (λ r. go_on (of_form r) (λ c. fixed s (fixed_number s.pins c.on (numbered s.frame c)))) e

fixed_at : (before : List (List ℕ)) (p : Said) (w : Written before p) (line : List ℕ) (c : Cause) (more : List (List ℕ)) → fix_line p.space line ≡ Err c → from_lines (before ++ (line ∷ more)) ≡ Err (At (1 + length before) c)
fixed_at before p w line c more e = all_passed before p w (line ∷ more) ∙ ap (with_space p.rule p.order) (fix_at (1 + length before) p.space line more c e)

-- the sixth line and those after it
module _ (a b c d e : List ℕ) (fs : List (List ℕ)) where
  abbrev six : List (List ℕ)
  six = a ∷ b ∷ c ∷ d ∷ e ∷ fs

  six_why : (p : Said) → Written six p → (after : List (List ℕ)) (cause : Cause) → from_lines (six ++ after) ≡ Err (At (1 + length six) cause) → Why six (first after) cause
  six_why p w [] cause is = absurd (no_fixes (1 + length six) p.space (At (1 + length six) cause) (untold (from_fixes (1 + length six) p.space []) (λ s. record { rule = p.rule; order = p.order; space = s }) (At (1 + length six) cause) (sym (all_passed six p w []) ∙ is)))
  six_why p w (line ∷ more) cause is =
      let n = 1 + length six in
      let bad = own_fix n p.space line more cause (fix_line p.space line) refl (untold (from_fixes n p.space (line ∷ more)) (λ s. record { rule = p.rule; order = p.order; space = s }) (At n cause) (sym (all_passed six p w (line ∷ more)) ∙ is)) in
      ⊎_elim
      (λ (none, form). subst (LineRefused six line) form (λ (cell, f). let some = fix_front line cell f in absurd (cc)))
      (λ (cell, some, refused). fixed_by six p w line cell (fix_only line cell some) (fixed_number p.space.pins cell.on (numbered p.space.frame cell)) refl cause refused)
      (turn_by (fix_in line) (λ cell. fixed p.space (fixed_number p.space.pins cell.on (numbered p.space.frame cell))) cause bad)

  why_six : (p : Said) → Written six p → (after : List (List ℕ)) (cause : Cause) → Why six (first after) cause → from_lines (six ++ after) ≡ Err (At (1 + length six) cause)
  why_six p w [] cause why = absurd (omega (arith, why.0))
  why_six p w (line ∷ more) TooLong why = absurd why
  why_six p w (line ∷ more) Form never = fixed_at six p w line Form more (fix_line_at p.space line None (none_of (fix_in line) (λ cell some. never (cell, fix_only line cell some))))
  why_six p w (line ∷ more) (Rule fault) (none, text, form, bad) = absurd (cc)
  why_six p w (line ∷ more) (Frame fault) (one, size, form, bad) = absurd (omega (arith, one))
  why_six p w (line ∷ more) (Fix fault) (q, v, cell, form, bad) =
      fixed_at six q v line (Fix fault) more (fix_line_at q.space line (Some cell) (fix_front line cell form) ∙ ap (fixed q.space) (refused_fix (start six q v) v.fix_lines q.space v.fixes refl cell fault bad))

  -- the lines before are those of a problem already
  six_front : (rest : List (List ℕ)) (p : Said) → Written (six ++ rest) p → (q : Said) × Written six q
  six_front rest p w =
      let all = w.all in
      let fixes : w.fix_lines ≡ fs ++ rest = cc in
      let mid = front_forms (start (six ++ rest) p w) fs rest p.space (subst (λ ls. FixForms (start (six ++ rest) p w) ls p.space) fixes w.fixes) in (
        record { rule = p.rule; order = p.order; space = mid.0 },
        record {
          rule_line = w.rule_line;
          box_line = w.box_line;
          space_line = w.space_line;
          order_line = w.order_line;
          mirror_line = w.mirror_line;
          fix_lines = fs;
          size = w.size;
          frame = w.frame;
          named = w.named;
          number = w.number;
          all = cc;
          rule = w.rule;
          box = w.box;
          limits = w.limits;
          space = w.space;
          order = w.order;
          mirror = w.mirror;
          fixes = mid.1;
        },
      )

-- what a plane's line is refused for is its form
look_form : {A B : Type 0} (r : Result A Cause) (tell : A → B) (c : Cause) → go_on r (λ a. Ok (tell a)) ≡ Err c → r ≡ Err c
look_form (Ok a) tell c e = absurd (cc)
look_form (Err d) tell c e = let same : d ≡ c = cc in ap (λ (x : Cause). Err x) same

-- every line
told : (before rest : List (List ℕ)) (p : Said) → Written (before ++ rest) p → (after : List (List ℕ)) (c : Cause) → Told before after c
told [] rest p w after c = in_turn 1 rule_line from_frame judge_frame [] after c refl refl rule_why why_rule
told (a ∷ []) rest p w after c =
    let all = w.all in
    let same : a ∷ after ≡ w.rule_line ∷ after = cc in
    in_turn 2 frame_line (from_space p.rule) (judge_space p.rule) (a ∷ []) after c refl (ap from_lines same ∙ one (a ∷ rest) p w after) (frame_why a) (why_frame a)
told (a ∷ b ∷ []) rest p w after c =
    let all = w.all in
    let same : a ∷ b ∷ after ≡ w.rule_line ∷ w.box_line ∷ after = cc in
    in_turn 3 (look_line w.frame) (from_order p.rule w.frame) (judge_order p.rule w.frame) (a ∷ b ∷ []) after c refl (ap from_lines same ∙ two (a ∷ b ∷ rest) p w after)
    (λ o d e. plain_why (a ∷ b ∷ []) space_in (omega arith) (λ line f. (f.0, space_front line f.0 f.1)) o d (look_form (formed space_in o) (λ named. look_of named w.frame) d e))
    (λ o d why. ap (λ r. go_on r (λ named. Ok (look_of named w.frame))) (why_plain (a ∷ b ∷ []) space_in (omega arith) (omega arith) (λ line named is. (named, space_only line named is)) o d why))
told (a ∷ b ∷ d ∷ []) rest p w after c =
    let all = w.all in
    let same : a ∷ b ∷ d ∷ after ≡ w.rule_line ∷ w.box_line ∷ w.space_line ∷ after = cc in
    in_turn 4 (formed order_in) (from_mirror p.rule w.frame (look_of w.named w.frame)) (judge_mirror p.rule w.frame (look_of w.named w.frame)) (a ∷ b ∷ d ∷ []) after c refl (ap from_lines same ∙ three (a ∷ b ∷ d ∷ rest) p w after)
    (plain_why (a ∷ b ∷ d ∷ []) order_in (omega arith) (λ line f. (f.0, order_front line f.0 f.1)))
    (why_plain (a ∷ b ∷ d ∷ []) order_in (omega arith) (omega arith) (λ line order is. (order, order_only line order is)))
told (a ∷ b ∷ d ∷ e ∷ []) rest p w after c =
    let all = w.all in
    let same : a ∷ b ∷ d ∷ e ∷ after ≡ w.rule_line ∷ w.box_line ∷ w.space_line ∷ w.order_line ∷ after = cc in
    let first_space : MirrorKind → SpaceSaid = λ m. record { frame = w.frame; look = look_of w.named w.frame; mirror = m; pins = [] } in
    in_turn 5 (formed mirror_in) (λ m ls. with_space p.rule p.order (from_fixes 6 (first_space m) ls)) (λ m. judge_all p.rule p.order (first_space m)) (a ∷ b ∷ d ∷ e ∷ []) after c refl (ap from_lines same ∙ four (a ∷ b ∷ d ∷ e ∷ rest) p w after)
    (plain_why (a ∷ b ∷ d ∷ e ∷ []) mirror_in (omega arith) (λ line f. (kind_of f.0, mirror_front line f.0 f.1)))
    (why_plain (a ∷ b ∷ d ∷ e ∷ []) mirror_in (omega arith) (omega arith) (λ line kind is. let m = mirror_only line kind is in (m.0, m.1)))
told (a ∷ b ∷ d ∷ e ∷ f ∷ fs) rest p w after c =
    let q = six_front a b d e f fs rest p w in
    (six_why a b d e f fs q.0 q.1 after c, why_six a b d e f fs q.0 q.1 after c)

-- a refusal, with what comes after the lines before it
refused_with : (ls before after : List (List ℕ)) (f : ProblemFault) → from_lines ls ≡ Err f → ls ≡ before ++ after → f.line ≡ 1 + length before → ((rest : List (List ℕ)) × (p : Said) × Written (before ++ rest) p) → Refused ls f
refused_with ls before after f e all place begins = record {
  before = before;
  after = after;
  all = all;
  place = place;
  begins = begins;
  why = (told before begins.0 begins.1 begins.2 after f.cause).0 (ap from_lines (sym all) ∙ e ∙ ap (λ k. Err (At k f.cause)) place);
}

pub causes_told : (ls : List (List ℕ)) (f : ProblemFault) → from_lines ls ≡ Err f → Refused ls f
causes_told ls f e =
    let stop = judge_lines.stops ls f e in
    let begins : (rest : List (List ℕ)) × (p : Said) × Written (stop.before ++ rest) p = (stop.begins.0, stop.begins.1, reads_only (stop.before ++ stop.begins.0) stop.begins.1 stop.begins.2) in
    ⊎_elim
    (λ missing. refused_with ls stop.before [] f e (missing.0 ∙ sym (append-nil stop.before)) stop.place begins)
    (λ (line, after, is, none). refused_with ls stop.before (line ∷ after) f e is stop.place begins)
    stop.at_fault

pub causes_only : (ls : List (List ℕ)) (f : ProblemFault) → Refused ls f → from_lines ls ≡ Err f
causes_only ls f r =
    ap from_lines r.all ∙ (told r.before r.begins.0 r.begins.1 r.begins.2 r.after f.cause).1 r.why ∙ ap (λ k. Err (At k f.cause)) (sym r.place)
