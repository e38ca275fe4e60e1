-- Whole problems: which lines they are, and the first line at fault.
use Rattle.std.proofs.Common.{◌≡◌, ℕ, ◌+◌, List, [], ◌∷◌, ◌++◌, Some, None, Ok, Err, Option, Result, refl, ap, subst, ◌∙◌}
use Rattle.std.specs.Prelude.{codes}
use Rattle.choices.specs.declared.any_order.AnyOrder.{AnyOrder}
use Rattle.frames.specs.Frames.{Shape, built}
use Rattle.frames.specs.declared.fault.FrameFault.{FrameFault}
use Rattle.planes.specs.Pins.{fixed_number}
use Rattle.planes.specs.Layers.{kind_of}
use Rattle.planes.specs.declared.fault.FixFault.{FixFault}
use Rattle.planes.specs.declared.mirror.MirrorKind.{MirrorKind}
use Rattle.planes.specs.declared.pins.Pin.{Pin}
use Rattle.rules.specs.Forms.{Sets, parsed, written}
use Rattle.rules.specs.declared.fault.RuleFault.{RuleFault}
use Rattle.rules.proofs.Forms.{accepted, even_read, parsed_written}
use Rattle.words.specs.Forms.{KeyAndValue}
use Rattle.words.specs.Words.{value_after}
use Rattle.words.proofs.Signed.{value_only, value_read}
use Rattle.problem.specs.Faults.{at_line}
use Rattle.problem.specs.Forms.{fix_in, mirror_in, order_in, size_in, space_in}
use Rattle.problem.specs.Lines.{first, others}
use Rattle.problem.specs.Reading.{Look, Said, SpaceSaid, fix_line, fixed, formed, frame_line, framed, from_fixes, from_frame, from_lines, from_mirror, from_order, from_space, go_on, look_line, look_of, numbered, of_form, rule_line, ruled, with_space}
use Rattle.problem.specs.Written.{BoxForm, FixForms, MirrorForm, RuleForm, Written, holding, order_name, plane_name}
use Rattle.problem.specs.declared.fault.Cause.{Cause}
use Rattle.problem.specs.declared.fault.ProblemFault.{ProblemFault}
use Rattle.problem.specs.declared.forms.Named.{Named}
use Rattle.problem.specs.declared.forms.Size.{Size}
use Rattle.problem.proofs.Statements.{fix_front, fix_only, mirror_front, mirror_only, order_front, order_only, size_front, size_only, space_front, space_only}

-- what went on went well
go_is : {A B E : Type 0} (r : Result A E) (next : A → Result B E) (b : B) → go_on r next ≡ Ok b → (a : A) × (r ≡ Ok a) × (next a ≡ Ok b)
go_is (Ok a) next b e = (a, refl, e)
go_is (Err c) next b e = absurd (cc)

line_is : {A : Type 0} (n : ℕ) (r : Result A Cause) (a : A) → at_line n r ≡ Ok a → r ≡ Ok a
line_is n (Ok x) a e = cc
line_is n (Err c) a e = absurd (cc)

form_is : {A : Type 0} (o : Option A) (a : A) → of_form o ≡ Ok a → o ≡ Some a
form_is None a e = absurd (cc)
form_is (Some x) a e = cc

-- a line that is read is there
line_of : {A : Type 0} (read : List ℕ → Option A) (o : Option (List ℕ)) (a : A) → formed read o ≡ Ok a → (line : List ℕ) × (o ≡ Some line) × (read line ≡ Some a)
line_of read None a e = absurd (cc)
line_of read (Some line) a e = (line, refl, form_is (read line) a e)

head_is : (ls : List (List ℕ)) (l : List ℕ) → first ls ≡ Some l → ls ≡ l ∷ others ls
head_is [] l e = absurd (cc)
head_is (x ∷ xs) l e = let same : x ≡ l = cc in ap (λ y. y ∷ xs) same

ruled_is : (r : Result Sets RuleFault) (s : Sets) → ruled r ≡ Ok s → r ≡ Ok s
ruled_is (Ok x) s e = cc
ruled_is (Err f) s e = absurd (cc)

framed_is : (r : Result Shape FrameFault) (s : Shape) → framed r ≡ Ok s → r ≡ Ok s
framed_is (Ok x) s e = cc
framed_is (Err f) s e = absurd (cc)

fixed_is : (s : SpaceSaid) (r : Result (List Pin) FixFault) (t : SpaceSaid) → fixed s r ≡ Ok t → (pins : List Pin) × (r ≡ Ok pins) × (holding s pins ≡ t)
fixed_is s (Ok pins) t e = (pins, refl, cc)
fixed_is s (Err f) t e = absurd (cc)

-- rule lines
pub rule_front : (line : List ℕ) (s : Sets) → RuleForm s line → rule_line (Some line) ≡ Ok s
rule_front line s f =
    ap (λ o. go_on (of_form o) (λ text. ruled (parsed text))) (value_read (codes "rule") (written s.births s.survivals) line f.whole)
    ∙ ap ruled (parsed_written s.births s.survivals f.births f.survivals ∙ even_read s.births s.survivals f.quiet)

pub rule_only : (o : Option (List ℕ)) (s : Sets) → rule_line o ≡ Ok s → (line : List ℕ) × (o ≡ Some line) × RuleForm s line
rule_only o s e =
    let text = go_is (formed (value_after (codes "rule")) o) (λ t. ruled (parsed t)) s e in
    let line = line_of (value_after (codes "rule")) o text.0 text.1 in
    let is = accepted text.0 s.births s.survivals (ruled_is (parsed text.0) s text.2) in (
      line.0,
      line.1,
      record {
        births = is.0;
        survivals = is.1;
        quiet = is.2;
        whole = let value = value_only (codes "rule") text.0 line.0 line.2 in (value.0, value.1, value.2 ∙ ap (λ v. codes "rule" ++ (value.0 ∷ v)) is.3);
      },
    )

-- box lines
pub frame_front : (line : List ℕ) (size : Size) (f : Shape) → BoxForm size line → built size.width size.height size.period size.dx size.dy ≡ Ok f → frame_line (Some line) ≡ Ok f
frame_front line size f form is =
    ap (λ o. go_on (of_form o) (λ (s : Size). framed (built s.width s.height s.period s.dx s.dy))) (size_front line size form) ∙ ap framed is

pub frame_only : (o : Option (List ℕ)) (f : Shape) → frame_line o ≡ Ok f → (line : List ℕ) × (o ≡ Some line) × (size : Size) × BoxForm size line × (built size.width size.height size.period size.dx size.dy ≡ Ok f)
frame_only o f e =
    let size = go_is (formed size_in o) (λ (s : Size). framed (built s.width s.height s.period s.dx s.dy)) f e in
    let s = size.0 in
    let line = line_of size_in o s size.1 in
    (line.0, line.1, s, size_only line.0 s line.2, framed_is (built s.width s.height s.period s.dx s.dy) f size.2)

-- fix lines
pub fixes_front : (n : ℕ) (s : SpaceSaid) (ls : List (List ℕ)) (last : SpaceSaid) → FixForms s ls last → from_fixes n s ls ≡ Ok last
unfolding from_fixes
fixes_front n s [] last e = ap (λ (x : SpaceSaid). Ok x) e
fixes_front n s (l ∷ ls) last (cell, pins, form, is, more) =
    ap (λ o. go_on (at_line n (go_on (of_form o) (λ c. fixed s (fixed_number s.pins c.on (numbered s.frame c))))) (λ next. from_fixes (n + 1) next ls)) (fix_front l cell form)
    ∙ ap (λ r. go_on (at_line n (fixed s r)) (λ next. from_fixes (n + 1) next ls)) is
    ∙ fixes_front (n + 1) (holding s pins) ls last more

pub fixes_only : (n : ℕ) (s : SpaceSaid) (ls : List (List ℕ)) (last : SpaceSaid) → from_fixes n s ls ≡ Ok last → FixForms s ls last
unfolding from_fixes
fixes_only n s [] last e = cc
fixes_only n s (l ∷ ls) last e =
    let step = go_is (at_line n (fix_line s l)) (λ next. from_fixes (n + 1) next ls) last e in
    let cell = go_is (of_form (fix_in l)) (λ c. fixed s (fixed_number s.pins c.on (numbered s.frame c))) step.0 (line_is n (fix_line s l) step.0 step.1) in
    let pins = fixed_is s (fixed_number s.pins (cell.0).on (numbered s.frame cell.0)) step.0 cell.2 in
    (cell.0, pins.0, fix_only l cell.0 (form_is (fix_in l) cell.0 cell.1), pins.1, fixes_only (n + 1) (holding s pins.0) ls last (ap (λ t. from_fixes (n + 1) t ls) pins.2 ∙ step.2))

-- a line that is read in turn, and those after it
turn_is : {X : Type 0} (n : ℕ) (read : Option (List ℕ) → Result X Cause) (next : X → List (List ℕ) → Result Said ProblemFault) (ls : List (List ℕ)) (p : Said) → go_on (at_line n (read (first ls))) (λ x. next x (others ls)) ≡ Ok p → (x : X) × (read (first ls) ≡ Ok x) × (next x (others ls) ≡ Ok p)
turn_is n read next ls p e =
    let is = go_is (at_line n (read (first ls))) (λ x. next x (others ls)) p e in
    (is.0, line_is n (read (first ls)) is.0 is.1, is.2)

-- the lines from `mirror` on
mirror_rest : (rule : Sets) (frame : Shape) (look : Look) (order : AnyOrder) (ls : List (List ℕ)) (p : Said) → from_mirror rule frame look order ls ≡ Ok p → (line : List ℕ) × (number : ℕ) × (space : SpaceSaid) × (ls ≡ line ∷ others ls) × MirrorForm number line × FixForms (record { frame = frame; look = look; mirror = kind_of number; pins = [] }) (others ls) space × (record { rule = rule; order = order; space = space } ≡ p)
mirror_rest rule frame look order ls p e =
    let start : MirrorKind → SpaceSaid = λ m. record { frame = frame; look = look; mirror = m; pins = [] } in
    let turn = turn_is 5 (formed mirror_in) (λ m rest. with_space rule order (from_fixes 6 (start m) rest)) ls p e in
    let line = line_of mirror_in (first ls) turn.0 turn.1 in
    let kind = mirror_only line.0 turn.0 line.2 in
    let space = go_is (from_fixes 6 (start turn.0) (others ls)) (λ s. Ok (record { rule = rule; order = order; space = s })) p turn.2 in
    let forms = fixes_only 6 (start turn.0) (others ls) space.0 space.1 in
    let whole : Said = record { rule = rule; order = order; space = space.0 } in
    let told : Ok whole ≡ Ok p = space.2 in
    (line.0, kind.0, space.0, head_is ls line.0 line.1, kind.1, subst (λ m. FixForms (start m) (others ls) space.0) kind.2 forms, cc)

-- the lines from `space` on
space_rest : (rule : Sets) (frame : Shape) (ls : List (List ℕ)) (p : Said) → from_space rule frame ls ≡ Ok p → (line : List ℕ) × (named : Named) × (next : List ℕ) × (order : AnyOrder) × (ls ≡ line ∷ next ∷ others (others ls)) × KeyAndValue (codes "space") (plane_name named) line × KeyAndValue (codes "order") (order_name order) next × (from_mirror rule frame (look_of named frame) order (others (others ls)) ≡ Ok p)
space_rest rule frame ls p e =
    let turn = turn_is 3 (look_line frame) (from_order rule frame) ls p e in
    let plane = go_is (formed space_in (first ls)) (λ named. Ok (look_of named frame)) turn.0 turn.1 in
    let line = line_of space_in (first ls) plane.0 plane.1 in
    let told : Ok (look_of plane.0 frame) ≡ Ok turn.0 = plane.2 in
    let same : look_of plane.0 frame ≡ turn.0 = cc in
    let more = turn_is 4 (formed order_in) (from_mirror rule frame turn.0) (others ls) p turn.2 in
    let after = line_of order_in (first (others ls)) more.0 more.1 in
    (line.0, plane.0, after.0, more.0, head_is ls line.0 line.1 ∙ ap (λ l. line.0 ∷ l) (head_is (others ls) after.0 after.1), space_only line.0 plane.0 line.2, order_only after.0 more.0 after.2, ap (λ look. from_mirror rule frame look more.0 (others (others ls))) same ∙ more.2)

-- lines that are read are written forms, and say what is written
pub reads_only : (ls : List (List ℕ)) (p : Said) → from_lines ls ≡ Ok p → Written ls p
reads_only ls p e =
    let rule = turn_is 1 rule_line from_frame ls p e in
    let first_line = rule_only (first ls) rule.0 rule.1 in
    let frame = turn_is 2 frame_line (from_space rule.0) (others ls) p rule.2 in
    let box = frame_only (first (others ls)) frame.0 frame.1 in
    let space = space_rest rule.0 frame.0 (others (others ls)) p frame.2 in
    let mirror = mirror_rest rule.0 frame.0 (look_of space.1 frame.0) space.3 (others (others (others (others ls)))) p space.7 in
    subst (Written ls) mirror.6 (record {
      rule_line = first_line.0;
      box_line = box.0;
      space_line = space.0;
      order_line = space.2;
      mirror_line = mirror.0;
      fix_lines = others (others (others (others (others ls))));
      size = box.2;
      frame = frame.0;
      named = space.1;
      number = mirror.1;
      all = head_is ls first_line.0 first_line.1 ∙ ap (λ l. first_line.0 ∷ l) (head_is (others ls) box.0 box.1 ∙ ap (λ l. box.0 ∷ l) (space.4 ∙ ap (λ l. space.0 ∷ space.2 ∷ l) mirror.3));
      rule = first_line.2;
      box = box.3;
      limits = box.4;
      space = space.5;
      order = space.6;
      mirror = mirror.4;
      fixes = mirror.5;
    })

-- and lines that are written so are read
pub reads_every : (ls : List (List ℕ)) (p : Said) → Written ls p → from_lines ls ≡ Ok p
reads_every ls p w =
    let start : SpaceSaid = record { frame = w.frame; look = look_of w.named w.frame; mirror = kind_of w.number; pins = [] } in
    ap from_lines w.all
    ∙ ap (λ r. go_on (at_line 1 r) (λ rule. from_frame rule (w.box_line ∷ w.space_line ∷ w.order_line ∷ w.mirror_line ∷ w.fix_lines))) (rule_front w.rule_line p.rule w.rule)
    ∙ ap (λ r. go_on (at_line 2 r) (λ frame. from_space p.rule frame (w.space_line ∷ w.order_line ∷ w.mirror_line ∷ w.fix_lines))) (frame_front w.box_line w.size w.frame w.box w.limits)
    ∙ ap (λ o. go_on (at_line 3 (go_on (of_form o) (λ named. Ok (look_of named w.frame)))) (λ look. from_order p.rule w.frame look (w.order_line ∷ w.mirror_line ∷ w.fix_lines))) (space_front w.space_line w.named w.space)
    ∙ ap (λ o. go_on (at_line 4 (of_form o)) (λ order. from_mirror p.rule w.frame (look_of w.named w.frame) order (w.mirror_line ∷ w.fix_lines))) (order_front w.order_line p.order w.order)
    ∙ ap (λ o. go_on (at_line 5 (of_form o)) (λ mirror. with_space p.rule p.order (from_fixes 6 (record { frame = w.frame; look = look_of w.named w.frame; mirror = mirror; pins = [] }) w.fix_lines))) (mirror_front w.mirror_line w.number w.mirror)
    ∙ ap (with_space p.rule p.order) (fixes_front 6 start w.fix_lines p.space w.fixes)
