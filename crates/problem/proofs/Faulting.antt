-- The first line at fault: some problem begins with the lines before it, and none with it.
use Rattle.std.proofs.Common.{◌≡◌, ℕ, ◌+◌, List, [], ◌∷◌, ◌++◌, Ok, Err, Result, pos, decimal, sym, refl, ap, inl, inr, ◌∙◌, ⊎_elim, arith}
use Rattle.std.specs.Prelude.{codes}
use Rattle.choices.specs.declared.any_order.AnyOrder.{AnyOrder}
use Rattle.choices.specs.declared.any_order.AnyOrder.TheVariants.{Rows}
use Rattle.frames.specs.Frames.{Shape}
use Rattle.planes.specs.Layers.{kind_of}
use Rattle.planes.specs.declared.mirror.MirrorKind.{MirrorKind}
use Rattle.rules.specs.Forms.{Sets, written}
use Rattle.problem.specs.Faults.{at_line}
use Rattle.problem.specs.Forms.{mirror_in, order_in}
use Rattle.problem.specs.Laws.{FirstFault}
use Rattle.problem.specs.Reading.{Look, SpaceSaid, fix_line, formed, frame_line, from_fixes, from_frame, from_lines, from_mirror, from_order, from_space, go_on, look_line, look_of, of_form, rule_line, with_space}
use Rattle.problem.specs.Written.{BoxForm, MirrorForm, RuleForm, order_name, plane_name}
use Rattle.problem.specs.declared.fault.Cause.{Cause}
use Rattle.problem.specs.declared.fault.ProblemFault.{ProblemFault}
use Rattle.problem.specs.declared.forms.Named.TheVariants.{Plain}
use Rattle.problem.specs.declared.forms.Size.{Size}
use Rattle.problem.proofs.Statements.{mirror_front, order_front, space_front}
use Rattle.problem.proofs.Stops.{Judges, Stops, later, told, turned}
use Rattle.problem.proofs.Whole.{frame_front, reads_every, reads_only, rule_front}

-- lines that fix cells
fixes_at : (n : ℕ) (s : SpaceSaid) (l : List ℕ) (ls : List (List ℕ)) (f : ProblemFault) → ((t : SpaceSaid) (g : ProblemFault) → from_fixes (n + 1) t ls ≡ Err g → Stops (n + 1) (from_fixes (n + 1) t) ls g) → (v : Result SpaceSaid Cause) → fix_line s l ≡ v → from_fixes n s (l ∷ ls) ≡ Err f → Stops n (from_fixes n s) (l ∷ ls) f
unfolding from_fixes
fixes_at n s l ls f more (Ok t) is e =
    let same = λ (rest : List (List ℕ)). ap (λ r. go_on (at_line n r) (λ next. from_fixes (n + 1) next rest)) is in
    later n (from_fixes (n + 1) t) (from_fixes n s) l ls f same (more t f (sym (same ls) ∙ e))
fixes_at n s l ls f more (Err cause) is e =
    let refused = sym (ap (λ r. go_on (at_line n r) (λ next. from_fixes (n + 1) next ls)) is) ∙ e in
    let wanted : ProblemFault = record { line = n; cause = cause } in
    let same : wanted ≡ f = cc in
    record {
      before = [];
      place = omega (arith, ap (λ (g : ProblemFault). g.line) same);
      begins = ([], s, refl);
      at_fault = inr (l, ls, refl, λ rest. ap (λ r. go_on (at_line n r) (λ next. from_fixes (n + 1) next rest)) is ∙ ap (λ (g : ProblemFault). Err g) same);
    }

fixes_stop : (n : ℕ) (s : SpaceSaid) (ls : List (List ℕ)) (f : ProblemFault) → from_fixes n s ls ≡ Err f → Stops n (from_fixes n s) ls f
unfolding from_fixes
fixes_stop n s [] f e = absurd (cc)
fixes_stop n s (l ∷ ls) f e = fixes_at n s l ls f (λ t g d. fixes_stop (n + 1) t ls g d) (fix_line s l) refl e

pub judge_fixes : (n : ℕ) (s : SpaceSaid) → Judges n (from_fixes n s)
unfolding from_fixes
judge_fixes n s = record { goes = ([], s, refl); stops = fixes_stop n s }

-- lines that can follow
any_mirror : List ℕ
any_mirror = codes "mirror" ++ (32 ∷ (decimal 0 ++ []))

any_order : List ℕ
any_order = codes "order" ++ (32 ∷ order_name Rows)

any_space : List ℕ
any_space = codes "space" ++ (32 ∷ plane_name Plain)

any_size : Size
any_size = record { width = 1; height = 1; period = 1; dx = pos 0; dy = pos 0 }

any_box : List ℕ
any_box = codes "box" ++ (32 ∷ (decimal 1 ++ (32 ∷ (decimal 1 ++ (32 ∷ (decimal 1 ++ (32 ∷ (decimal 0 ++ (32 ∷ (decimal 0 ++ []))))))))))

any_rule : List ℕ
any_rule = codes "rule" ++ (32 ∷ written 0 0)

mirror_form : MirrorForm 0 any_mirror
unfolding any_mirror
mirror_form = record {
  word = decimal 0;
  most = omega arith;
  is_number = (omega arith, refl);
  whole = (32 ∷ (decimal 0 ++ []), refl, (32, [], refl, refl, refl));
}

box_form : BoxForm any_size any_box
unfolding any_box any_size
box_form = record {
  width = decimal 1;
  height = decimal 1;
  period = decimal 1;
  dx = decimal 0;
  dy = decimal 0;
  is_width = (omega arith, refl);
  is_height = (omega arith, refl);
  is_period = (omega arith, refl);
  is_dx = (omega arith, refl);
  is_dy = (omega arith, refl);
  whole = (32 ∷ (decimal 1 ++ (32 ∷ (decimal 1 ++ (32 ∷ (decimal 1 ++ (32 ∷ (decimal 0 ++ (32 ∷ (decimal 0 ++ []))))))))), refl, (32, 32 ∷ (decimal 1 ++ (32 ∷ (decimal 1 ++ (32 ∷ (decimal 0 ++ (32 ∷ (decimal 0 ++ []))))))), refl, refl, (32, 32 ∷ (decimal 1 ++ (32 ∷ (decimal 0 ++ (32 ∷ (decimal 0 ++ []))))), refl, refl, (32, 32 ∷ (decimal 0 ++ (32 ∷ (decimal 0 ++ []))), refl, refl, (32, 32 ∷ (decimal 0 ++ []), refl, refl, (32, [], refl, refl, refl))))));
}

rule_form : RuleForm (record { births = 0; survivals = 0 }) any_rule
unfolding any_rule
rule_form = record { births = omega arith; survivals = omega arith; quiet = refl; whole = (32, refl, refl) }

-- the lines that fix cells, told with a rule and an order
pub judge_all : (rule : Sets) (order : AnyOrder) (s : SpaceSaid) → Judges 6 (λ ls. with_space rule order (from_fixes 6 s ls))
judge_all rule order s = told 6 (from_fixes 6 s) (λ t. record { rule = rule; order = order; space = t }) (judge_fixes 6 s)

-- the five lines, from the last to the first
pub judge_mirror : (rule : Sets) (frame : Shape) (look : Look) (order : AnyOrder) → Judges 5 (from_mirror rule frame look order)
judge_mirror rule frame look order =
    let start : MirrorKind → SpaceSaid = λ m. record { frame = frame; look = look; mirror = m; pins = [] } in
    turned 5 (formed mirror_in) (λ m ls. with_space rule order (from_fixes 6 (start m) ls)) any_mirror (kind_of 0) refl (ap of_form (mirror_front any_mirror 0 mirror_form)) (λ m. judge_all rule order (start m))

pub judge_order : (rule : Sets) (frame : Shape) (look : Look) → Judges 4 (from_order rule frame look)
unfolding any_order
judge_order rule frame look = turned 4 (formed order_in) (from_mirror rule frame look) any_order Rows refl (ap of_form (order_front any_order Rows (32, refl, refl))) (judge_mirror rule frame look)

pub judge_space : (rule : Sets) (frame : Shape) → Judges 3 (from_space rule frame)
unfolding any_space
judge_space rule frame = turned 3 (look_line frame) (from_order rule frame) any_space (look_of Plain frame) refl (ap (λ o. go_on (of_form o) (λ named. Ok (look_of named frame))) (space_front any_space Plain (32, refl, refl))) (judge_order rule frame)

pub judge_frame : (rule : Sets) → Judges 2 (from_frame rule)
unfolding any_size
judge_frame rule = turned 2 frame_line (from_space rule) any_box (record { width = 1; height = 1; period = 1; dx = pos 0; dy = pos 0 }) refl (frame_front any_box any_size (record { width = 1; height = 1; period = 1; dx = pos 0; dy = pos 0 }) box_form refl) (judge_space rule)

pub judge_lines : Judges 1 from_lines
judge_lines = turned 1 rule_line from_frame any_rule (record { births = 0; survivals = 0 }) refl (rule_front any_rule (record { births = 0; survivals = 0 }) rule_form) judge_frame

pub faults_first : (ls : List (List ℕ)) (f : ProblemFault) → from_lines ls ≡ Err f → FirstFault ls f
faults_first ls f e =
    let stop = judge_lines.stops ls f e in
    record {
      before = stop.before;
      place = stop.place;
      begins = (stop.begins.0, stop.begins.1, reads_only (stop.before ++ stop.begins.0) stop.begins.1 stop.begins.2);
      stops = ⊎_elim
          (λ missing. inl missing)
          (λ (line, after, is, none). inr (line, after, is, λ rest p w. let good = reads_every (stop.before ++ (line ∷ rest)) p w in let bad = none rest in absurd (cc)))
          stop.at_fault;
    }
