-- Which problem a text is, or which line is at fault and why.
use Rattle.std.specs.Prelude.{ℕ, ◌+◌, ◌*◌, cond, ◌&&◌, List, [], ◌∷◌, length, Some, None, Ok, Err, Option, Result, codes, ℤ, nat_le, nat_lt}
use Rattle.choices.specs.declared.any_order.AnyOrder.{AnyOrder}
use Rattle.frames.specs.Frames.{Shape, shape_of, built}
use Rattle.frames.specs.declared.fault.FrameFault.{FrameFault}
use Rattle.frames.specs.declared.frame.Frame.{Frame as FrameOf}
use Rattle.planes.specs.Edges.{edge_place}
use Rattle.planes.specs.Looks.{across, sheet, within, wrap}
use Rattle.planes.specs.Meaning.{Meaning}
use Rattle.planes.specs.Pins.{fixed_number}
use Rattle.planes.specs.declared.axis.Edge.{Edge}
use Rattle.planes.specs.declared.fault.FixFault.{FixFault}
use Rattle.planes.specs.declared.layer.Layer.{Layer}
use Rattle.planes.specs.declared.mirror.MirrorKind.{MirrorKind}
use Rattle.planes.specs.declared.pins.Pin.{Pin}
use Rattle.planes.specs.declared.pins.Pins.{Pins}
use Rattle.planes.specs.declared.place.Place.{Place}
use Rattle.planes.specs.declared.sheet.Sheet.{Sheet}
use Rattle.rules.specs.Forms.{Sets, sets_of, parsed}
use Rattle.rules.specs.declared.fault.RuleFault.{RuleFault}
use Rattle.rules.specs.declared.rule.Rule.{Rule as RuleOf}
use Rattle.words.specs.Words.{value_after}
use Rattle.problem.specs.Faults.{at_line}
use Rattle.problem.specs.Forms.{size_in, space_in, order_in, mirror_in, fix_in}
use Rattle.problem.specs.Lines.{lines_in, first, others}
use Rattle.problem.specs.declared.fault.Cause.{Cause}
use Rattle.problem.specs.declared.fault.Cause.TheVariants.{TooLong, Form, Frame, Rule, Fix}
use Rattle.problem.specs.declared.fault.ProblemFault.{ProblemFault}
use Rattle.problem.specs.declared.forms.Fixing.{Fixing}
use Rattle.problem.specs.declared.forms.Named.{Named}
use Rattle.problem.specs.declared.forms.Named.TheVariants.{Plain, Torus, Cylinder}
use Rattle.problem.specs.declared.problem.Problem.{Problem}

-- where looks fall: a place of the box or nothing
abbrev pub Look : Type 0
Look = ℤ → ℤ → Option Place

-- a space: its frame, where its looks fall, the mirror, and over it the cells that are fixed
pub record SpaceSaid : Type 0 where
  pub frame : Shape
  pub look : Look
  pub mirror : MirrorKind
  pub pins : List Pin

-- a problem: rule, order and space
pub record Said : Type 0 where
  pub rule : Sets
  pub order : AnyOrder
  pub space : SpaceSaid

-- what a plane means that is chosen at run time
abbrev pub meant : Sheet Edge Edge → Meaning
meant s = sheet s.frame (edge_place s.columns) (edge_place s.rows)

-- what the spaces of the program say
abbrev pub space_said : Layer (Layer (Sheet Edge Edge) MirrorKind) Pins → SpaceSaid
space_said s = record {
  frame = shape_of s.below.below.frame;
  look = (meant s.below.below).look;
  mirror = s.below.own;
  pins = s.own.held.items;
}

-- what an answer says of the problem that it holds
abbrev pub said : Problem → Said
said p = record { rule = sets_of p.rule; order = p.order; space = space_said p.space }

abbrev pub shown : Result Problem ProblemFault → Result Said ProblemFault
shown (Ok p) = Ok (said p)
shown (Err fault) = Err fault

-- what an answer says of the rule that it holds
abbrev pub rule_shown : Result RuleOf Cause → Result Sets Cause
rule_shown (Ok rule) = Ok (sets_of rule)
rule_shown (Err cause) = Err cause

-- what an answer says of the frame that it holds
abbrev pub frame_shown : Result FrameOf Cause → Result Shape Cause
frame_shown (Ok frame) = Ok (shape_of frame)
frame_shown (Err cause) = Err cause

-- where the looks of the plane fall that an answer holds
abbrev pub look_shown : Result (Sheet Edge Edge) Cause → Result Look Cause
look_shown (Ok s) = Ok (meant s).look
look_shown (Err cause) = Err cause

-- an answer, with what the space then says
abbrev pub fixed_as : {E : Type 0} → SpaceSaid → Result (Unit {0}) E → Result SpaceSaid E
fixed_as s (Ok u) = Ok s
fixed_as s (Err e) = Err e

-- one part after another, up to the first refusal
abbrev pub go_on : {A B E : Type 0} → Result A E → (A → Result B E) → Result B E
go_on (Ok a) next = next a
go_on (Err e) next = Err e

-- what a line says, where it is of its form
abbrev pub of_form : {A : Type 0} → Option A → Result A Cause
of_form None = Err Form
of_form (Some a) = Ok a

-- the same, where the line is there
abbrev pub formed : {A : Type 0} → (List ℕ → Option A) → Option (List ℕ) → Result A Cause
formed read None = Err Form
formed read (Some line) = of_form (read line)

-- a refusal of a rule is carried whole
abbrev pub ruled : Result Sets RuleFault → Result Sets Cause
ruled (Ok sets) = Ok sets
ruled (Err fault) = Err (Rule fault)

-- a refusal of a frame is carried whole
abbrev pub framed : Result Shape FrameFault → Result Shape Cause
framed (Ok shape) = Ok shape
framed (Err fault) = Err (Frame fault)

-- a refusal to fix a cell is carried whole
abbrev pub fixed : SpaceSaid → Result (List Pin) FixFault → Result SpaceSaid Cause
fixed s (Ok pins) = Ok (record { frame = s.frame; look = s.look; mirror = s.mirror; pins = pins })
fixed s (Err fault) = Err (Fix fault)

-- rule R
abbrev pub rule_line : Option (List ℕ) → Result Sets Cause
rule_line line = go_on (formed (value_after (codes "rule")) line) (λ text. ruled (parsed text))

-- box W H P DX DY
abbrev pub frame_line : Option (List ℕ) → Result Shape Cause
frame_line line = go_on (formed size_in line) (λ s. framed (built s.width s.height s.period s.dx s.dy))

-- where looks fall in a plane over a box
abbrev pub look_of : Named → Shape → Look
look_of Plain f = λ x y. across (within f.width x) (within f.height y)
look_of Torus f = λ x y. Some (record { x = wrap f.width x; y = wrap f.height y })
look_of Cylinder f = λ x y. across (Some (wrap f.width x)) (within f.height y)

-- space S
abbrev pub look_line : Shape → Option (List ℕ) → Result Look Cause
look_line frame line = go_on (formed space_in line) (λ named. Ok (look_of named frame))

-- the number of a cell, where the box has it
abbrev pub numbered : Shape → Fixing → Option ℕ
numbered f c = cond (nat_lt c.x f.width && nat_lt c.y f.height && nat_lt c.t f.period) (Some ((c.t * f.height + c.y) * f.width + c.x)) None

-- fix X Y T V
abbrev pub fix_line : SpaceSaid → List ℕ → Result SpaceSaid Cause
fix_line s line = go_on (of_form (fix_in line)) (λ c. fixed s (fixed_number s.pins c.on (numbered s.frame c)))

-- lines that fix cells, the first of them at a line number
unfoldable pub from_fixes : ℕ → SpaceSaid → List (List ℕ) → Result SpaceSaid ProblemFault
from_fixes n s [] = Ok s
from_fixes n s (l ∷ ls) = go_on (at_line n (fix_line s l)) (λ next. from_fixes (n + 1) next ls)

-- the problem whose rule and order are these
abbrev pub with_space : Sets → AnyOrder → Result SpaceSaid ProblemFault → Result Said ProblemFault
with_space rule order space = go_on space (λ s. Ok (record { rule = rule; order = order; space = s }))

-- the lines from `mirror` on
abbrev pub from_mirror : Sets → Shape → Look → AnyOrder → List (List ℕ) → Result Said ProblemFault
from_mirror rule frame look order ls =
    go_on (at_line 5 (formed mirror_in (first ls))) (λ mirror.
    with_space rule order (from_fixes 6 (record { frame = frame; look = look; mirror = mirror; pins = [] }) (others ls)))

-- the lines from `order` on
abbrev pub from_order : Sets → Shape → Look → List (List ℕ) → Result Said ProblemFault
from_order rule frame look ls = go_on (at_line 4 (formed order_in (first ls))) (λ order. from_mirror rule frame look order (others ls))

-- the lines from `space` on
abbrev pub from_space : Sets → Shape → List (List ℕ) → Result Said ProblemFault
from_space rule frame ls = go_on (at_line 3 (look_line frame (first ls))) (λ look. from_order rule frame look (others ls))

-- the lines from `box` on
abbrev pub from_frame : Sets → List (List ℕ) → Result Said ProblemFault
from_frame rule ls = go_on (at_line 2 (frame_line (first ls))) (λ frame. from_space rule frame (others ls))

-- all lines, judged in turn
abbrev pub from_lines : List (List ℕ) → Result Said ProblemFault
from_lines ls = go_on (at_line 1 (rule_line (first ls))) (λ rule. from_frame rule (others ls))

-- what the first five lines gave, and the lines after them
abbrev pub head_shown : Result Problem ProblemFault → List (List ℕ) → Result Said ProblemFault
head_shown (Ok p) ls = with_space (sets_of p.rule) p.order (from_fixes 6 (space_said p.space) ls)
head_shown (Err fault) ls = Err fault

-- a text's problem, or its first line at fault
unfoldable pub problem_in : List ℕ → Result Said ProblemFault
problem_in text = cond (nat_le (length text) 65536) (from_lines (lines_in text)) (Err (record { line = 1; cause = TooLong }))
