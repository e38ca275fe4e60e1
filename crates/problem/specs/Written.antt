-- How the lines of a problem are written: the forms of the lines, and the values in them.
use Rattle.std.specs.Prelude.{◌≡◌, ℕ, ◌%◌, ◌<◌, ◌≤◌, Bool, cond, List, [], ◌∷◌, Ok, codes}
use Rattle.choices.specs.declared.any_order.AnyOrder.{AnyOrder}
use Rattle.choices.specs.declared.any_order.AnyOrder.TheVariants.{Rows, Columns, Generations}
use Rattle.frames.specs.Frames.{Shape, built}
use Rattle.planes.specs.Layers.{kind_of}
use Rattle.planes.specs.Pins.{fixed_number}
use Rattle.planes.specs.declared.pins.Pin.{Pin}
use Rattle.rules.specs.Forms.{Sets, written}
use Rattle.words.specs.Forms.{Digits, KeyAndValue, KeyAndWords, SignedDigits}
use Rattle.problem.specs.Reading.{Said, SpaceSaid, look_of, numbered}
use Rattle.problem.specs.declared.forms.Fixing.{Fixing}
use Rattle.problem.specs.declared.forms.Named.{Named}
use Rattle.problem.specs.declared.forms.Named.TheVariants.{Plain, Torus, Cylinder}
use Rattle.problem.specs.declared.forms.Size.{Size}

-- rule R, with the written form of a rule
pub record RuleForm (rule : Sets) (line : List ℕ) : Type 0 where
  pub births : rule.births < 512
  pub survivals : rule.survivals < 512
  pub quiet : rule.births % 2 ≡ 0
  pub whole : KeyAndValue (codes "rule") (written rule.births rule.survivals) line

-- box W H P DX DY
pub record BoxForm (size : Size) (line : List ℕ) : Type 0 where
  pub width : List ℕ
  pub height : List ℕ
  pub period : List ℕ
  pub dx : List ℕ
  pub dy : List ℕ
  pub is_width : Digits size.width width
  pub is_height : Digits size.height height
  pub is_period : Digits size.period period
  pub is_dx : SignedDigits size.dx dx
  pub is_dy : SignedDigits size.dy dy
  pub whole : KeyAndWords (codes "box") (width ∷ height ∷ period ∷ dx ∷ dy ∷ []) line

-- the name of a plane
abbrev pub plane_name : Named → List ℕ
plane_name Plain = codes "plain"
plane_name Torus = codes "torus"
plane_name Cylinder = codes "cylinder"

-- the name of an order
abbrev pub order_name : AnyOrder → List ℕ
order_name Rows = codes "rows"
order_name Columns = codes "columns"
order_name Generations = codes "generations"

-- mirror M, for a number from 0 to 6
pub record MirrorForm (number : ℕ) (line : List ℕ) : Type 0 where
  pub word : List ℕ
  pub most : number ≤ 6
  pub is_number : Digits number word
  pub whole : KeyAndWords (codes "mirror") (word ∷ []) line

-- 1 for a cell that is to be on, 0 for one that is to be off
abbrev pub bit : Bool → ℕ
bit on = cond on 1 0

-- fix X Y T V
pub record FixForm (cell : Fixing) (line : List ℕ) : Type 0 where
  pub x : List ℕ
  pub y : List ℕ
  pub t : List ℕ
  pub v : List ℕ
  pub is_x : Digits cell.x x
  pub is_y : Digits cell.y y
  pub is_t : Digits cell.t t
  pub is_v : Digits (bit cell.on) v
  pub whole : KeyAndWords (codes "fix") (x ∷ y ∷ t ∷ v ∷ []) line

-- a space, with the cells that it then holds
abbrev pub holding : SpaceSaid → List Pin → SpaceSaid
holding s pins = record { frame = s.frame; look = s.look; mirror = s.mirror; pins = pins }

-- lines that fix cells, one after the other: the space before them and after
abbrev pub FixForms : SpaceSaid → List (List ℕ) → SpaceSaid → Type 0
FixForms s [] last = s ≡ last
FixForms s (l ∷ ls) last = (cell : Fixing) × (pins : List Pin) × FixForm cell l × (fixed_number s.pins cell.on (numbered s.frame cell) ≡ Ok pins) × FixForms (holding s pins) ls last

-- the lines of a problem: the five that every problem has, which say its rule, its frame, its plane, its order and its mirror; and
-- those that fix cells
pub record Written (lines : List (List ℕ)) (p : Said) : Type 0 where
  pub rule_line : List ℕ
  pub box_line : List ℕ
  pub space_line : List ℕ
  pub order_line : List ℕ
  pub mirror_line : List ℕ
  pub fix_lines : List (List ℕ)
  pub size : Size
  pub frame : Shape
  pub named : Named
  pub number : ℕ
  pub all : lines ≡ rule_line ∷ box_line ∷ space_line ∷ order_line ∷ mirror_line ∷ fix_lines
  pub rule : RuleForm p.rule rule_line
  pub box : BoxForm size box_line
  pub limits : built size.width size.height size.period size.dx size.dy ≡ Ok frame
  pub space : KeyAndValue (codes "space") (plane_name named) space_line
  pub order : KeyAndValue (codes "order") (order_name p.order) order_line
  pub mirror : MirrorForm number mirror_line
  pub fixes : FixForms (record { frame = frame; look = look_of named frame; mirror = kind_of number; pins = [] }) fix_lines p.space
