-- Why a line of a problem is refused, in the words of the written forms.
use Rattle.std.specs.Prelude.{◌≡◌, ℕ, ◌%◌, ◌<◌, Bool, ◌⊎◌, List, [], ◌∷◌, length, Some, None, Err, Option, codes}
use Rattle.choices.specs.declared.any_order.AnyOrder.{AnyOrder}
use Rattle.frames.specs.Frames.{Shape, built}
use Rattle.planes.specs.declared.fault.FixFault.{FixFault}
use Rattle.planes.specs.declared.fault.FixFault.TheVariants.{NoCell, Held, Full}
use Rattle.rules.specs.Forms.{written}
use Rattle.rules.specs.declared.fault.RuleFault.{RuleFault}
use Rattle.rules.specs.declared.fault.RuleFault.TheVariants.{Form as NoForm, BirthZero}
use Rattle.words.specs.Forms.{KeyAndValue}
use Rattle.problem.specs.Reading.{Said}
use Rattle.problem.specs.Written.{BoxForm, FixForm, MirrorForm, Written, order_name, plane_name}
use Rattle.problem.specs.declared.fault.Cause.{Cause}
use Rattle.problem.specs.declared.fault.Cause.TheVariants.{TooLong, Form, Frame, Rule, Fix}
use Rattle.problem.specs.declared.forms.Fixing.{Fixing}
use Rattle.problem.specs.declared.forms.Named.{Named}
use Rattle.problem.specs.declared.forms.Size.{Size}

-- the form of the line that comes after some lines, before any limit is looked at: `rule` and a text, `box` and five numbers,
-- `space`, `order` and a name, `mirror` and a number from 0 to 6, and from the sixth line on `fix` and four numbers
abbrev pub Formed : List (List ℕ) → List ℕ → Type 0
Formed [] line = (text : List ℕ) × KeyAndValue (codes "rule") text line
Formed (a ∷ []) line = (size : Size) × BoxForm size line
Formed (a ∷ b ∷ []) line = (named : Named) × KeyAndValue (codes "space") (plane_name named) line
Formed (a ∷ b ∷ c ∷ []) line = (order : AnyOrder) × KeyAndValue (codes "order") (order_name order) line
Formed (a ∷ b ∷ c ∷ d ∷ []) line = (number : ℕ) × MirrorForm number line
Formed (a ∷ b ∷ c ∷ d ∷ e ∷ fixes) line = (cell : Fixing) × FixForm cell line

-- a text that is no rule: 5 where it is the written form of no two sets of digits, 6 where it is that of two, and births hold 0
abbrev pub NoRule : RuleFault → List ℕ → Type 0
NoRule NoForm text = (births survivals : ℕ) → births < 512 → survivals < 512 → text ≡ written births survivals → ⊥
NoRule BirthZero text = (births : ℕ) × (survivals : ℕ) × (births < 512) × (survivals < 512) × (births % 2 ≡ 1) × (text ≡ written births survivals)

-- a cell that a box has
abbrev pub Inside : Shape → Fixing → Type 0
Inside frame cell = (cell.x < frame.width) × (cell.y < frame.height) × (cell.t < frame.period)

-- one of some lines fixes a cell, on or off
abbrev pub Fixes : Fixing → List (List ℕ) → Type 0
Fixes cell [] = ⊥
Fixes cell (line ∷ lines) = ((on : Bool) × FixForm (record { x = cell.x; y = cell.y; t = cell.t; on = on }) line) ⊎ Fixes cell lines

-- a cell that can't be fixed after some lines that fix cells: 7 where the box has it not, 8 where one of those lines fixes it, on or
-- off, and 9 for any other where there are 64 of those lines
abbrev pub NoFix : FixFault → Shape → List (List ℕ) → Fixing → Type 0
NoFix NoCell frame fixes cell = Inside frame cell → ⊥
NoFix Held frame fixes cell = Inside frame cell × Fixes cell fixes
NoFix Full frame fixes cell = Inside frame cell × (Fixes cell fixes → ⊥) × (length fixes ≡ 64)

-- why a line is refused that comes after some lines: for its form; as the first line, since its text is no rule; as the second, since
-- its numbers make no frame; and after the lines of a problem, since its cell can't be fixed
abbrev pub LineRefused : List (List ℕ) → List ℕ → Cause → Type 0
LineRefused before line TooLong = ⊥
LineRefused before line Form = Formed before line → ⊥
LineRefused before line (Rule fault) = (before ≡ []) × (text : List ℕ) × KeyAndValue (codes "rule") text line × NoRule fault text
LineRefused before line (Frame fault) = (length before ≡ 1) × (size : Size) × BoxForm size line × (built size.width size.height size.period size.dx size.dy ≡ Err fault)
LineRefused before line (Fix fault) = (p : Said) × (w : Written before p) × (cell : Fixing) × FixForm cell line × NoFix fault w.frame w.fix_lines cell

-- the same where a line may be missing: one of the first five is refused for its form then
abbrev pub Why : List (List ℕ) → Option (List ℕ) → Cause → Type 0
Why before None cause = (length before < 5) × (cause ≡ Form)
Why before (Some line) cause = LineRefused before line cause
