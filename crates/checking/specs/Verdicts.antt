-- What the check of a text comes to, in the words of the grammar, the roll and the ties: a line for each verdict.
use Rattle.std.specs.Prelude.{◌≡◌, ℕ, ◌%◌, ◌<◌, ◌≤◌, Bool, ◌⊎◌, ◌↔◌, List, length, Ok, Err, Option, Result}
use Rattle.std.specs.Global.{Vec}
use Rattle.std.specs.declared.alloc.AllocError.{AllocError}
use Rattle.rules.specs.declared.fault.RuleFault.{RuleFault}
use Rattle.rules.specs.declared.fault.RuleFault.TheVariants.{Form, BirthZero}
use Rattle.rules.specs.declared.rule.Rule.{Rule}
use Rattle.rules.specs.Forms.{written}
use Rattle.rle.specs.declared.fault.ReadFault.{ReadFault}
use Rattle.rle.specs.declared.mark.Run.{Run}
use Rattle.rle.specs.Laws.{Readable}
use Rattle.rle.specs.Spots.{Spot}
use Rattle.rolls.specs.Rolls.{Surface, Keeps, Lawful}
use Rattle.keeping.specs.Laws.{AllHold, FirstInstance, FirstTie}
use Rattle.keeping.specs.Worked.{worked_out}
use Rattle.keeping.specs.declared.places.InstanceAt.{InstanceAt}
use Rattle.keeping.specs.declared.places.TieAt.{TieAt}
use Rattle.patterns.specs.Laid.{laid}
use Rattle.patterns.specs.Laws.{Faulty}
use Rattle.patterns.specs.Places.{name_place}
use Rattle.checking.specs.Checked.{checked, rule_text}
use Rattle.checking.specs.Laws.{FirstOf}
use Rattle.checking.specs.declared.fault.CheckFault.{CheckFault}
use Rattle.checking.specs.declared.fault.CheckFault.TheVariants.{Rows, Read, Rule as RuleFaulty, OtherRule, Size, Instance, Tie, Memory}

-- a text that is read, and its parts: it has at most 65,536 bytes and is of the grammar, its sizes are at most 32, and its runs lie
-- in its box
pub record Legible (text : List ℕ) : Type 0 where
  pub remarks : List (List ℕ)
  pub width : ℕ
  pub height : ℕ
  pub rule : Option (List ℕ)
  pub runs : List Run
  pub short : length text ≤ 65536
  pub readable : Readable remarks width height rule runs text

-- where its rule starts, or would start: the heading's line, and in that the column after `rule =` and blanks
abbrev pub rule_place : (text : List ℕ) → Legible text → Spot
rule_place text p = name_place p.remarks p.width p.height p.rule p.readable.form.line p.readable.form.headed

-- a text is no rule: it is not written of any two sets of digits from 0 to 8 (5), or it is, and the births hold 0 (6)
abbrev pub NoRule : List ℕ → RuleFault → Type 0
NoRule name Form = (births survivals : ℕ) → births < 512 → survivals < 512 → name ≡ written births survivals → ⊥
NoRule name BirthZero = (births : ℕ) × (survivals : ℕ) × (births < 512) × (survivals < 512) × (births % 2 ≡ 1) × (name ≡ written births survivals)

-- a text is the name of a rule
abbrev pub Names : Rule → List ℕ → Type 0
Names r name = name ≡ written r.births r.survivals

-- nothing is refused before the cells are asked: the space has at most 8 rows of ties, and the text is read, names this rule, and
-- has no more columns and rows than the box
pub record Fits (s : Surface) (r : Rule) (text : List ℕ) (p : Legible text) : Type 0 where
  pub few : s.rows ≤ 8
  pub named : Names r (rule_text p.rule)
  pub narrow : p.width ≤ s.frame.width
  pub low : p.height ≤ s.frame.height

-- the generations that follow from the pattern, which is laid at the corner of the box
abbrev pub filling : (s : Surface) (r : Rule) (text : List ℕ) → Legible text → List Bool
filling s r text p = worked_out s r (laid s.frame p.runs)

-- the verdict on a text, over a surface and by a rule. Each line says that no earlier one is due.
pub data VerdictOn (s : Surface) (r : Rule) (text : List ℕ) : Result (List Bool) CheckFault → Type 0 where
  -- 11: the space has more than 8 rows of ties
  many_rows : 8 < s.rows → VerdictOn s r text (Err Rows)
  -- 18 to 22: the text is at fault; this is its first fault, and where that stands
  misread : (fault : ReadFault) → s.rows ≤ 8 → Faulty text fault → VerdictOn s r text (Err (Read fault))
  -- 5, 6: the text is read, and the rule that it names is none; it is told where that starts, or would start
  no_rule : (p : Legible text) (cause : RuleFault) → s.rows ≤ 8 → NoRule (rule_text p.rule) cause → VerdictOn s r text (Err (RuleFaulty (record { line = (rule_place text p).line; column = (rule_place text p).column; cause = cause })))
  -- 23: it names another rule
  other_rule : (p : Legible text) (other : Rule) → s.rows ≤ 8 → Names other (rule_text p.rule) → (Names r (rule_text p.rule) → ⊥) → VerdictOn s r text (Err OtherRule)
  -- 24: it names this rule, and has more columns or rows than the box
  too_large : (p : Legible text) → s.rows ≤ 8 → Names r (rule_text p.rule) → (s.frame.width < p.width) ⊎ (s.frame.height < p.height) → VerdictOn s r text (Err Size)
  -- 25: an instance does not hold, and it is the first
  breaks_instance : (p : Legible text) (at : InstanceAt) → Fits s r text p → FirstInstance s r (filling s r text p) at → VerdictOn s r text (Err (Instance at))
  -- 26: every instance holds, and a tie does not; it is the first
  breaks_tie : (p : Legible text) (at : TieAt) → Fits s r text p → AllHold s r (filling s r text p) → FirstTie s (filling s r text p) at → VerdictOn s r text (Err (Tie at))
  -- the pattern, as it is laid, is accepted: what follows from it keeps the rule, the drift and the ties
  accepts : (p : Legible text) → Fits s r text p → Keeps s r (filling s r text p) → VerdictOn s r text (Ok (laid s.frame p.runs))
  -- memory is wanting, which is met only where the cells are to be asked
  no_memory : (p : Legible text) (e : AllocError) → Fits s r text p → VerdictOn s r text (Err (Memory e))

-- an answer, with the cells of the pattern that is accepted
abbrev pub shown : Result (Vec Bool) CheckFault → Result (List Bool) CheckFault
shown (Ok first) = Ok first.items
shown (Err fault) = Err fault

-- the verdict on a text is the one that is computed, and no other but want of memory; and over at most 8 rows of ties the patterns
-- that are accepted are exactly the first generations of the roll
pub record VerdictLaws : Type 0 where
  pub stands : (s : Surface) (r : Rule) (text : List ℕ) → VerdictOn s r text (checked s r text)
  pub only : (s : Surface) (r : Rule) (text : List ℕ) (answer : Result (List Bool) CheckFault) → VerdictOn s r text answer → (answer ≡ checked s r text) ⊎ ((e : AllocError) × (answer ≡ Err (Memory e)))
  pub roll : (s : Surface) (r : Rule) (first : List Bool) → Lawful s → s.rows ≤ 8 → FirstOf s r first ↔ ((text : List ℕ) × VerdictOn s r text (Ok first))
