-- The laws of checking, in the words of the roll: which texts are accepted, and what the last two refusals say.
use Rattle.std.specs.Prelude.{◌≡◌, ℕ, ◌*◌, ◌<◌, ◌≤◌, Bool, ◌↔◌, List, length, take, None, Ok, Err}
use Rattle.rle.specs.declared.fault.ReadFault.{ReadFault}
use Rattle.rle.specs.Texts.{pattern_text}
use Rattle.rolls.specs.Rolls.{Surface, Keeps, Lawful, Roll}
use Rattle.rules.specs.declared.rule.Rule.{Rule}
use Rattle.rules.specs.Forms.{written}
use Rattle.keeping.specs.Asked.{broken_instance}
use Rattle.keeping.specs.Laws.{FirstInstance, FirstTie}
use Rattle.keeping.specs.Worked.{worked_out}
use Rattle.keeping.specs.declared.places.InstanceAt.{InstanceAt}
use Rattle.keeping.specs.declared.places.TieAt.{TieAt}
use Rattle.patterns.specs.Laid.{laid}
use Rattle.patterns.specs.Laws.{Faulty}
use Rattle.patterns.specs.Told.{Told, told}
use Rattle.checking.specs.Checked.{checked, rule_text}
use Rattle.checking.specs.declared.fault.CheckFault.TheVariants.{Rows, Read, Instance, Tie}

-- a member of the roll begins with these cells
abbrev pub FirstOf : Surface → Rule → List Bool → Type 0
FirstOf s r first = (f : List Bool) × Roll s r f × (take (s.frame.width * s.frame.height) f ≡ first)

-- a text that meets no refusal but the last two: the space has at most 8 rows of ties, and the text tells a pattern that names
-- this rule and has no more columns and rows than the box
pub record Suits (s : Surface) (r : Rule) (text : List ℕ) (t : Told) : Type 0 where
  pub few : s.rows ≤ 8
  pub tells : told text ≡ Ok t
  pub named : rule_text t.rule ≡ written r.births r.survivals
  pub narrow : t.width ≤ s.frame.width
  pub low : t.height ≤ s.frame.height

-- such a text is accepted exactly when its pattern keeps the rule, the drift and the ties, which is when it is the first generation
-- of a member of the roll; no other text is accepted
pub record AcceptingLaws : Type 0 where
  pub accepted : (s : Surface) (r : Rule) (text : List ℕ) (t : Told) → Suits s r text t → (checked s r text ≡ Ok (laid s.frame t.runs)) ↔ Keeps s r (worked_out s r (laid s.frame t.runs))
  pub member : (s : Surface) (r : Rule) (first : List Bool) → Lawful s → length first ≡ s.frame.width * s.frame.height → Keeps s r (worked_out s r first) ↔ FirstOf s r first
  pub only : (s : Surface) (r : Rule) (text : List ℕ) (first : List Bool) → checked s r text ≡ Ok first → (t : Told) × Suits s r text t × (first ≡ laid s.frame t.runs)

-- what refusals tell: 11 of the space that it has too many rows, a fault of the text that a reader comes to it there, and 25 and 26 of
-- a text that suits the first instance that does not hold, or where all hold the first tie
pub record RefusingLaws : Type 0 where
  pub rows : (s : Surface) (r : Rule) (text : List ℕ) → checked s r text ≡ Err Rows → 8 < s.rows
  pub reading : (s : Surface) (r : Rule) (text : List ℕ) (fault : ReadFault) → checked s r text ≡ Err (Read fault) → (s.rows ≤ 8) × Faulty text fault
  pub instance : (s : Surface) (r : Rule) (text : List ℕ) (at : InstanceAt) → checked s r text ≡ Err (Instance at) → (t : Told) × Suits s r text t × FirstInstance s r (worked_out s r (laid s.frame t.runs)) at
  pub tie : (s : Surface) (r : Rule) (text : List ℕ) (at : TieAt) → checked s r text ≡ Err (Tie at) → (t : Told) × Suits s r text t × (broken_instance s r (worked_out s r (laid s.frame t.runs)) ≡ None) × FirstTie s (worked_out s r (laid s.frame t.runs)) at

-- over a space of at most 8 rows of ties the text that is written of a member is accepted, and the first generations of the
-- roll are exactly the patterns of accepted texts
pub record RollLaws : Type 0 where
  pub back : (s : Surface) (r : Rule) (f : List Bool) → Lawful s → s.rows ≤ 8 → Roll s r f → checked s r (pattern_text s.frame.width s.frame.height (written r.births r.survivals) f) ≡ Ok (take (s.frame.width * s.frame.height) f)
  pub exactly : (s : Surface) (r : Rule) (first : List Bool) → Lawful s → s.rows ≤ 8 → FirstOf s r first ↔ ((text : List ℕ) × (checked s r text ≡ Ok first))
