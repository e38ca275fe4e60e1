-- The laws of what is asked and worked out, in the words of the roll.
use Rattle.std.specs.Prelude.{◌≡◌, ℕ, ◌+◌, ◌*◌, ◌<◌, Bool, ◌⊎◌, ◌↔◌, List, length, take, Some, None}
use Rattle.frames.specs.Frames.{cells}
use Rattle.rules.specs.declared.rule.Rule.{Rule}
use Rattle.rolls.specs.Rolls.{Surface, Keeps, Lawful, InstanceHolds, TieHolds, ninth}
use Rattle.keeping.specs.Asked.{broken_instance, broken_tie}
use Rattle.keeping.specs.Worked.{worked_out}
use Rattle.keeping.specs.declared.places.InstanceAt.{InstanceAt}
use Rattle.keeping.specs.declared.places.TieAt.{TieAt}

-- of two numbers and two more, the first pair comes before the second
abbrev pub Before : (a b c d : ℕ) → Type 0
Before a b c d = (a < c) ⊎ ((a ≡ c) × (b < d))

-- an instance comes before another: by generation, then row, then column
abbrev pub Earlier : (t j i u l k : ℕ) → Type 0
Earlier t j i u l k = (t < u) ⊎ ((t ≡ u) × Before j i l k)

-- every instance holds: row and column are counted from -9
abbrev pub AllHold : Surface → Rule → List Bool → Type 0
AllHold s r f = (t j i : ℕ) → t < s.frame.period → j < s.frame.height + 18 → i < s.frame.width + 18 → InstanceHolds s r f t (ninth i) (ninth j)

-- an instance that does not hold, and all before it do; row and column are counted from -9
pub record FirstInstance (s : Surface) (r : Rule) (f : List Bool) (broken : InstanceAt) : Type 0 where
  pub row : ℕ
  pub column : ℕ
  pub lasting : broken.t < s.frame.period
  pub low : row < s.frame.height + 18
  pub narrow : column < s.frame.width + 18
  pub y : broken.y ≡ ninth row
  pub x : broken.x ≡ ninth column
  pub fails : InstanceHolds s r f broken.t broken.x broken.y → ⊥
  pub first : (t j i : ℕ) → t < s.frame.period → j < s.frame.height + 18 → i < s.frame.width + 18 → Earlier t j i broken.t row column → InstanceHolds s r f t (ninth i) (ninth j)

-- a tie that does not hold, and all before it do
pub record FirstTie (s : Surface) (f : List Bool) (broken : TieAt) : Type 0 where
  pub row : broken.row < s.rows
  pub cell : broken.cell < cells s.frame
  pub fails : TieHolds f broken.cell (s.tie broken.row broken.cell) → ⊥
  pub first : (row c : ℕ) → row < s.rows → c < cells s.frame → Before row c broken.row broken.cell → TieHolds f c (s.tie row c)

-- a filling of the box keeps the ties and the rule exactly when nothing is found that does not hold; what is found is the first, and
-- the first is what is found
pub record AskingLaws : Type 0 where
  pub kept : (s : Surface) (r : Rule) (f : List Bool) → length f ≡ cells s.frame → broken_instance s r f ≡ None → broken_tie s f ≡ None → Keeps s r f
  pub unbroken : (s : Surface) (r : Rule) (f : List Bool) → Keeps s r f → (broken_instance s r f ≡ None) × (broken_tie s f ≡ None)
  pub instance_first : (s : Surface) (r : Rule) (f : List Bool) (broken : InstanceAt) → broken_instance s r f ≡ Some broken → FirstInstance s r f broken
  pub tie_first : (s : Surface) (f : List Bool) (broken : TieAt) → broken_tie s f ≡ Some broken → FirstTie s f broken
  pub holding : (s : Surface) (r : Rule) (f : List Bool) → (broken_instance s r f ≡ None) ↔ AllHold s r f
  pub one_instance : (s : Surface) (r : Rule) (f : List Bool) (broken : InstanceAt) → FirstInstance s r f broken → broken_instance s r f ≡ Some broken
  pub one_tie : (s : Surface) (f : List Bool) (broken : TieAt) → FirstTie s f broken → broken_tie s f ≡ Some broken

-- what is worked out of a first generation is a filling of the box that begins with it; and a filling that keeps the rule is what
-- is worked out of its first generation
pub record WorkingLaws : Type 0 where
  pub long : (s : Surface) (r : Rule) (first : List Bool) → length first ≡ s.frame.width * s.frame.height → length (worked_out s r first) ≡ cells s.frame
  pub begins : (s : Surface) (r : Rule) (first : List Bool) → length first ≡ s.frame.width * s.frame.height → take (s.frame.width * s.frame.height) (worked_out s r first) ≡ first
  pub only : (s : Surface) (r : Rule) (f : List Bool) → Lawful s → Keeps s r f → f ≡ worked_out s r (take (s.frame.width * s.frame.height) f)
