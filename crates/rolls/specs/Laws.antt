-- The laws of the roll and of dictionary order, in the words of fillings.
use Rattle.std.specs.Prelude.{◌≡◌, ℕ, ◌*◌, ◌<◌, Bool, true, false, ◌⊎◌, List, length}
use Rattle.rules.specs.declared.rule.Rule.{Rule}
use Rattle.rolls.specs.Joined.{Joined}
use Rattle.rolls.specs.Rolls.{Surface, Keeps, Lawful, at}

-- two fillings that keep the same ties and rule and agree in their first generation are one
abbrev pub FirstDecides : Type 0
FirstDecides = (s : Surface) (r : Rule) (f g : List Bool) → Lawful s → Keeps s r f → Keeps s r g → ((c : ℕ) → c < s.frame.width * s.frame.height → at f c ≡ at g c) → f ≡ g

-- cells that are joined are alike in every filling that keeps the ties
abbrev pub JoinedAlike : Type 0
JoinedAlike = (s : Surface) (r : Rule) (f : List Bool) → Keeps s r f → (a b : ℕ) → Joined s a b → at f a ≡ at f b

pub record RollLaws : Type 0 where
  pub first_decides : FirstDecides
  pub joined_alike : JoinedAlike

-- an order of n cells: a cell for each rank below n and a rank for each cell, and each undoes the other
pub record Orders (n : ℕ) (cell rank : ℕ → ℕ) : Type 0 where
  pub within : (k : ℕ) → k < n → cell k < n
  pub ranked : (c : ℕ) → c < n → rank c < n
  pub back : (k : ℕ) → k < n → rank (cell k) ≡ k
  pub forth : (c : ℕ) → c < n → cell (rank c) ≡ c

-- dictionary order: at the first rank where they differ, f is off and g is on
pub record Before (n : ℕ) (cell : ℕ → ℕ) (f g : List Bool) : Type 0 where
  pub place : ℕ
  pub below : place < n
  pub off : at f (cell place) ≡ false
  pub on : at g (cell place) ≡ true
  pub alike : (k : ℕ) → k < place → at f (cell k) ≡ at g (cell k)

-- it is irreflexive and transitive, and of two different fillings of n cells one comes before the other
pub record OrderLaws : Type 0 where
  pub never_itself : (n : ℕ) (cell : ℕ → ℕ) (f : List Bool) → Before n cell f f → ⊥
  pub onward : (n : ℕ) (cell : ℕ → ℕ) (f g h : List Bool) → Before n cell f g → Before n cell g h → Before n cell f h
  pub either : (n : ℕ) (cell rank : ℕ → ℕ) → Orders n cell rank → (f g : List Bool) → length f ≡ n → length g ≡ n → (f ≡ g) ⊎ (Before n cell f g ⊎ Before n cell g f)
