-- Settling: sequences of forcing steps, and what they come to.
use Rattle.std.specs.Prelude.{◌≡◌, ℕ, zero, suc, Bool, true, false, cond, not, List, [], ◌∷◌, length, Some, None, Option, ◌==◌, bit_and, slice_set}
use Rattle.codes.specs.declared.value.Value.{Value}
use Rattle.codes.specs.declared.value.Value.TheVariants.{Off, On, Unknown}
use Rattle.codes.specs.Laws.{known, centre_bit, successor_bit, neighbour_bit}
use Rattle.rules.specs.Answers.{holds}
use Rattle.systems.specs.declared.instance.Instance.{Instance}
use Rattle.systems.specs.Systems.{In, Sys, at, code_for, Forces, Below}

-- closed values: no class is torn, and no instance forces anything or is a contradiction
pub record Closed (S : Sys) (v : ℕ → Value) : Type 0 where
  pub not_torn : S.torn ≡ false
  pub quiet : (i : Instance) → In i S.instances → code_for S.rule v i ≡ 0

-- one forcing step sets one unknown class that one instance forces
pub record Step (S : Sys) (ρ ρ' : List Value) : Type 0 where
  pub by : Instance
  pub one_of : In by S.instances
  pub class : ℕ
  pub on : Bool
  pub unknown : at ρ class ≡ Unknown
  pub forces : Forces S.rule (at ρ) by class on
  pub sets : ρ' ≡ slice_set ρ class (known on)

-- forcing steps, one after another
pub data Steps (S : Sys) : List Value → List Value → Type 0 where
  stop : {ρ : List Value} → Steps S ρ ρ
  more : {ρ ρ' ρ'' : List Value} → Step S ρ ρ' → Steps S ρ' ρ'' → Steps S ρ ρ''

-- a contradiction: a torn class, or an instance around which no pair fits
pub data Contra (S : Sys) (v : ℕ → Value) : Type 0 where
  torn_class : S.torn ≡ true → Contra S v
  no_fit : {i : Instance} → In i S.instances → code_for S.rule v i ≡ 1 → Contra S v

-- settling from ρ ends at the closed values σ
pub record Settles (S : Sys) (ρ σ : List Value) : Type 0 where
  pub steps : Steps S ρ σ
  pub closed : Closed S (at σ)

-- settling from ρ meets a contradiction
pub record Meets (S : Sys) (ρ : List Value) : Type 0 where
  pub last : List Value
  pub steps : Steps S ρ last
  pub contra : Contra S (at last)

-- what settling comes to, whatever its sequence: the least closed values above ρ
pub record Least (S : Sys) (ρ σ : List Value) : Type 0 where
  pub closed : Closed S (at σ)
  pub above : Below (at ρ) (at σ)
  pub least : (v : ℕ → Value) → Closed S v → Below (at ρ) v → Below (at σ) v
  pub long : length σ ≡ length ρ

-- or that there are no closed values above ρ
abbrev pub Dead : Sys → List Value → Type 0
Dead S ρ = (v : ℕ → Value) → Closed S v → Below (at ρ) v → ⊥

-- ---- settling as it can be computed

-- sets an unknown class; a known one stays as it is
abbrev pub set_if : Value → ℕ → Bool → List Value → List Value
set_if Off x b ρ = ρ
set_if On x b ρ = ρ
set_if Unknown x b ρ = slice_set ρ x (known b)

-- sets an unknown class to a value; nothing is set where the value is not known
abbrev pub set_one : Value → ℕ → List Value → List Value
set_one Off x ρ = set_if (at ρ x) x false ρ
set_one On x ρ = set_if (at ρ x) x true ρ
set_one Unknown x ρ = ρ

abbrev pub set_each : Value → List ℕ → List Value → List Value
set_each w [] ρ = ρ
set_each w (x ∷ xs) ρ = set_each w xs (set_one w x ρ)

-- what two bits of a code say: the second on, else the first off, else nothing
abbrev pub said_by : ℕ → ℕ → ℕ → Value
said_by n off on = cond (holds n on) On (cond (holds n off) Off Unknown)

abbrev pub said_centre : ℕ → Value
said_centre n = said_by n (centre_bit false) (centre_bit true)

abbrev pub said_successor : ℕ → Value
said_successor n = said_by n (successor_bit false) (successor_bit true)

abbrev pub said_neighbours : ℕ → Value
said_neighbours n = said_by n (neighbour_bit false) (neighbour_bit true)

-- the same read by masks: nothing where none of the bits of a mask stand, else on where the bits of another do
abbrev pub masked : ℕ → ℕ → ℕ → Value
masked n mask on = cond (bit_and n mask == 0) Unknown (known (not (bit_and n on == 0)))

-- sets what a code says that an instance forces
unfoldable pub set_by : ℕ → Instance → List Value → List Value
set_by n i ρ =
    set_each (said_neighbours n) i.neighbours
    (set_one (said_successor n) i.successor (set_one (said_centre n) i.centre ρ))

-- looks at one instance and sets what it forces; nothing at a contradiction
abbrev pub unless_one : ℕ → Instance → List Value → Option (List Value)
unless_one n i ρ = cond (n == 1) None (Some (set_by n i ρ))

abbrev pub examined : (Bool → ℕ → Bool) → Instance → List Value → Option (List Value)
examined rule i ρ = unless_one (code_for rule (at ρ) i) i ρ

-- the first instance that is not quiet
abbrev pub first_loud : (Bool → ℕ → Bool) → List Value → List Instance → Option Instance
first_loud rule ρ [] = None
first_loud rule ρ (i ∷ is) = cond (code_for rule (at ρ) i == 0) (first_loud rule ρ is) (Some i)

abbrev pub and_then : Option (List Value) → (List Value → Option (List Value)) → Option (List Value)
and_then None k = None
and_then (Some ρ) k = k ρ

abbrev pub settle_at : (Bool → ℕ → Bool) → (List Value → Option (List Value)) → List Value → Option Instance → Option (List Value)
settle_at rule k ρ None = Some ρ
settle_at rule k ρ (Some i) = and_then (examined rule i ρ) k

-- looks at one instance that is not quiet after another, as often as n says at most
unfoldable pub settle : ℕ → (Bool → ℕ → Bool) → List Instance → List Value → Option (List Value)
settle zero rule is ρ = None
settle (suc n) rule is ρ = settle_at rule (settle n rule is) ρ (first_loud rule ρ is)

abbrev pub unless_torn : Bool → Option (List Value) → Option (List Value)
unless_torn true o = None
unless_torn false o = o

-- the values at which settling ends; nothing at a contradiction. Each look sets a class, so that as many looks as classes suffice
unfoldable pub settled : Sys → List Value → Option (List Value)
settled S ρ = unless_torn S.torn (settle (suc (length ρ)) S.rule S.instances ρ)
