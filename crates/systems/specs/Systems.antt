-- A system: classes, of each of which something is known or not, and instances, which ask something of them.
use Rattle.std.specs.Prelude.{◌≡◌, ℕ, ◌+◌, ◌<◌, Bool, true, false, cond, List, [], ◌∷◌, length, slice_index_or}
use Rattle.codes.specs.declared.value.Value.{Value}
use Rattle.codes.specs.declared.value.Value.TheVariants.{Off, On, Unknown}
use Rattle.codes.specs.Codes.{Parts, Pair, fitting, every, says_centre, says_successor, says_neighbours, code}
use Rattle.codes.specs.Laws.{known}
use Rattle.systems.specs.declared.instance.Instance.{Instance}

-- a is one of a list
pub data In {A : Type 0} (a : A) : List A → Type 0 where
  here : {l : List A} → In a (a ∷ l)
  there : {b : A} {l : List A} → In a l → In a (b ∷ l)

-- classes are numbers below the length of `start`; the last of them stands for nothing, and is off from the start
pub record Sys : Type 0 where
  -- whether a cell is on next, from whether it is on and how many of its neighbours are
  pub rule : Bool → ℕ → Bool
  pub instances : List Instance
  -- what is known of each class from the start
  pub start : List Value
  -- whether some class is asked to be off and on at once
  pub torn : Bool
  -- the class of the cell of each rank
  pub order : List ℕ

-- what is known of a class; nothing is, past the last
abbrev pub at : List Value → ℕ → Value
at ρ x = slice_index_or ρ x Unknown

-- the sum of a number for each of a list
unfoldable pub sum_of : (ℕ → ℕ) → List ℕ → ℕ
sum_of g [] = 0
sum_of g (x ∷ xs) = g x + sum_of g xs

-- 1 for a value that is on, and for one that is unknown
abbrev pub on_one : Value → ℕ
on_one Off = 0
on_one On = 1
on_one Unknown = 0

abbrev pub unknown_one : Value → ℕ
unknown_one Off = 0
unknown_one On = 0
unknown_one Unknown = 1

-- how many of these classes are on, and how many unknown
abbrev pub on_among : (ℕ → Value) → List ℕ → ℕ
on_among v xs = sum_of (λ x. on_one (v x)) xs

abbrev pub unknown_among : (ℕ → Value) → List ℕ → ℕ
unknown_among v xs = sum_of (λ x. unknown_one (v x)) xs

-- what is known around an instance
abbrev pub descriptor_of : (ℕ → Value) → Instance → Parts
descriptor_of v i =
    record {
      centre = v i.centre;
      on = on_among v i.neighbours;
      unknown = unknown_among v i.neighbours;
      successor = v i.successor;
    }

-- what a neighbour adds to the place of a descriptor's code in a table
abbrev pub weight_of : Value → ℕ
weight_of Off = 0
weight_of On = 27
weight_of Unknown = 3

-- the code of what is known around an instance: 0 where nothing is forced, 1 at a contradiction
unfoldable pub code_for : (Bool → ℕ → Bool) → (ℕ → Value) → Instance → ℕ
code_for rule v i = code rule (descriptor_of v i)

-- every pair that fits around an instance says so
unfoldable pub AllSay : (Bool → ℕ → Bool) → (ℕ → Value) → Instance → (Pair → Bool) → Type 0
AllSay rule v i says = every says (fitting rule (descriptor_of v i)) ≡ true

-- an instance forces the class x to be b: every fitting pair says so of its centre, its successor or all its unknown neighbours
pub data Forces (rule : Bool → ℕ → Bool) (v : ℕ → Value) (i : Instance) (x : ℕ) (b : Bool) : Type 0 where
  in_centre : i.centre ≡ x → AllSay rule v i (says_centre b) → Forces rule v i x b
  in_successor : i.successor ≡ x → AllSay rule v i (says_successor rule b) → Forces rule v i x b
  in_neighbour : In x i.neighbours → AllSay rule v i (says_neighbours (descriptor_of v i) b) → Forces rule v i x b

-- the classes that an instance names
pub data Mentions (i : Instance) (x : ℕ) : Type 0 where
  as_centre : i.centre ≡ x → Mentions i x
  as_successor : i.successor ≡ x → Mentions i x
  as_neighbour : In x i.neighbours → Mentions i x

-- w knows all that v knows
abbrev pub Below : (ℕ → Value) → (ℕ → Value) → Type 0
Below v w = (x : ℕ) (b : Bool) → v x ≡ known b → w x ≡ known b

-- how many values of a list are unknown
unfoldable pub unknowns : List Value → ℕ
unknowns [] = 0
unknowns (w ∷ ws) = unknown_one w + unknowns ws

-- a filling of the classes, as values that are all known
abbrev pub whole : List Bool → ℕ → Value
whole f x = known (slice_index_or f x false)

-- how many of these classes are on in a filling
abbrev pub on_in : List Bool → List ℕ → ℕ
on_in f xs = sum_of (λ x. cond (slice_index_or f x false) 1 0) xs

-- an instance holds in a filling: its successor is the rule's answer to its centre and its neighbours
abbrev pub Holds : (Bool → ℕ → Bool) → List Bool → Instance → Type 0
Holds rule f i = slice_index_or f i.successor false ≡ rule (slice_index_or f i.centre false) (on_in f i.neighbours)

-- a solution: a filling of the classes that has what is known from the start, and in which every instance holds
pub record Sol (S : Sys) (f : List Bool) : Type 0 where
  pub size : length f ≡ length S.start
  pub not_torn : S.torn ≡ false
  pub musts : Below (at S.start) (whole f)
  pub holds : (i : Instance) → In i S.instances → Holds S.rule f i

-- a proper system: instances and order name its classes, and every unknown class has a rank
pub record Proper (S : Sys) : Type 0 where
  pub mentions : (i : Instance) → In i S.instances → (x : ℕ) → Mentions i x → x < length S.start
  pub chosen : (x : ℕ) → In x S.order → x < length S.start
  pub choosable : (x : ℕ) → x < length S.start → at S.start x ≡ Unknown → In x S.order
