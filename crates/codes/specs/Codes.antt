-- What a descriptor forces under a rule, by its fitting pairs, as a code. The rule is given by its
-- answers: whether a cell is on next, from whether it is on and how many of its neighbours are.
use Rattle.std.specs.Prelude.{ℕ, zero, suc, ◌+◌, Bool, true, false, cond, not, ◌&&◌, List, [], ◌∷◌, ◌==◌, nat_lt}
use Rattle.codes.specs.declared.descriptor.Descriptor.{Descriptor}
use Rattle.codes.specs.declared.value.Value.{Value}
use Rattle.codes.specs.declared.value.Value.TheVariants.{Off, On, Unknown}
use Rattle.codes.specs.Values.{agrees}

-- the four parts of a descriptor, without the proof of its limit
pub record Parts : Type 0 where
  pub centre : Value
  pub on : ℕ
  pub unknown : ℕ
  pub successor : Value

abbrev pub parts_of : Descriptor → Parts
parts_of d = record { centre = d.centre; on = d.on; unknown = d.unknown; successor = d.successor }

-- a centre, and a sum of the neighbours
pub record Pair : Type 0 where
  pub centre : Bool
  pub sum : ℕ

-- whether a pair fits: its centre agrees with a known one, and its answer with a known successor
abbrev pub fits : (Bool → ℕ → Bool) → Parts → Pair → Bool
fits rule d p = agrees d.centre p.centre && agrees d.successor (rule p.centre p.sum)

abbrev pub keep_if : Bool → Pair → List Pair → List Pair
keep_if true p ps = p ∷ ps
keep_if false p ps = ps

-- a pair in front of others, if it fits
abbrev pub with_fit : (Bool → ℕ → Bool) → Parts → Pair → List Pair → List Pair
with_fit rule d p ps = keep_if (fits rule d p) p ps

-- the fitting pairs of the n least sums, the greatest first
abbrev pub fitting_of : (Bool → ℕ → Bool) → Parts → ℕ → List Pair
fitting_of rule d zero = []
fitting_of rule d (suc n) =
    with_fit rule d (record { centre = false; sum = d.on + n })
    (with_fit rule d (record { centre = true; sum = d.on + n }) (fitting_of rule d n))

-- all fitting pairs: their sums are from on to on + unknown
abbrev pub fitting : (Bool → ℕ → Bool) → Parts → List Pair
fitting rule d = fitting_of rule d (suc d.unknown)

abbrev pub is_empty : List Pair → Bool
is_empty [] = true
is_empty (p ∷ ps) = false

-- whether a test passes at each pair
abbrev pub every : (Pair → Bool) → List Pair → Bool
every test [] = true
every test (p ∷ ps) = test p && every test ps

abbrev pub is_unknown : Value → Bool
is_unknown Off = false
is_unknown On = false
is_unknown Unknown = true

-- whether a state is off, for false, or on, for true
abbrev pub is : Bool → Bool → Bool
is false state = not state
is true state = state

-- whether a pair says that the centre is off or on
abbrev pub says_centre : Bool → Pair → Bool
says_centre b p = is b p.centre

-- whether a pair says that the successor is off or on
abbrev pub says_successor : (Bool → ℕ → Bool) → Bool → Pair → Bool
says_successor rule b p = is b (rule p.centre p.sum)

-- the sum where all unknown neighbours are off, or all on
abbrev pub edge : Parts → Bool → ℕ
edge d false = d.on
edge d true = d.on + d.unknown

-- whether a pair says that all unknown neighbours are off, or all on
abbrev pub says_neighbours : Parts → Bool → Pair → Bool
says_neighbours d b p = p.sum == edge d b

-- one weight where every pair says off and another where every pair says on; 0 for a part that is known
abbrev pub forced : Bool → ℕ → ℕ → (Bool → Pair → Bool) → List Pair → ℕ
forced isOpen off on says ps = cond isOpen (cond (every (says false) ps) off 0 + cond (every (says true) ps) on 0) 0

-- the code of a descriptor with these fitting pairs: 1 for a contradiction, where there is none, or what they force
abbrev pub code_by : (Bool → ℕ → Bool) → Parts → List Pair → ℕ
code_by rule d ps =
    cond (is_empty ps) 1
    (forced (is_unknown d.centre) 2 4 says_centre ps
    + forced (is_unknown d.successor) 8 16 (says_successor rule) ps
    + forced (nat_lt 0 d.unknown) 32 64 (says_neighbours d) ps)

abbrev pub code : (Bool → ℕ → Bool) → Parts → ℕ
code rule d = code_by rule d (fitting rule d)
