-- The laws of the codes, over the completions of a descriptor.
use Rattle.std.specs.Prelude.{◌≡◌, ℕ, ◌+◌, ◌<◌, ◌≤◌, Bool, true, cond, ◌⊎◌, List, [], ◌∷◌, length, ◌≢◌}
use Rattle.rules.specs.Answers.{holds}
use Rattle.codes.specs.declared.table.Table.{Table}
use Rattle.codes.specs.declared.value.Value.{Value}
use Rattle.codes.specs.declared.value.Value.TheVariants.{Off, On, Unknown}
use Rattle.codes.specs.Values.{agrees}
use Rattle.codes.specs.Codes.{Parts, edge, code}
use Rattle.codes.specs.Tables.{index, code_at, code_in}

-- a state for the centre, and one for each unknown neighbour
pub record Completion : Type 0 where
  pub centre : Bool
  pub neighbours : List Bool

-- how many states of a list are on
abbrev pub ons : List Bool → ℕ
ons [] = 0
ons (b ∷ bs) = cond b 1 0 + ons bs

-- that every state of a list is b
abbrev pub AllAre : Bool → List Bool → Type 0
AllAre b [] = Unit {0}
AllAre b (a ∷ as') = (a ≡ b) × AllAre b as'

-- the successor in a completion: the rule's answer to its centre and to how many of all neighbours are on
abbrev pub successor_in : (Bool → ℕ → Bool) → Parts → Completion → Bool
successor_in rule d x = rule x.centre (d.on + ons x.neighbours)

-- a completion of a descriptor that agrees with a known centre, and under the rule with a known successor
pub record Agreeing (rule : Bool → ℕ → Bool) (d : Parts) (x : Completion) : Type 0 where
  pub neighbours : length x.neighbours ≡ d.unknown
  pub centre : agrees d.centre x.centre ≡ true
  pub successor : agrees d.successor (successor_in rule d x) ≡ true

-- the bit of a code that says that the centre is off or on
abbrev pub centre_bit : Bool → ℕ
centre_bit b = cond b 2 1

-- the bit that says that the successor is off or on
abbrev pub successor_bit : Bool → ℕ
successor_bit b = cond b 4 3

-- the bit that says that all unknown neighbours are off or on
abbrev pub neighbour_bit : Bool → ℕ
neighbour_bit b = cond b 6 5

-- what a bit of the number n says: it stands only for a part that is not known, and only where every agreeing
-- completion has it so; and it stands wherever that is so, unless n is 1, that of a contradiction
pub record Tells (rule : Bool → ℕ → Bool) (d : Parts) (n bit : ℕ) (NotKnown : Type 0) (Has : Completion → Type 0) : Type 0 where
  pub part : holds n bit ≡ true → NotKnown
  pub sound : holds n bit ≡ true → (x : Completion) → Agreeing rule d x → Has x
  pub full : (n ≢ 1) → NotKnown → ((x : Completion) → Agreeing rule d x → Has x) → holds n bit ≡ true

-- what the number n says of a descriptor as its code
pub record CodeLaw (rule : Bool → ℕ → Bool) (d : Parts) (n : ℕ) : Type 0 where
  -- it is 1 exactly when no completion agrees
  pub impossible : n ≡ 1 → (x : Completion) → Agreeing rule d x → ⊥
  pub possible : ((x : Completion) → Agreeing rule d x → ⊥) → n ≡ 1
  -- otherwise its bits say what all agreeing completions have in common
  pub centre : (b : Bool) → Tells rule d n (centre_bit b) (d.centre ≡ Unknown) (λ x. x.centre ≡ b)
  pub successor : (b : Bool) → Tells rule d n (successor_bit b) (d.successor ≡ Unknown) (λ x. successor_in rule d x ≡ b)
  pub neighbours : (b : Bool) → Tells rule d n (neighbour_bit b) (0 < d.unknown) (λ x. AllAre b x.neighbours)
  -- and it has no other bits
  pub lowest : holds n 0 ≡ true → n ≡ 1
  pub few : n < 128

abbrev pub CodesTell : Type 0
CodesTell = (rule : Bool → ℕ → Bool) (d : Parts) → CodeLaw rule d (code rule d)

-- that the code is the only number that says so
abbrev pub CodesOnly : Type 0
CodesOnly = (rule : Bool → ℕ → Bool) (d : Parts) (n : ℕ) → CodeLaw rule d n → n ≡ code rule d

-- that a table holds at the index of each descriptor what the descriptor says
abbrev pub TableTells : (Bool → ℕ → Bool) → Table → Type 0
TableTells rule t = (d : Parts) → d.on + d.unknown ≤ 8 → CodeLaw rule d (code_in t (index d))

-- that the code of a descriptor stands at its index
abbrev pub CodesPlaced : Type 0
CodesPlaced = (rule : Bool → ℕ → Bool) (d : Parts) → d.on + d.unknown ≤ 8 → code_at rule (index d) ≡ code rule d

-- the value of a cell that is known to be off or on
abbrev pub known : Bool → Value
known b = cond b On Off

-- that one descriptor knows at least what another does: of the centre, of the successor and of the neighbours
pub record KnowsMore (less more : Parts) : Type 0 where
  pub centre : (less.centre ≡ Unknown) ⊎ (more.centre ≡ less.centre)
  pub successor : (less.successor ≡ Unknown) ⊎ (more.successor ≡ less.successor)
  pub on : less.on ≤ more.on
  pub unknown : more.on + more.unknown ≤ less.on + less.unknown

-- what was forced is forced still, or is known with that value, or there is a contradiction
pub record StaysForced (rule : Bool → ℕ → Bool) (less more : Parts) : Type 0 where
  pub contradiction : code rule less ≡ 1 → code rule more ≡ 1
  pub centre : (b : Bool) → holds (code rule less) (centre_bit b) ≡ true →
      (code rule more ≡ 1) ⊎ ((more.centre ≡ known b) ⊎ (holds (code rule more) (centre_bit b) ≡ true))
  pub successor : (b : Bool) → holds (code rule less) (successor_bit b) ≡ true →
      (code rule more ≡ 1) ⊎ ((more.successor ≡ known b) ⊎ (holds (code rule more) (successor_bit b) ≡ true))
  -- no neighbour has become known with the other value, and those that are unknown still are forced
  pub neighbours : (b : Bool) → holds (code rule less) (neighbour_bit b) ≡ true →
      (code rule more ≡ 1) ⊎ ((edge more b ≡ edge less b) × ((more.unknown ≡ 0) ⊎ (holds (code rule more) (neighbour_bit b) ≡ true)))

abbrev pub CodesKeep : Type 0
CodesKeep = (rule : Bool → ℕ → Bool) (less more : Parts) → KnowsMore less more → StaysForced rule less more
