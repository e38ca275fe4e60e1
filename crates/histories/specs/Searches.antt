-- The search of a system: decisions that stand, the moves, and calls one after another.
use Rattle.std.specs.Prelude.{◌≡◌, ℕ, zero, suc, ◌+◌, ◌^◌, ◌<◌, Bool, true, false, ◌⊎◌, List, [], ◌∷◌, ◌++◌, map, Some, None, Option, slice_index_or, slice_set}
use Rattle.codes.specs.declared.value.Value.{Value}
use Rattle.codes.specs.declared.value.Value.TheVariants.{Off, On, Unknown}
use Rattle.codes.specs.Laws.{known}
use Rattle.systems.specs.Systems.{Sys, at, Sol}
use Rattle.systems.specs.Settling.{Least, Dead}

-- a class that was decided, and whether it is on
pub data Decision : Type 0 where
  sets : ℕ → Bool → Decision

-- values with decisions set in them
abbrev pub base : List Value → List Decision → List Value
base ρ [] = ρ
base ρ (sets x b ∷ ds) = base (slice_set ρ x (known b)) ds

-- the first class of a list that is unknown
abbrev pub or_else : Value → ℕ → Option ℕ → Option ℕ
or_else Off x o = o
or_else On x o = o
or_else Unknown x o = Some x

abbrev pub first_unknown : (ℕ → Value) → List ℕ → Option ℕ
first_unknown v [] = None
first_unknown v (x ∷ xs) = or_else (v x) x (first_unknown v xs)

-- no decision is off
pub data AllOn : List Decision → Type 0 where
  no_more : AllOn []
  one_on : {x : ℕ} {ds : List Decision} → AllOn ds → AllOn (sets x true ∷ ds)

-- a turn drops the decisions behind the last that is off, and makes that one on
pub data Turns : List Decision → List Decision → Type 0 where
  last_off : {x : ℕ} {ds : List Decision} → AllOn ds → Turns (sets x false ∷ ds) (sets x true ∷ [])
  later : {d : Decision} {ds ds' : List Decision} → Turns ds ds' → Turns (d ∷ ds) (d ∷ ds')

-- decisions as choices make them: each is of the class of lowest rank that is unknown once those before it are settled
pub data Stands (S : Sys) : List Value → List Decision → Type 0 where
  no_choice : {ρ : List Value} → Stands S ρ []
  choice : {ρ : List Value} {x : ℕ} {b : Bool} {ds : List Decision} (σ : List Value) → Least S ρ σ → first_unknown (at σ) S.order ≡ Some x →
      Stands S (slice_set ρ x (known b)) ds → Stands S ρ (sets x b ∷ ds)

-- a state of the search: the decisions that stand, and whether the find under them is told
pub record State : Type 0 where
  pub standing : List Decision
  pub told : Bool

-- the state at the opening
abbrev pub fresh : State
fresh = record { standing = []; told = false }

-- what a move says: the find that it tells, that it is a step, or that there is no move left
pub data Says : Type 0 where
  found : List Bool → Says
  stepped : Says
  finished : Says

-- the search has to turn back: at a contradiction, or where the find is told
abbrev pub Back : Sys → List Decision → Bool → Type 0
Back S ds told = Dead S (base S.start ds) ⊎ (told ≡ true)

-- the moves of the search
pub data Move (S : Sys) : State → Says → State → Type 0 where
  -- every class is known without a contradiction: the find is told
  tell : {ds : List Decision} {f : List Bool} → Least S (base S.start ds) (map known f) →
      Move S (record { standing = ds; told = false }) (found f) (record { standing = ds; told = true })
  -- it has to turn back and no decision is off: it is done
  finish : {ds : List Decision} {b : Bool} → Back S ds b → AllOn ds →
      Move S (record { standing = ds; told = b }) finished (record { standing = ds; told = b })
  -- it has to turn back: the last decision that is off becomes on
  turn : {ds ds' : List Decision} {b : Bool} → Back S ds b → Turns ds ds' →
      Move S (record { standing = ds; told = b }) stepped (record { standing = ds'; told = false })
  -- a class is unknown: the first by rank is decided off
  choose : {ds : List Decision} {σ : List Value} {x : ℕ} → Least S (base S.start ds) σ → first_unknown (at σ) S.order ≡ Some x →
      Move S (record { standing = ds; told = false }) stepped (record { standing = ds ++ sets x false ∷ []; told = false })

abbrev pub tells : Says → List (List Bool)
tells (found f) = f ∷ []
tells stepped = []
tells finished = []

abbrev pub counts : Says → ℕ
counts (found f) = 0
counts stepped = 1
counts finished = 0

-- moves one after another from a state: the steps taken, the finds told, and the state they lead to
pub data Run (S : Sys) (from : State) : ℕ → List (List Bool) → State → Type 0 where
  begun : Run S from 0 [] from
  moved : {n : ℕ} {fs : List (List Bool)} {s s' : State} {e : Says} → Run S from n fs s → Move S s e s' → Run S from (n + counts e) (fs ++ tells e) s'

-- what a call of go answers
pub data Reply : Type 0 where
  tells_find : List Bool → Reply
  done : Reply
  paused : Reply

-- a call of go with so many steps: it tells a find, or is done, or pauses with no step left, or takes a step and goes on
pub data Go (S : Sys) : ℕ → State → Reply → ℕ → State → Type 0 where
  tells_it : {n : ℕ} {s s' : State} {f : List Bool} → Move S s (found f) s' → Go S n s (tells_find f) 0 s'
  is_done : {n : ℕ} {s s' : State} → Move S s finished s' → Go S n s done 0 s'
  pauses : {s s' : State} → Move S s stepped s' → Go S 0 s paused 0 s
  goes_on : {n k : ℕ} {s s' s'' : State} {a : Reply} → Move S s stepped s' → Go S n s' a k s'' → Go S (suc n) s a (suc k) s''

abbrev pub finds : Reply → List (List Bool)
finds (tells_find f) = f ∷ []
finds done = []
finds paused = []

-- calls of go one after another from a state: the steps of all, the finds of all, and the state they lead to
pub data Calls (S : Sys) (from : State) : ℕ → List (List Bool) → State → Type 0 where
  no_call : Calls S from 0 [] from
  called : {n b k : ℕ} {fs : List (List Bool)} {s s' : State} {a : Reply} → Calls S from n fs s → Go S b s a k s' → Calls S from (n + k) (fs ++ finds a) s'

-- ---- which fillings are still to be told

-- where a filling lies: 0 before the decisions, 1 under them, 2 after them
abbrev pub side_at : Bool → Bool → ℕ → ℕ
side_at true true rest = rest
side_at false false rest = rest
side_at false true rest = 0
side_at true false rest = 2

abbrev pub side : List Bool → List Decision → ℕ
side f [] = 1
side f (sets x b ∷ ds) = side_at (slice_index_or f x false) b (side f ds)

abbrev pub bit : Bool → ℕ
bit false = 0
bit true = 1

-- a solution after a state: under its decisions or after them, or only after them where the find under them is told
pub record ToCome (S : Sys) (s : State) (f : List Bool) : Type 0 where
  pub solves : Sol S f
  pub after : bit s.told < side f s.standing

-- dictionary order along a list of classes: at the first where they differ, f is off and g is on
abbrev pub Sooner : List ℕ → List Bool → List Bool → Type 0
Sooner [] f g = ⊥
Sooner (x ∷ xs) f g = ((slice_index_or f x false ≡ false) × (slice_index_or g x false ≡ true)) ⊎ ((slice_index_or f x false ≡ slice_index_or g x false) × Sooner xs f g)

-- the place of decisions in the sequence in which a tree of so many choices is gone through; that of none is 0
unfoldable pub index : ℕ → List Decision → ℕ
index h [] = 0
index zero (d ∷ ds) = 0
index (suc h) (sets x false ∷ ds) = 1 + index h ds
index (suc h) (sets x true ∷ ds) = 2 ^ suc h + index h ds
