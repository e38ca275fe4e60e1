-- The laws of the search of a system.
use Rattle.std.specs.Prelude.{◌≡◌, ℕ, suc, ◌+◌, ◌^◌, ◌≤◌, Bool, ◌⊎◌, List, [], ◌∷◌}
use Rattle.systems.specs.Systems.{In, Sys, unknowns, Proper}
use Rattle.systems.specs.Alike.{Alike}
use Rattle.histories.specs.Searches.{Stands, State, Says, finished, Move, Run, Reply, Go, ToCome, Sooner, index}
use Rattle.histories.specs.Going.{go}

-- fillings in dictionary order
abbrev pub Ascending : List ℕ → List (List Bool) → Type 0
Ascending order [] = Unit {0}
Ascending order (f ∷ fs) = ((g : List Bool) → In g fs → Sooner order f g) × Ascending order fs

-- from the state `from` n steps were taken and fs told, and the search came to s: what was told is what was to come and is no more
pub record Told (S : Sys) (from : State) (n : ℕ) (fs : List (List Bool)) (s : State) : Type 0 where
  -- the decisions are still such as choices make them
  pub stands : Stands S S.start s.standing
  -- the finds told, in dictionary order, are solutions that were to come and are not to come any more
  pub ascending : Ascending S.order fs
  pub was_to_come : (f : List Bool) → In f fs → ToCome S from f
  pub past : (f : List Bool) → In f fs → ToCome S s f → ⊥
  -- what was to come is told, or is still to come; and then it comes later in the dictionary
  pub none_lost : (f : List Bool) → ToCome S from f → In f fs ⊎ ToCome S s f
  pub still : (f : List Bool) → ToCome S s f → ToCome S from f
  pub comes_later : (f g : List Bool) → In f fs → ToCome S s g → Sooner S.order f g
  -- where there is no move left nothing is to come
  pub ended : (s' : State) → Move S s finished s' → (f : List Bool) → ToCome S s f → ⊥
  -- each step leads to a place further on, so that there are few
  pub onward : n + index (unknowns S.start) from.standing ≤ index (unknowns S.start) s.standing
  pub few : n + 2 ≤ 2 ^ suc (unknowns S.start)

-- what a run tells from any state
abbrev pub RunsTell : Type 0
RunsTell = (S : Sys) → Proper S → (from : State) → Stands S S.start from.standing → (n : ℕ) (fs : List (List Bool)) (s : State) → Run S from n fs s → Told S from n fs s

-- a call's answer, steps and state are decided by the state before it
abbrev pub GoOne : Type 0
GoOne = (S : Sys) → Proper S → (b k l : ℕ) (a c : Reply) (s s' s'' : State) → Go S b s a k s' → Go S b s c l s'' → (a ≡ c) × (k ≡ l) × (s' ≡ s'')

-- every state whose decisions are such as choices make them has a move
abbrev pub NeverStuck : Type 0
NeverStuck = (S : Sys) → Proper S → (s : State) → Stands S S.start s.standing → (e : Says) × (s' : State) × Move S s e s'

-- the call as it is computed is the call, and the only one
pub record GoComputed : Type 0 where
  pub goes : (S : Sys) → Proper S → (n : ℕ) (s : State) → Stands S S.start s.standing → Go S n s (go S n s).reply (go S n s).steps (go S n s).state
  pub only : (S : Sys) → Proper S → (n k : ℕ) (a : Reply) (s s' : State) → Stands S S.start s.standing → Go S n s a k s' → ((go S n s).reply ≡ a) × ((go S n s).steps ≡ k) × ((go S n s).state ≡ s')

-- a call pauses only with every step used, and never uses more than it has
pub record GoUses : Type 0 where
  pub paused_used : (S : Sys) (b k : ℕ) (s s' : State) → Go S b s Reply.paused k s' → k ≡ b
  pub never_more : (S : Sys) (b k : ℕ) (a : Reply) (s s' : State) → Go S b s a k s' → k ≤ b

-- systems with the same instances have the same calls
abbrev pub GoAlike : Type 0
GoAlike = (S S' : Sys) → Alike S S' → (b k : ℕ) (a : Reply) (s s' : State) → Go S b s a k s' → Go S' b s a k s'

pub record GoLaws : Type 0 where
  pub one : GoOne
  pub never_stuck : NeverStuck
  pub computed : GoComputed
  pub uses : GoUses
  pub alike : GoAlike
