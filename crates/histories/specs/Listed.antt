-- The law of told finds, in the words of the roll: fillings of the cells, in dictionary order.
use Rattle.std.specs.Prelude.{◌≡◌, ℕ, suc, ◌+◌, ◌^◌, ◌≤◌, Bool, List, [], ◌∷◌, ◌++◌, map}
use Rattle.frames.specs.Frames.{cells}
use Rattle.rules.specs.declared.rule.Rule.{Rule}
use Rattle.rolls.specs.Rolls.{Surface, Roll}
use Rattle.rolls.specs.Laws.{Orders, Before}
use Rattle.classes.specs.Asked.{free_among}
use Rattle.classes.specs.Joins.{TiesInside}
use Rattle.classes.specs.Needed.{musts_in}
use Rattle.systems.specs.Systems.{In}
use Rattle.systems.specs.Spaces.{system_of, spread}
use Rattle.histories.specs.Searches.{State, fresh, Reply, done, paused, Go, finds, Calls}

-- fillings of n cells in dictionary order, each once: every one comes before all behind it
abbrev pub Rising : ℕ → (ℕ → ℕ) → List (List Bool) → Type 0
Rising n cell [] = Unit {0}
Rising n cell (f ∷ fs) = ((g : List Bool) → In g fs → Before n cell f g) × Rising n cell fs

-- the finds told of a space under a rule, in so many steps: the first of the roll, in sequence, and the steps are few
pub record Listed (s : Surface) (r : Rule) (cell : ℕ → ℕ) (steps : ℕ) (fs : List (List Bool)) : Type 0 where
  pub rising : Rising (cells s.frame) cell fs
  pub members : (f : List Bool) → In f fs → Roll s r f
  -- a member that is not told comes after all that are
  pub rest : (f g : List Bool) → In f fs → Roll s r g → (In g fs → ⊥) → Before (cells s.frame) cell f g
  -- with k classes that nothing is asked of, there are at most 2 ^ (k + 1) - 2 steps
  pub few : steps + 2 ≤ 2 ^ suc (free_among (musts_in s))

-- the fillings of the cells that a search of a space's system has told
abbrev pub told_of : Surface → List (List Bool) → List (List Bool)
told_of s fs = map (spread s) fs

-- after calls that took n steps and told fs, a call with b steps answered a and took k
pub record After (s : Surface) (r : Rule) (cell : ℕ → ℕ) (n : ℕ) (fs : List (List Bool)) (b k : ℕ) (a : Reply) : Type 0 where
  pub listed : Listed s r cell (n + k) (told_of s (fs ++ finds a))
  -- done is answered only when the whole roll is told
  pub all_told : a ≡ done → (f : List Bool) → Roll s r f → In f (told_of s fs)
  -- paused is answered only with every step used, and never are more used
  pub all_used : a ≡ paused → k ≡ b
  pub none_over : k ≤ b

-- over every history of calls from an opening
abbrev pub HistoriesListed : Type 0
HistoriesListed =
    (s : Surface) (r : Rule) (cell rank : ℕ → ℕ) → TiesInside s → Orders (cells s.frame) cell rank →
    (n : ℕ) (fs : List (List Bool)) (at : State) → Calls (system_of s r cell) fresh n fs at →
    (b k : ℕ) (a : Reply) (at' : State) → Go (system_of s r cell) b at a k at' → After s r cell n fs b k a
