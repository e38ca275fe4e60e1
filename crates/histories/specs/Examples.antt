-- Worked examples of searches: what calls of go answer, one after another from an opening.
use Rattle.std.specs.Prelude.{ℕ, Bool, List, [], ◌∷◌}
use Rattle.rules.specs.declared.rule.Rule.{Rule}
use Rattle.rolls.specs.Rolls.{Surface}
use Rattle.rolls.specs.Examples.{plainly, around_torus, two_by_two, one_cell, leaping_cell, life, crowded, barren, O, b}
use Rattle.orders.specs.Orders.{rows_cell}
use Rattle.systems.specs.Spaces.{system_of, spread}
use Rattle.histories.specs.Searches.{State, fresh, Reply, tells_find, done, paused, Go}

-- what a call says: the filling of the cells that it tells, that it is done, or that it pauses, each with its steps
pub data Said : Type 0 where
  says_found : List Bool → ℕ → Said
  says_done : ℕ → Said
  says_paused : ℕ → Said

abbrev pub said_of : Surface → Reply → ℕ → Said
said_of s (tells_find f) steps = says_found (spread s f) steps
said_of s done steps = says_done steps
said_of s paused steps = says_paused steps

-- calls of so many steps each, one after another from a state, in the order of rows, say so
pub data Answers (s : Surface) (r : Rule) (steps : ℕ) : State → List Said → Type 0 where
  no_more_calls : {at : State} → Answers s r steps at []
  and_then : {at at' : State} {a : Reply} {k : ℕ} {said : List Said} → Go (system_of s r (rows_cell s.frame)) steps at a k at' → Answers s r steps at' said → Answers s r steps at (said_of s a k ∷ said)

pub record SearchesWorked : Type 0 where
  -- still lifes of B3/S23 in a box of two by two: the empty box after 2 steps and the block after 6 more
  pub block : Answers (plainly two_by_two) life 1000000 fresh (says_found (b ∷ b ∷ b ∷ b ∷ []) 2 ∷ says_found (O ∷ O ∷ O ∷ O ∷ []) 6 ∷ says_done 0 ∷ [])
  -- a torus of one cell, a step at a time: under B3/S23 only the empty one; done is answered again
  pub lone_cell : Answers (around_torus one_cell) life 1 fresh (says_found (b ∷ []) 1 ∷ says_done 1 ∷ says_done 0 ∷ [])
  -- under B3/S8 the cell may be on: it is its own neighbour eight times
  pub crowded_cell : Answers (around_torus one_cell) crowded 1000000 fresh (says_found (b ∷ []) 1 ∷ says_found (O ∷ []) 1 ∷ says_done 0 ∷ [])
  -- under a rule without births and survivals nothing leaps two columns: all is forced at once
  pub no_leap : Answers (plainly leaping_cell) barren 1000000 fresh (says_found (b ∷ []) 0 ∷ says_done 0 ∷ [])
