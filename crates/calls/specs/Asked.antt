-- The calls of a search in the words of what spaces and orders say.
use Rattle.std.specs.Prelude.{ℕ}
use Rattle.frames.specs.declared.frame.Cell.{Cell}
use Rattle.frames.specs.declared.frame.Frame.{Frame}
use Rattle.planes.specs.Meaning.{Meaning}
use Rattle.planes.specs.declared.tie.Tie.{Tie}
use Rattle.rules.specs.declared.rule.Rule.{Rule}
use Rattle.rolls.specs.Rolls.{Surface, surface}
use Rattle.calls.specs.declared.call.Call.{Call}
use Rattle.calls.specs.declared.call.Call.TheVariants as calling

-- to open a search on a surface, a rule and the cells by rank; to go by so many steps; to read a cell; to write into the page from a place on; to tell the tally
pub data Asked : Type 0 where
  to_open : Surface → Rule → (ℕ → ℕ) → Asked
  to_go : ℕ → Asked
  to_read : Cell → Asked
  to_write : ℕ → Asked
  to_count : Asked

-- what a call asks, where spaces mean, have rows and tie so, and orders rank so
abbrev pub asked : {S O : Type 0} → (S → Meaning) → (S → ℕ) → (S → ℕ → ℕ → Tie) → (O → Frame → ℕ → ℕ) → Call S O → Asked
asked means count tied ranks (calling.Open o) = to_open (surface (means o.space.now) (count o.space.now) (tied o.space.now)) o.rule.now (ranks o.order.now (means o.space.now).frame)
asked means count tied ranks (calling.Go steps) = to_go steps
asked means count tied ranks (calling.Cell cell) = to_read cell
asked means count tied ranks (calling.Write at) = to_write at
asked means count tied ranks calling.Tally = to_count
