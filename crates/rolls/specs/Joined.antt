-- Cells that chains of ties ask to be the same.
use Rattle.std.specs.Prelude.{◌≡◌, ℕ, ◌<◌}
use Rattle.frames.specs.Frames.{cells}
use Rattle.planes.specs.declared.tie.Tie.TheVariants.{Same}
use Rattle.rolls.specs.Rolls.{Surface}

-- two cells are joined by a chain of ties, each taken either way
pub data Joined (s : Surface) : ℕ → ℕ → Type 0 where
  alone : {a : ℕ} → Joined s a a
  tied : {a b row : ℕ} → row < s.rows → a < cells s.frame → s.tie row a ≡ Same b → Joined s a b
  turned : {a b : ℕ} → Joined s a b → Joined s b a
  chained : {a b c : ℕ} → Joined s a b → Joined s b c → Joined s a c
