-- Decisions, and where a choice may stand.
use Rattle.std.specs.Prelude.{◌≡◌, ℕ, ◌<◌, ◌≤◌, false}
use Rattle.search.specs.declared.standing.Decision.{Decision}
use Rattle.search.specs.declared.standing.Standing.{Standing}
use Rattle.search.specs.declared.standing.Standing.TheVariants.{Choice}

-- the decision off for rank 0 with nothing on the trail: what is read past the last decision
abbrev pub first : Decision
first = record { rank = 0; on = false; mark = 0 }

-- a choice stands at a rank from low to high - 1
abbrev pub ChoiceFrom : ℕ → ℕ → Standing → Type 0
ChoiceFrom low high s = (r : ℕ) → s ≡ Choice r → (low ≤ r) × (r < high)
