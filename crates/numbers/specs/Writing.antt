-- What it means that a text stands at the front of a tail.
use Rattle.std.specs.Prelude.{◌≡◌, ℕ, ◌<◌, ◌≤◌, List, ◌++◌, length, drop, Some, None, Option}

-- the text stands at the front and the rest is as it was, or the tail is too short for it and is as it was
abbrev pub Written : List ℕ → List ℕ → List ℕ → Option ℕ → Type 0
Written text old new (Some n) = (n ≡ length text) × (n ≤ length old) × (new ≡ text ++ drop n old)
Written text old new None = (length old < length text) × (new ≡ old)
