-- Lines and columns.
use Rattle.std.specs.Prelude.{ℕ, ◌+◌, ◌-◌, cond, List, [], ◌∷◌, length, take, ◌==◌}

-- a line and a column, both from 1
pub record Spot : Type 0 where
  pub line : ℕ
  pub column : ℕ

-- where the first byte of a text stands
abbrev pub corner : Spot
corner = record { line = 1; column = 1 }

-- where the byte after this one stands: a newline ends its line
abbrev pub next_spot : Spot → ℕ → Spot
next_spot s b = cond (b == 10) (record { line = s.line + 1; column = 1 }) (record { line = s.line; column = s.column + 1 })

-- where the byte after some bytes stands
unfoldable pub spot_past : Spot → List ℕ → Spot
spot_past s [] = s
spot_past s (b ∷ bs) = spot_past (next_spot s b) bs

-- where the byte at a place of a text stands
abbrev pub spot_at : List ℕ → ℕ → Spot
spot_at text at = spot_past corner (take at text)

-- where the first of the last bytes of a text stands
abbrev pub spot_before : List ℕ → List ℕ → Spot
spot_before text rest = spot_at text (length text - length rest)
