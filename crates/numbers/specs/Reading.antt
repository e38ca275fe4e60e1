-- Which number a row of digits stands for.
use Rattle.std.specs.Prelude.{◌≡◌, ℕ, ◌+◌, ◌-◌, ◌*◌, ◌^◌, ◌<◌, ◌≤◌, List, Some, None, decimal, Option, ◌≢◌}

-- the number whose decimal digits the bytes are, or nothing where they are those of no number of 64 bits
abbrev pub Reads : List ℕ → Option ℕ → Type 0
Reads bytes (Some n) = decimal n ≡ bytes
Reads bytes None = (n : ℕ) → n < 2 ^ 64 → decimal n ≢ bytes

-- n with the digit c at its end, or nothing where c is no digit or the number has more than 64 bits
abbrev pub Longer : ℕ → ℕ → Option ℕ → Type 0
Longer n c (Some m) = (48 ≤ c) × (c ≤ 57) × (m ≡ n * 10 + (c - 48)) × (m < 2 ^ 64)
Longer n c None = 48 ≤ c → c ≤ 57 → 2 ^ 64 ≤ n * 10 + (c - 48)
