-- Where a line ends and what is left of it, byte by byte.
use Rattle.std.specs.Prelude.{◌≡◌, ℕ, ◌+◌, ◌-◌, ◌<◌, ◌≤◌, true, false, List, length, take, drop, Some, None, Option, ◌≢◌, slice_index}
use Rattle.std.specs.Borrow.{Bor}
use Rattle.lines.specs.Lines.{blank}

-- a line that goes from `at` to `end`: a newline stands there, or the text ends, and none stands between
pub record LineEnd (text : List ℕ) (at end : ℕ) : Type 0 where
  pub on : at ≤ end
  pub within : at ≤ length text → end ≤ length text
  pub none : (k : ℕ) → at ≤ k → k < end → slice_index text k ≢ 10
  pub stops : end < length text → slice_index text end ≡ 10

-- the first `end` bytes of a line are left: from there on blanks, before it none
pub record Trimmed (line : List ℕ) (end : ℕ) : Type 0 where
  pub within : end ≤ length line
  pub blanks : (k : ℕ) → end ≤ k → k < length line → blank (slice_index line k) ≡ true
  pub solid : 0 < end → blank (slice_index line (end - 1)) ≡ false

-- the first line of what was left, without the blanks at its end, and what follows its newline; none where nothing was left
abbrev pub NextLine : List ℕ → List ℕ → Option (Bor (List ℕ)) → Type 0
NextLine old new (Some line) = (end : ℕ) × (len : ℕ) × LineEnd old 0 end × Trimmed (take end old) len × (line.now ≡ take len (take end old)) × (new ≡ drop (end + 1) old)
NextLine old new None = (length old ≡ 0) × (new ≡ old)
