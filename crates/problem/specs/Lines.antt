-- The lines of a text.
use Rattle.std.specs.Prelude.{◌≡◌, ℕ, ◌<◌, Bool, true, cond, not, ◌⊎◌, List, [], ◌∷◌, ◌++◌, length, map, Some, None, Option, ◌==◌}
use Rattle.std.specs.List.{onto_first}
use Rattle.lines.specs.Lines.{blank, trimmed}

-- the bytes cut at each newline; what follows the last one is one line more if it is not empty
unfoldable pub cut_lines : List ℕ → List (List ℕ)
cut_lines [] = []
cut_lines (b ∷ bs) = cond (b == 10) ([] ∷ cut_lines bs) (onto_first b (cut_lines bs))

-- the same, each without the blanks at its end
abbrev pub lines_in : List ℕ → List (List ℕ)
lines_in text = map trimmed (cut_lines text)

-- the first line, if there is one
abbrev pub first : List (List ℕ) → Option (List ℕ)
first [] = None
first (l ∷ ls) = Some l

-- the lines after the first
abbrev pub others : List (List ℕ) → List (List ℕ)
others [] = []
others (l ∷ ls) = ls

-- every byte passes a test
abbrev pub Each : (ℕ → Bool) → List ℕ → Type 0
Each test [] = Unit {0}
Each test (b ∷ bs) = (test b ≡ true) × Each test bs

-- a byte that ends no line
abbrev pub on_line : ℕ → Bool
on_line b = not (b == 10)

-- a line without a newline, and without a blank at its end
pub record Bare (line : List ℕ) : Type 0 where
  pub one : Each on_line line
  pub solid : trimmed line ≡ line

-- how lines stand in a text: each with any number of blanks after it, and then a newline, which may be missing at the end of the text
abbrev pub Stand : List (List ℕ) → List ℕ → Type 0
Stand [] text = text ≡ []
Stand (l ∷ ls) text =
    Bare l × (gap : List ℕ) × Each blank gap
    × (((rest : List ℕ) × (text ≡ l ++ (gap ++ (10 ∷ rest))) × Stand ls rest) ⊎ ((text ≡ l ++ gap) × (0 < length text) × (ls ≡ [])))
