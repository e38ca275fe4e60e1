-- Where lines end, what a blank is, and what is left of a line without those at its end.
use Rattle.std.specs.Prelude.{ℕ, suc, Bool, cond, ◌||◌, List, [], ◌∷◌, take, drop, ◌==◌}

-- a space, a tab or a carriage return
abbrev pub blank : ℕ → Bool
blank byte = byte == 32 || (byte == 9 || byte == 13)

-- how many bytes stand before the first newline, or before the end where there is none
unfoldable pub line_length : List ℕ → ℕ
line_length [] = 0
line_length (b ∷ bs) = cond (b == 10) 0 (suc (line_length bs))

-- the first line, without its newline
abbrev pub first_line : List ℕ → List ℕ
first_line text = take (line_length text) text

-- what follows the first newline
abbrev pub next_lines : List ℕ → List ℕ
next_lines text = drop (suc (line_length text)) text

-- a byte before what is left of a line: a blank with nothing after it is dropped
abbrev pub kept_before : ℕ → List ℕ → List ℕ
kept_before b [] = cond (blank b) [] (b ∷ [])
kept_before b (c ∷ cs) = b ∷ c ∷ cs

-- a line without the blanks at its end
unfoldable pub trimmed : List ℕ → List ℕ
trimmed [] = []
trimmed (b ∷ bs) = kept_before b (trimmed bs)
