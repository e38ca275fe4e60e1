-- The text of a pattern: the heading, the runs and the end.
use Rattle.std.specs.Prelude.{ℕ, Bool, cond, List, [], ◌∷◌, ◌++◌, codes, decimal, ◌==◌}
use Rattle.std.specs.List.{flat_map}
use Rattle.rle.specs.declared.mark.Mark.{Mark}
use Rattle.rle.specs.declared.mark.Run.{Run}
use Rattle.rle.specs.Marks.{grouped, pattern_marks}
use Rattle.rle.specs.Runs.{letter_of}

-- a count of 1 is left out
abbrev pub count_text : ℕ → List ℕ
count_text n = cond (n == 1) [] (decimal n)

abbrev pub run_text : Run → List ℕ
run_text r = count_text r.count ++ (letter_of r.mark ∷ [])

-- the runs of the marks, then ! and a newline
abbrev pub body_text : List Mark → List ℕ
body_text ms = flat_map run_text (grouped ms) ++ (33 ∷ 10 ∷ [])

-- x = w, y = h, rule = name, and a newline
abbrev pub heading_text : ℕ → ℕ → List ℕ → List ℕ
heading_text w h name = codes "x = " ++ decimal w ++ codes ", y = " ++ decimal h ++ codes ", rule = " ++ name ++ (10 ∷ [])

abbrev pub pattern_text : ℕ → ℕ → List ℕ → List Bool → List ℕ
pattern_text w h name cells = heading_text w h name ++ body_text (pattern_marks w h cells)
