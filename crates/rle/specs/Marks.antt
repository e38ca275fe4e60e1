-- The marks of a pattern, and the runs that they make.
use Rattle.std.specs.Prelude.{ℕ, zero, suc, pred, ◌*◌, Bool, true, false, cond, List, [], ◌∷◌, take}
use Rattle.rle.specs.declared.mark.Mark.{Mark}
use Rattle.rle.specs.declared.mark.Mark.TheVariants.{Off, On, NextRow}
use Rattle.rle.specs.declared.mark.Run.{Run}

-- a cell before the marks that follow: an off cell is marked only if its row goes on
abbrev pub cell_mark : Bool → List Mark → List Mark
cell_mark true ms = On ∷ ms
cell_mark false [] = []
cell_mark false (NextRow ∷ ms) = NextRow ∷ ms
cell_mark false (Off ∷ ms) = Off ∷ Off ∷ ms
cell_mark false (On ∷ ms) = Off ∷ On ∷ ms

-- a step down before the marks that follow, if any do
abbrev pub step_down : List Mark → List Mark
step_down [] = []
step_down (m ∷ ms) = NextRow ∷ m ∷ ms

-- the marks of cells in rows of w, where this row has k cells more
abbrev pub marks_from : ℕ → ℕ → List Bool → List Mark
marks_from w k [] = []
marks_from w zero (b ∷ bs) = step_down (cell_mark b (marks_from w (pred w) bs))
marks_from w (suc k) (b ∷ bs) = cell_mark b (marks_from w k bs)

-- the marks of a pattern of w columns and h rows; cells beyond its end count as off
abbrev pub pattern_marks : ℕ → ℕ → List Bool → List Mark
pattern_marks w h cells = marks_from w w (take (w * h) cells)

abbrev pub same_mark : Mark → Mark → Bool
same_mark Off Off = true
same_mark Off On = false
same_mark Off NextRow = false
same_mark On Off = false
same_mark On On = true
same_mark On NextRow = false
same_mark NextRow Off = false
same_mark NextRow On = false
same_mark NextRow NextRow = true

-- one mark more before some runs
abbrev pub join_mark : Mark → List Run → List Run
join_mark m [] = record { count = 1; mark = m } ∷ []
join_mark m (r ∷ rs) = cond (same_mark m r.mark) (record { count = suc r.count; mark = m } ∷ rs) (record { count = 1; mark = m } ∷ r ∷ rs)

-- the runs of marks: equal neighbours are one run
abbrev pub grouped : List Mark → List Run
grouped [] = []
grouped (m ∷ ms) = join_mark m (grouped ms)
