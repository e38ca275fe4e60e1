-- The marks that a cursor over a pattern has yet to hand out, and the runs at their front.
use Rattle.std.specs.Prelude.{◌≡◌, ℕ, suc, ◌≤◌, Bool, false, cond, List, [], ◌∷◌, ◌++◌, replicate, Some, None, Option}
use Rattle.std.specs.Bool.{beq}
use Rattle.rle.specs.declared.mark.Mark.{Mark}
use Rattle.rle.specs.declared.mark.Run.{Run}
use Rattle.rle.specs.Marks.{cell_mark, marks_from, same_mark}
use Rattle.texts.specs.declared.mark.Runs.{Runs}

-- the marks of what is left of a row, before those of the rows below
abbrev pub row_marks : List Bool → List Mark → List Mark
row_marks [] ms = ms
row_marks (b ∷ bs) ms = cell_mark b (row_marks bs ms)

abbrev pub marks_left : ℕ → List Bool → List Bool → List Mark
marks_left w line below = row_marks line (marks_from w 0 below)

-- the marks that a cursor has yet to hand out
abbrev pub left : Runs → List Mark
left r = marks_left r.width r.line.now r.below.now

-- how many cells at the front are v
abbrev pub lead : Bool → List Bool → ℕ
lead v [] = 0
lead v (b ∷ bs) = cond (beq b v) (suc (lead v bs)) 0

abbrev pub begins_with : Mark → List Mark → Bool
begins_with m [] = false
begins_with m (n ∷ ms) = same_mark m n

-- the longest run at the front of the marks, and what it leaves; none where there are no marks
abbrev pub Gives : List Mark → List Mark → Option Run → Type 0
Gives old new None = old ≡ []
Gives old new (Some r) = (1 ≤ r.count) × (old ≡ replicate r.count r.mark ++ new) × (begins_with r.mark new ≡ false)
