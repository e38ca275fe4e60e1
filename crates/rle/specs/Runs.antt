-- Where runs lie: the letters of marks, and the columns and rows that a run goes on to.
use Rattle.std.specs.Prelude.{◌≡◌, ℕ, ◌+◌, Bool, true, false, ◌&&◌, ◌||◌, List, [], ◌∷◌, ◌==◌, nat_le, nat_lt}
use Rattle.rle.specs.declared.mark.Mark.{Mark}
use Rattle.rle.specs.declared.mark.Mark.TheVariants.{Off, On, NextRow}
use Rattle.rle.specs.declared.mark.Run.{Run}

-- b off, o on, $ next row
abbrev pub letter_of : Mark → ℕ
letter_of Off = 98
letter_of On = 111
letter_of NextRow = 36

abbrev pub is_on : Mark → Bool
is_on Off = false
is_on On = true
is_on NextRow = false

-- the column after a run of n marks from column x on
abbrev pub column_after : Mark → ℕ → ℕ → ℕ
column_after Off x n = x + n
column_after On x n = x + n
column_after NextRow x n = 0

-- the row after a run of n marks from row y on
abbrev pub row_after : Mark → ℕ → ℕ → ℕ
row_after Off y n = y
row_after On y n = y
row_after NextRow y n = y + n

-- whether such a run stays in a box of w columns and h rows: cells lie in the box, and a step down may come to the row below the last
abbrev pub fitting : ℕ → ℕ → ℕ → ℕ → Mark → ℕ → Bool
fitting w h x y Off n = nat_lt y h && nat_le (x + n) w
fitting w h x y On n = nat_lt y h && nat_le (x + n) w
fitting w h x y NextRow n = nat_le (y + n) h

-- runs laid from column x and row y on stay in the box
abbrev pub Inside : ℕ → ℕ → ℕ → ℕ → List Run → Type 0
Inside w h x y [] = Unit {0}
Inside w h x y (r ∷ rs) = (fitting w h x y r.mark r.count ≡ true) × Inside w h (column_after r.mark x r.count) (row_after r.mark y r.count) rs

-- whether an `o` run covers the cell at a column and a row, with the runs laid from column x and row y on
abbrev pub covers : ℕ → ℕ → List Run → ℕ → ℕ → Bool
covers x y [] column row = false
covers x y (r ∷ rs) column row =
    (is_on r.mark && (row == y && (nat_le x column && nat_lt column (x + r.count))))
    || covers (column_after r.mark x r.count) (row_after r.mark y r.count) rs column row
