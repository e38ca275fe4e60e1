-- Which cell the runs cover, run by run, with places that stop at the last number.
use Rattle.std.proofs.Common.{◌≡◌, ℕ, ◌+◌, ◌<◌, min, Bool, true, false, ◌&&◌, ◌||◌, ◌==◌, List, length, get_or, drop, nat_le, nat_lt, inl, inr, sym, ap, ◌∙◌, refl, add-one, arith, drop-cons}
use Rattle.std.proofs.lemmas.Bool.{cases_lt, ne_eqb, lt-leb}
use Rattle.rle.specs.Runs.{covers, is_on, column_after, row_after}
use Rattle.rle.specs.declared.mark.Mark.{Mark}
use Rattle.rle.specs.declared.mark.Mark.TheVariants.{Off, On, NextRow}
use Rattle.rle.specs.declared.mark.Run.{Run}

-- the last number of a place
abbrev pub top : ℕ
top = 18446744073709551615

-- how far the runs are laid: from a column and a row on, which may have stopped at the last number
pub record Reached (runs : List Run) (column row i x y : ℕ) : Type 0 where
  pub far_x : ℕ
  pub far_y : ℕ
  pub x_is : x ≡ min far_x top
  pub y_is : y ≡ min far_y top
  pub rest : covers far_x far_y (drop i runs) column row ≡ covers 0 0 runs column row

pub start : (runs : List Run) (column row : ℕ) → Reached runs column row 0 0 0
start runs column row = record { far_x = 0; far_y = 0; x_is = omega arith; y_is = omega arith; rest = refl }

-- whether a run that starts at a place covers a cell
abbrev pub over : Run → ℕ → ℕ → ℕ → ℕ → Bool
over r x y column row = is_on r.mark && (row == y && (nat_le x column && nat_lt column (x + r.count)))

same_row : (y far row : ℕ) → y ≡ min far top → row < 1024 → (row == y) ≡ (row == far)
same_row y far row e h =
    elim (cases_lt far top) [
      | inl less ↦ ap (λ n. row == n) (omega (arith, e))
      | inr more ↦ ne_eqb row y (λ k. absurd (omega (arith, e, k))) ∙ sym (ne_eqb row far (λ k. absurd (omega (arith, k))))
    ]

same_column : (x far n column : ℕ) → x ≡ min far top → column < 1024 → (nat_le x column && nat_lt column (x + n)) ≡ (nat_le far column && nat_lt column (far + n))
same_column x far n column e h =
    elim (cases_lt far top) [
      | inl less ↦ ap (λ k. nat_le k column && nat_lt column (k + n)) (omega (arith, e))
      | inr more ↦ ap (λ b. b && nat_lt column (x + n)) (lt-leb x column (omega (arith, e))) ∙ sym (ap (λ b. b && nat_lt column (far + n)) (lt-leb far column (omega arith)))
    ]

-- a place that has stopped covers what the place that has not does
pub over_far : (r : Run) (x y far_x far_y column row : ℕ) → x ≡ min far_x top → y ≡ min far_y top → column < 1024 → row < 1024 → over r x y column row ≡ over r far_x far_y column row
over_far r x y far_x far_y column row ex ey hc hr = (λ i. is_on r.mark && (same_row y far_y row ey hr i && same_column x far_x r.count column ex hc i))

-- the rest of the runs, with one taken out
cover_next : (runs : List Run) (d : Run) (i x y column row : ℕ) → i < length runs → covers x y (drop i runs) column row ≡ (over (get_or runs i d) x y column row || covers (column_after (get_or runs i d).mark x (get_or runs i d).count) (row_after (get_or runs i d).mark y (get_or runs i d).count) (drop (i + 1) runs) column row)
cover_next runs d i x y column row h =
    ap (λ l. covers x y l column row) (drop-cons runs i d h)
    ∙ ap (λ n. over (get_or runs i d) x y column row || covers (column_after (get_or runs i d).mark x (get_or runs i d).count) (row_after (get_or runs i d).mark y (get_or runs i d).count) (drop n runs) column row) (sym (add-one i))

-- the place after a run, where the one before it may have stopped
after_x : (m : Mark) (x far n : ℕ) → x ≡ min far top → min (column_after m x n) top ≡ min (column_after m far n) top
after_x Off x far n e = omega (arith, e)
after_x On x far n e = omega (arith, e)
after_x NextRow x far n e = refl

after_y : (m : Mark) (y far n : ℕ) → y ≡ min far top → min (row_after m y n) top ≡ min (row_after m far n) top
after_y Off y far n e = omega (arith, e)
after_y On y far n e = omega (arith, e)
after_y NextRow y far n e = omega (arith, e)

module _ (runs : List Run) (column row i x y : ℕ) (d : Run) (at : Reached runs column row i x y) (h : i < length runs) (hc : column < 1024) (hr : row < 1024) where
  -- a run that covers the cell is found
  pub found : (hit : Bool) → hit ≡ over (get_or runs i d) x y column row → hit ≡ true → true ≡ covers 0 0 runs column row
  found hit e here =
      let r = get_or runs i d in
      let far : over r at.far_x at.far_y column row ≡ true = sym (over_far r x y at.far_x at.far_y column row at.x_is at.y_is hc hr) ∙ sym e ∙ here in
      sym (ap (λ b. b || covers (column_after r.mark at.far_x r.count) (row_after r.mark at.far_y r.count) (drop (i + 1) runs) column row) far) ∙ sym (cover_next runs d i at.far_x at.far_y column row h) ∙ at.rest

  -- and one that does not is passed
  pub passed : (hit : Bool) (new_x new_y : ℕ) → hit ≡ over (get_or runs i d) x y column row → hit ≡ false → new_x ≡ min (column_after (get_or runs i d).mark x (get_or runs i d).count) top → new_y ≡ min (row_after (get_or runs i d).mark y (get_or runs i d).count) top → Reached runs column row (i + 1) new_x new_y
  passed hit new_x new_y e here ex ey =
      let r = get_or runs i d in
      let far : over r at.far_x at.far_y column row ≡ false = sym (over_far r x y at.far_x at.far_y column row at.x_is at.y_is hc hr) ∙ sym e ∙ here in record {
        far_x = column_after r.mark at.far_x r.count;
        far_y = row_after r.mark at.far_y r.count;
        x_is = ex ∙ after_x r.mark x at.far_x r.count at.x_is;
        y_is = ey ∙ after_y r.mark y at.far_y r.count at.y_is;
        rest = sym (ap (λ b. b || covers (column_after r.mark at.far_x r.count) (row_after r.mark at.far_y r.count) (drop (i + 1) runs) column row) far) ∙ sym (cover_next runs d i at.far_x at.far_y column row h) ∙ at.rest;
      }
