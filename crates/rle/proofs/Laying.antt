-- The runs of a pattern lie in its box, and cover just its on cells.
use Rattle.std.proofs.Common.{◌≡◌, ℕ, zero, suc, pred, ◌+◌, ◌-◌, ◌*◌, ◌/◌, ◌%◌, ◌<◌, ◌≤◌, Bool, true, false, cond, ◌&&◌, ◌||◌, eqb, ltb, leb, List, [], ◌∷◌, length, get_or, take, sym, refl, ap, ◌∙◌, subst, ⊎_elim, mul-le-mul_right, suc-mul, mul_comm, arith}
use Rattle.std.proofs.Math.Bool.{and-false, and-true, or-false, or_assoc}
use Rattle.std.proofs.lemmas.Nat.{div-mul-add, mod-mul-add, mul-add-lt}
use Rattle.std.proofs.lemmas.List.{length-take, get_or-take}
use Rattle.std.proofs.lemmas.Bool.{cases_Bool, cases_lt, cases_order, cond_both, and_from, le-leb, lt-leb, lt-ltb}
use Rattle.std.proofs.lemmas.Bool.Decides.{nat_tests}
use Rattle.rle.specs.declared.mark.Mark.{Mark}
use Rattle.rle.specs.declared.mark.Mark.TheVariants.{Off, On, NextRow}
use Rattle.rle.specs.declared.mark.Run.{Run}
use Rattle.rle.specs.Marks.{cell_mark, step_down, marks_from, pattern_marks, same_mark, join_mark, grouped}
use Rattle.rle.specs.Runs.{is_on, column_after, row_after, fitting, Inside, covers}

pub same_is : (m k : Mark) → same_mark m k ≡ true → m ≡ k
same_is Off Off e = refl
same_is Off On e = cc
same_is Off NextRow e = cc
same_is On Off e = cc
same_is On On e = refl
same_is On NextRow e = cc
same_is NextRow Off e = cc
same_is NextRow On e = cc
same_is NextRow NextRow e = refl

-- a run of one mark more is that mark, and the run from where it leads
column_more : (m : Mark) (x n : ℕ) → column_after m (column_after m x 1) n ≡ column_after m x (suc n)
column_more Off x n = omega arith
column_more On x n = omega arith
column_more NextRow x n = refl

row_more : (m : Mark) (y n : ℕ) → row_after m (row_after m y 1) n ≡ row_after m y (suc n)
row_more Off y n = refl
row_more On y n = refl
row_more NextRow y n = omega arith

fitting_more : (w h x y : ℕ) (m : Mark) (n : ℕ) → fitting w h x y m 1 ≡ true → fitting w h (column_after m x 1) (row_after m y 1) m n ≡ true → fitting w h x y m (suc n) ≡ true
fitting_more w h x y Off n e f = grind (arith, nat_tests)
fitting_more w h x y On n e f = grind (arith, nat_tests)
fitting_more w h x y NextRow n e f = grind (arith, nat_tests)

-- one mark more before runs that lie inside
join_same : (w h x y : ℕ) (m : Mark) (r : Run) (rs : List Run) → m ≡ r.mark → fitting w h x y m 1 ≡ true → Inside w h (column_after m x 1) (row_after m y 1) (r ∷ rs) → Inside w h x y (record { count = suc r.count; mark = m } ∷ rs)
join_same w h x y m r rs e f i =
    let P : Mark → Type 0 = λ k. (fitting w h (column_after m x 1) (row_after m y 1) k r.count ≡ true) × Inside w h (column_after k (column_after m x 1) r.count) (row_after k (row_after m y 1) r.count) rs in
    let j = subst P (sym e) i in (
      fitting_more w h x y m r.count f j.0,
      subst (λ c. Inside w h c (row_after m y (suc r.count)) rs) (column_more m x r.count) (subst (λ c. Inside w h (column_after m (column_after m x 1) r.count) c rs) (row_more m y r.count) j.1),
    )

pub join_inside : (w h x y : ℕ) (m : Mark) (rs : List Run) → fitting w h x y m 1 ≡ true → Inside w h (column_after m x 1) (row_after m y 1) rs → Inside w h x y (join_mark m rs)
join_inside w h x y m [] f i = (f, tt)
join_inside w h x y m (r ∷ rs) f i =
    cond_both (same_mark m r.mark) _ _ (Inside w h x y) (λ e. join_same w h x y m r rs (same_is m r.mark e) f i) (λ e. (f, i))

-- what one mark covers
abbrev here : Mark → ℕ → ℕ → ℕ → ℕ → Bool
here m x y column row = is_on m && (eqb row y && (leb x column && ltb column (x + 1)))

covers_more : (x y : ℕ) (m : Mark) (n : ℕ) (column row : ℕ) → (is_on m && (eqb row y && (leb x column && ltb column (x + suc n)))) ≡ (here m x y column row || (is_on m && (eqb row (row_after m y 1) && (leb (column_after m x 1) column && ltb column (column_after m x 1 + n)))))
covers_more x y Off n column row = refl
covers_more x y On n column row = grind (arith, nat_tests)
covers_more x y NextRow n column row = refl

join_covered : (x y : ℕ) (m : Mark) (r : Run) (rs : List Run) (column row : ℕ) → m ≡ r.mark → covers x y (record { count = suc r.count; mark = m } ∷ rs) column row ≡ (here m x y column row || covers (column_after m x 1) (row_after m y 1) (r ∷ rs) column row)
join_covered x y m r rs column row e =
    let n = r.count in
    let x₁ = column_after m x 1 in
    let y₁ = row_after m y 1 in
    let rest = covers (column_after m x₁ n) (row_after m y₁ n) rs column row in
    let there = is_on m && (eqb row y₁ && (leb x₁ column && ltb column (x₁ + n))) in
    ap (λ z. (is_on m && (eqb row y && (leb x column && ltb column (x + suc n)))) || covers z (row_after m y (suc n)) rs column row) (sym (column_more m x n))
    ∙ ap (λ z. (is_on m && (eqb row y && (leb x column && ltb column (x + suc n)))) || covers (column_after m x₁ n) z rs column row) (sym (row_more m y n))
    ∙ ap (λ z. z || rest) (covers_more x y m n column row)
    ∙ or_assoc (here m x y column row) there rest
    ∙ ap (λ k. here m x y column row || ((is_on k && (eqb row y₁ && (leb x₁ column && ltb column (x₁ + n)))) || covers (column_after k x₁ n) (row_after k y₁ n) rs column row)) e

pub join_covers : (x y : ℕ) (m : Mark) (rs : List Run) (column row : ℕ) → covers x y (join_mark m rs) column row ≡ (here m x y column row || covers (column_after m x 1) (row_after m y 1) rs column row)
join_covers x y m [] column row = refl
join_covers x y m (r ∷ rs) column row =
    cond_both (same_mark m r.mark) _ _ (λ z. covers x y z column row ≡ (here m x y column row || covers (column_after m x 1) (row_after m y 1) (r ∷ rs) column row))
    (λ e. join_covered x y m r rs column row (same_is m r.mark e)) (λ e. refl)

-- runs that begin with a step down lie and cover the same from any column
abbrev steps_by : ℕ → List Run → List Run
steps_by n rs = record { count = n; mark = NextRow } ∷ rs

down_inside : (w h x x' y : ℕ) (b : Bool) (n k : ℕ) (rs qs : List Run) → Inside w h x y (cond b (steps_by n rs) (steps_by k qs)) → Inside w h x' y (cond b (steps_by n rs) (steps_by k qs))
down_inside w h x x' y true n k rs qs i = i
down_inside w h x x' y false n k rs qs i = i

join_down : (w h x x' y : ℕ) (rs : List Run) → Inside w h x y (join_mark NextRow rs) → Inside w h x' y (join_mark NextRow rs)
join_down w h x x' y [] i = i
join_down w h x x' y (r ∷ rs) i = down_inside w h x x' y (same_mark NextRow r.mark) (suc r.count) 1 rs (r ∷ rs) i

down_covers : (x x' y : ℕ) (b : Bool) (n k : ℕ) (rs qs : List Run) (column row : ℕ) → covers x y (cond b (steps_by n rs) (steps_by k qs)) column row ≡ covers x' y (cond b (steps_by n rs) (steps_by k qs)) column row
down_covers x x' y true n k rs qs column row = refl
down_covers x x' y false n k rs qs column row = refl

join_down_covers : (x x' y : ℕ) (rs : List Run) (column row : ℕ) → covers x y (join_mark NextRow rs) column row ≡ covers x' y (join_mark NextRow rs) column row
join_down_covers x x' y [] column row = refl
join_down_covers x x' y (r ∷ rs) column row = down_covers x x' y (same_mark NextRow r.mark) (suc r.count) 1 rs (r ∷ rs) column row

-- a cell before the marks that follow
in_box : (w h x y : ℕ) → x < w → y < h → (ltb y h && leb (x + 1) w) ≡ true
in_box w h x y f g = and_from (ltb y h) (leb (x + 1) w) (lt-ltb y h g) (le-leb (x + 1) w (omega arith))

cell_inside : (w h x y : ℕ) (b : Bool) (ms : List Mark) → x < w → y < h → Inside w h (x + 1) y (grouped ms) → Inside w h x y (grouped (cell_mark b ms))
cell_inside w h x y true ms f g i = join_inside w h x y On (grouped ms) (in_box w h x y f g) i
cell_inside w h x y false [] f g i = tt
cell_inside w h x y false (NextRow ∷ ms) f g i = join_down w h (x + 1) x y (grouped ms) i
cell_inside w h x y false (Off ∷ ms) f g i = join_inside w h x y Off (grouped (Off ∷ ms)) (in_box w h x y f g) i
cell_inside w h x y false (On ∷ ms) f g i = join_inside w h x y Off (grouped (On ∷ ms)) (in_box w h x y f g) i

step_inside : (w h x y : ℕ) (ms : List Mark) → y + 1 ≤ h → Inside w h 0 (y + 1) (grouped ms) → Inside w h x y (grouped (step_down ms))
step_inside w h x y [] f i = tt
step_inside w h x y (m ∷ ms) f i = join_inside w h x y NextRow (grouped (m ∷ ms)) (le-leb (y + 1) h f) i

-- whether a cell lies at a column and a row
abbrev lies_at : ℕ → ℕ → ℕ → ℕ → Bool
lies_at x y column row = eqb row y && (leb x column && ltb column (x + 1))

cell_covers : (x y : ℕ) (b : Bool) (ms : List Mark) (column row : ℕ) → covers x y (grouped (cell_mark b ms)) column row ≡ ((b && lies_at x y column row) || covers (x + 1) y (grouped ms) column row)
cell_covers x y true ms column row = join_covers x y On (grouped ms) column row
cell_covers x y false [] column row = refl
cell_covers x y false (NextRow ∷ ms) column row = join_down_covers x (x + 1) y (grouped ms) column row
cell_covers x y false (Off ∷ ms) column row = join_covers x y Off (grouped (Off ∷ ms)) column row
cell_covers x y false (On ∷ ms) column row = join_covers x y Off (grouped (On ∷ ms)) column row

step_covers : (x y : ℕ) (ms : List Mark) (column row : ℕ) → covers x y (grouped (step_down ms)) column row ≡ covers 0 (y + 1) (grouped ms) column row
step_covers x y [] column row = refl
step_covers x y (m ∷ ms) column row = join_covers x y NextRow (grouped (m ∷ ms)) column row

pred_one : (w : ℕ) → 1 ≤ w → 1 + pred w ≡ w
pred_one zero h = absurd (omega arith)
pred_one (suc n) h = omega arith

-- rows above the end
rows_below : (w h a : ℕ) → a * w < w * h → a < h
rows_below w h a l =
    ⊎_elim (λ e. e) (λ e. absurd (omega (arith, mul-le-mul_right {m = h} {n = a} w e, mul_comm w h))) (cases_lt a h)

-- cells laid in rows of w, from a place on, make marks that lie inside
pub marks_inside : (w h x y k : ℕ) (bs : List Bool) → 1 ≤ w → x + k ≡ w → y * w + x + length bs ≤ w * h → Inside w h x y (grouped (marks_from w k bs))
marks_inside w h x y zero [] one e f = tt
marks_inside w h x y (suc k) [] one e f = tt
marks_inside w h x y zero (b ∷ bs) one e f =
    let next : suc y * w ≡ y * w + w = suc-mul y w in
    let more : y + 1 ≡ suc y = omega arith in
    let low : suc y < h = rows_below w h (suc y) (omega arith) in
    let P : ℕ → Type 0 = λ z. Inside w h 0 z (grouped (cell_mark b (marks_from w (pred w) bs))) in
    let rest = marks_inside w h 1 (suc y) (pred w) bs one (pred_one w one) (omega arith) in
    step_inside w h x y (cell_mark b (marks_from w (pred w) bs)) (omega arith) (subst P (sym more) (cell_inside w h 0 (suc y) b (marks_from w (pred w) bs) (omega arith) low rest))
marks_inside w h x y (suc k) (b ∷ bs) one e f =
    let low : y < h = rows_below w h y (omega arith) in
    cell_inside w h x y b (marks_from w k bs) (omega arith) low (marks_inside w h (x + 1) y k bs one (omega arith) (omega arith))

-- what cells from a place on have at a place
abbrev laid : ℕ → List Bool → ℕ → Bool
laid from bs at = leb from at && get_or bs (at - from) false

no_cells : (from at : ℕ) → laid from [] at ≡ false
no_cells from at = and-false (leb from at)

-- a cell lies at one place only
place_of : (w x y column row : ℕ) → x < w → column < w → y * w + x ≡ row * w + column → (row ≡ y) × (column ≡ x)
place_of w x y column row f g e = (
  sym (div-mul-add row w column g) ∙ ap (λ z. z / w) (sym e) ∙ div-mul-add y w x f,
  sym (mod-mul-add row w column g) ∙ ap (λ z. z % w) (sym e) ∙ mod-mul-add y w x f,
)

lies_there : (x y column row : ℕ) → lies_at x y column row ≡ true → (row ≡ y) × (column ≡ x)
lies_there x y column row e = (grind (arith, nat_tests), grind (arith, nat_tests))

lies_here : (x y column row : ℕ) → row ≡ y → column ≡ x → lies_at x y column row ≡ true
lies_here x y column row e f = grind (arith, nat_tests)

-- not at another place
lies_not : (w x y column row : ℕ) → (y * w + x ≡ row * w + column → ⊥) → lies_at x y column row ≡ false
lies_not w x y column row other =
    ⊎_elim
    (λ e. let p = lies_there x y column row e in absurd (other (ap (λ z. z * w + x) (sym p.0) ∙ ap (λ z. row * w + z) (sym p.1))))
    (λ e. e)
    (cases_Bool (lies_at x y column row))

further : (b : Bool) (bs : List Bool) (from at : ℕ) → from < at → get_or (b ∷ bs) (at - from) false ≡ get_or bs (at - (from + 1)) false
further b bs from at h = let e : at - from ≡ suc (at - (from + 1)) = omega arith in ap (λ z. get_or (b ∷ bs) z false) e

cell_laid : (w x y column row : ℕ) (b : Bool) (bs : List Bool) → x < w → column < w → ((b && lies_at x y column row) || laid (y * w + x + 1) bs (row * w + column)) ≡ laid (y * w + x) (b ∷ bs) (row * w + column)
cell_laid w x y column row b bs f g =
    let from : ℕ = y * w + x in
    let at : ℕ = row * w + column in
    ⊎_elim
    (λ e.
    let p = place_of w x y column row f g e in
    let none : at - from ≡ 0 = omega arith in
    ap (λ z. (b && z) || laid (from + 1) bs at) (lies_here x y column row p.0 p.1)
    ∙ ap (λ z. (b && true) || (z && get_or bs (at - (from + 1)) false)) (lt-leb (from + 1) at (omega arith))
    ∙ or-false (b && true)
    ∙ and-true b
    ∙ sym (ap (λ z. z && get_or (b ∷ bs) (at - from) false) (le-leb from at (omega arith)) ∙ ap (λ z. get_or (b ∷ bs) z false) none))
    (⊎_elim
    (λ l.
    ap (λ z. (b && z) || laid (from + 1) bs at) (lies_not w x y column row (λ e. omega arith))
    ∙ ap (λ z. z || laid (from + 1) bs at) (and-false b)
    ∙ ap (λ z. z && get_or bs (at - (from + 1)) false) (le-leb (from + 1) at (omega arith))
    ∙ sym (ap (λ z. z && get_or (b ∷ bs) (at - from) false) (le-leb from at (omega arith)) ∙ further b bs from at l))
    (λ l.
    ap (λ z. (b && z) || laid (from + 1) bs at) (lies_not w x y column row (λ e. omega arith))
    ∙ ap (λ z. z || laid (from + 1) bs at) (and-false b)
    ∙ ap (λ z. z && get_or bs (at - (from + 1)) false) (lt-leb (from + 1) at (omega arith))
    ∙ sym (ap (λ z. z && get_or (b ∷ bs) (at - from) false) (lt-leb from at (omega arith)))))
    (cases_order from at)

-- the marks cover just the on cells
pub marks_cover : (w x y k : ℕ) (bs : List Bool) (column row : ℕ) → 1 ≤ w → x + k ≡ w → column < w → covers x y (grouped (marks_from w k bs)) column row ≡ laid (y * w + x) bs (row * w + column)
marks_cover w x y zero [] column row one e g = sym (no_cells (y * w + x) (row * w + column))
marks_cover w x y (suc k) [] column row one e g = sym (no_cells (y * w + x) (row * w + column))
marks_cover w x y zero (b ∷ bs) column row one e g =
    let ms = marks_from w (pred w) bs in
    let next : suc y * w ≡ y * w + w = suc-mul y w in
    let more : y + 1 ≡ suc y = omega arith in
    let from : suc y * w + 0 ≡ y * w + x = omega arith in
    let on : suc y * w + 1 ≡ suc y * w + 0 + 1 = omega arith in
    step_covers x y (cell_mark b ms) column row
    ∙ ap (λ z. covers 0 z (grouped (cell_mark b ms)) column row) more
    ∙ cell_covers 0 (suc y) b ms column row
    ∙ ap (λ z. (b && lies_at 0 (suc y) column row) || z) (marks_cover w 1 (suc y) (pred w) bs column row one (pred_one w one) g ∙ ap (λ z. laid z bs (row * w + column)) on)
    ∙ cell_laid w 0 (suc y) column row b bs (omega arith) g
    ∙ ap (λ z. laid z (b ∷ bs) (row * w + column)) from
marks_cover w x y (suc k) (b ∷ bs) column row one e g =
    let ms = marks_from w k bs in
    let on : y * w + (x + 1) ≡ y * w + x + 1 = omega arith in
    cell_covers x y b ms column row
    ∙ ap (λ z. (b && lies_at x y column row) || z) (marks_cover w (x + 1) y k bs column row one (omega arith) g ∙ ap (λ z. laid z bs (row * w + column)) on)
    ∙ cell_laid w x y column row b bs (omega arith) g

-- of a whole pattern
pub pattern_inside : (w h : ℕ) (cells : List Bool) → 1 ≤ w → Inside w h 0 0 (grouped (pattern_marks w h cells))
pattern_inside w h cells one = marks_inside w h 0 0 w (take (w * h) cells) one (omega arith) (omega (arith, length-take (w * h) cells))

pub pattern_covers : (w h : ℕ) (cells : List Bool) (column row : ℕ) → 1 ≤ w → column < w → row < h → covers 0 0 (grouped (pattern_marks w h cells)) column row ≡ get_or cells (row * w + column) false
pattern_covers w h cells column row one f g =
    let at : ℕ = row * w + column in
    let inside : at < w * h = mul-add-lt row w column h g f in
    marks_cover w 0 0 w (take (w * h) cells) column row one (omega arith) f
    ∙ ap (λ z. z && get_or (take (w * h) cells) (at - (0 * w + 0)) false) (le-leb (0 * w + 0) at (omega arith))
    ∙ ap (λ z. get_or (take (w * h) cells) z false) (omega arith)
    ∙ get_or-take (w * h) cells at false inside
