-- The marks of rows below one another: a row apart from those below it, and the steps down to the next on cell.
use Rattle.std.proofs.Common.{◌≡◌, ℕ, zero, suc, ◌+◌, ◌-◌, ◌*◌, ◌/◌, ◌<◌, ◌≤◌, min, Bool, true, false, List, [], ◌∷◌, ◌++◌, length, take, drop, replicate, sym, refl, ap, ◌∙◌, subst, ⊎_elim, suc-mul, add-one, arith, length-drop, length-take}
use Rattle.std.proofs.lemmas.List.{take_all, drop_all, drop-drop, take_rest}
use Rattle.std.proofs.lemmas.Nat.{div-add-mod', mod_below}
use Rattle.std.proofs.lemmas.Bool.{cases_lt}
use Rattle.rle.specs.declared.mark.Mark.{Mark}
use Rattle.rle.specs.declared.mark.Mark.TheVariants.{Off, On, NextRow}
use Rattle.rle.specs.Marks.{cell_mark, marks_from, step_down}
use Rattle.texts.specs.Marks.{lead, row_marks, marks_left, begins_with}
use Rattle.texts.proofs.Leads.{lead_take, lead_front, lead_drop, row_off, row_some, row_on, below_other, first_on}

pub no_marks : (w k : ℕ) (bs : List Bool) → lead false bs ≡ length bs → marks_from w k bs ≡ []
no_marks w k [] e = refl
no_marks w zero (false ∷ bs) e = ap (λ l. step_down (cell_mark false l)) (no_marks w _ bs (omega arith))
no_marks w (suc k) (false ∷ bs) e = ap (cell_mark false) (no_marks w k bs (omega arith))
no_marks w zero (true ∷ bs) e = absurd (omega arith)
no_marks w (suc k) (true ∷ bs) e = absurd (omega arith)

pub row_apart : (w k : ℕ) (bs : List Bool) → marks_from w k bs ≡ row_marks (take k bs) (marks_from w 0 (drop k bs))
row_apart w zero bs = refl
row_apart w (suc k) [] = refl
row_apart w (suc k) (b ∷ bs) = ap (cell_mark b) (row_apart w k bs)

first_step : (w : ℕ) (bs : List Bool) → 1 ≤ w → marks_from w 0 bs ≡ step_down (marks_from w w bs)
first_step zero bs h = absurd (omega arith)
first_step (suc v) [] h = refl
first_step (suc v) (b ∷ bs) h = refl

step_some : (n : ℕ) (ms : List Mark) → step_down (replicate n Off ++ (On ∷ ms)) ≡ NextRow ∷ (replicate n Off ++ (On ∷ ms))
step_some zero ms = refl
step_some (suc n) ms = refl

some_other : (n : ℕ) (ms : List Mark) → begins_with NextRow (replicate n Off ++ (On ∷ ms)) ≡ false
some_other zero ms = refl
some_other (suc n) ms = refl

-- the next row has an on cell
down_one : (w : ℕ) (bs : List Bool) → 1 ≤ w → lead false bs < w → lead false bs < length bs → (marks_from w 0 bs ≡ NextRow ∷ marks_from w w bs) × (begins_with NextRow (marks_from w w bs) ≡ false)
down_one w bs one near some =
    let same = lead_take false bs w near in
    let found = row_some (take w bs) (marks_from w 0 (drop w bs)) (omega (arith, length-take w bs)) in
    let is : marks_from w w bs ≡ replicate (lead false (take w bs)) Off ++ (On ∷ found.0) = row_apart w w bs ∙ found.2 in (
      first_step w bs one ∙ ap step_down is ∙ step_some (lead false (take w bs)) found.0 ∙ ap (λ l. NextRow ∷ l) (sym is),
      ap (begins_with NextRow) is ∙ some_other (lead false (take w bs)) found.0,
    )

-- q rows have none, and the row after them has one
pub down : (w q s : ℕ) (bs : List Bool) → 1 ≤ w → s ≡ q * w → s ≤ lead false bs → lead false bs < s + w → lead false bs < length bs → (marks_from w 0 bs ≡ replicate (suc q) NextRow ++ marks_from w w (drop s bs)) × (begins_with NextRow (marks_from w w (drop s bs)) ≡ false)
down w zero s bs one is low high some =
    let none : s ≡ 0 = omega arith in
    let P : ℕ → Type 0 = λ n. (marks_from w 0 bs ≡ replicate 1 NextRow ++ marks_from w w (drop n bs)) × (begins_with NextRow (marks_from w w (drop n bs)) ≡ false) in
    subst P (sym none) (down_one w bs one (omega arith) some)
down w (suc q) s bs one is low high some =
    let more : s ≡ q * w + w = is ∙ suc-mul q w in
    let short = lead_drop false bs w (omega arith) in
    let next = down w q (s - w) (drop w bs) one (omega arith) (omega arith) (omega arith) (omega (arith, length-drop w bs)) in
    let at : drop (s - w) (drop w bs) ≡ drop s bs = drop-drop (s - w) w bs ∙ ap (λ n. drop n bs) (omega arith) in
    let this : marks_from w 0 bs ≡ step_down (marks_from w 0 (drop w bs)) = first_step w bs one ∙ ap step_down (row_apart w w bs ∙ row_off w (take w bs) (drop w bs) (lead_front false bs w (omega arith))) in (
      this ∙ ap step_down next.0 ∙ ap (λ l. replicate (suc (suc q)) NextRow ++ marks_from w w l) at,
      ap (λ l. begins_with NextRow (marks_from w w l)) (sym at) ∙ next.1,
    )

-- a row cut off where it ends, or where the cells end before
cut_short : (w m : ℕ) (bs : List Bool) → m ≡ min w (length bs) → (take m bs ≡ take w bs) × (drop m bs ≡ drop w bs)
cut_short w m bs e =
    ⊎_elim
    (λ l. let is : m ≡ w = omega arith in (ap (λ n. take n bs) is, ap (λ n. drop n bs) is))
    (λ l. let is : m ≡ length bs = omega arith in (take_all m bs (omega arith) ∙ sym (take_all w bs l), drop_all m bs (omega arith) ∙ sym (drop_all w bs l)))
    (cases_lt w (length bs))

row_cut : (w m : ℕ) (cells line below : List Bool) → m ≡ min w (length cells) → line ≡ take m cells → below ≡ drop m cells → marks_left w line below ≡ marks_from w w cells
row_cut w m cells line below e l b =
    let cut = cut_short w m cells e in
    ap (λ xs. marks_left w xs below) (l ∙ cut.0)
    ∙ ap (marks_left w (take w cells)) (b ∙ cut.1)
    ∙ sym (row_apart w w cells)

pub first_cut : (w n m e : ℕ) (ps cells line below : List Bool) → m ≡ min (length ps) n → cells ≡ take m ps → e ≡ min w (length cells) → line ≡ take e cells → below ≡ drop e cells → marks_left w line below ≡ marks_from w w (take n ps)
first_cut w n m e ps cells line below em ec ee l b =
    row_cut w e cells line below ee l b ∙ ap (marks_from w w) (ec ∙ (cut_short n m ps (omega arith)).0)

-- what each run leaves, in the words of the code

pub gives_down : (w g m : ℕ) (line bs rows line2 below : List Bool) → 1 ≤ w → lead false line ≡ length line → g ≡ lead false bs → g < length bs → rows ≡ drop (g / w * w) bs → m ≡ min w (length rows) → line2 ≡ take m rows → below ≡ drop m rows → let new : List Mark = marks_left w line2 below in (1 ≤ g / w + 1) × (marks_left w line bs ≡ replicate (g / w + 1) NextRow ++ new) × (begins_with NextRow new ≡ false)
gives_down w g m line bs rows line2 below one off is some at cut l b =
    let s : ℕ = g / w * w in
    let parts = div-add-mod' g w in
    let rest = mod_below g w one in
    let found = down w (g / w) s bs one refl (omega arith) (omega arith) (omega arith) in
    let new = row_cut w m rows line2 below cut l b ∙ ap (marks_from w w) at in (
      omega arith,
      row_off w line bs off ∙ found.0 ∙ ap (λ n. replicate n NextRow ++ marks_from w w (drop s bs)) (sym (add-one (g / w))) ∙ ap (λ l. replicate (g / w + 1) NextRow ++ l) (sym new),
      ap (begins_with NextRow) new ∙ found.1,
    )

pub gives_off : (w n : ℕ) (line below : List Bool) → n ≡ lead false line → 0 < n → n < length line → let new : List Mark = marks_left w (take (length line - n) (drop n line)) below in (1 ≤ n) × (marks_left w line below ≡ replicate n Off ++ new) × (begins_with Off new ≡ false)
gives_off w n line below is one some =
    let found = row_some line (marks_from w 0 below) (omega arith) in
    let at : take (length line - n) (drop n line) ≡ drop (lead false line) line = take_rest line n ∙ ap (λ k. drop k line) is in
    let new : marks_left w (take (length line - n) (drop n line)) below ≡ On ∷ found.0 = ap (λ l. marks_left w l below) at ∙ found.1 in (
      one,
      found.2 ∙ ap (λ k. replicate k Off ++ (On ∷ found.0)) (sym is) ∙ ap (λ l. replicate n Off ++ l) (sym new),
      ap (begins_with Off) new,
    )

pub gives_on : (w n : ℕ) (line below : List Bool) → n ≡ lead true line → lead false line ≡ 0 → 0 < length line → let new : List Mark = marks_left w (take (length line - n) (drop n line)) below in (1 ≤ n) × (marks_left w line below ≡ replicate n On ++ new) × (begins_with On new ≡ false)
gives_on w n line below is none some =
    let found = row_on line (marks_from w 0 below) (below_other w below) in
    let at : take (length line - n) (drop n line) ≡ drop (lead true line) line = take_rest line n ∙ ap (λ k. drop k line) is in
    let new : marks_left w (take (length line - n) (drop n line)) below ≡ marks_left w (drop (lead true line) line) below = ap (λ l. marks_left w l below) at in (
      omega (arith, first_on line none some),
      found.0 ∙ ap (λ k. replicate k On ++ marks_left w (drop (lead true line) line) below) (sym is) ∙ ap (λ l. replicate n On ++ l) (sym new),
      ap (begins_with On) new ∙ found.1,
    )
