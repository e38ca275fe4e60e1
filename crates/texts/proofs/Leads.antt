-- The cells at the front of a row that are alike, and the marks that they make.
use Rattle.std.proofs.Common.{◌≡◌, ℕ, zero, suc, ◌+◌, ◌<◌, ◌≤◌, Bool, true, false, List, [], ◌∷◌, ◌++◌, length, take, drop, replicate, sym, refl, ap, ◌∙◌, arith}
use mathlib.Core.Bool.{beq}
use Rattle.std.specs.Prelude.{slice_index_or}
use Rattle.std.proofs.lemmas.Bool.{cond-true, cond-false}
use Rattle.rle.specs.declared.mark.Mark.{Mark}
use Rattle.rle.specs.declared.mark.Mark.TheVariants.{Off, On, NextRow}
use Rattle.rle.specs.Marks.{cell_mark, marks_from, step_down}
use Rattle.texts.specs.Marks.{lead, row_marks, begins_with}

-- the first n cells are v, and the next is not
pub record Leads (v : Bool) (bs : List Bool) (n : ℕ) : Type 0 where
  pub within : n ≤ length bs
  pub same : (k : ℕ) → k < n → beq (slice_index_or bs k false) v ≡ true
  pub stops : n < length bs → beq (slice_index_or bs n false) v ≡ false

pub lead_is : (v : Bool) (bs : List Bool) (n : ℕ) → Leads v bs n → n ≡ lead v bs
lead_is v [] n found = omega (arith, found.within)
lead_is v (b ∷ bs) zero found = sym (cond-false (beq b v) (suc (lead v bs)) 0 (found.stops (omega arith)))
lead_is v (b ∷ bs) (suc n) found =
    let more : Leads v bs n = record {
      within = omega (arith, found.within);
      same = λ k below. found.same (suc k) (omega arith);
      stops = λ left. found.stops (omega arith);
    } in
    ap suc (lead_is v bs n more) ∙ sym (cond-true (beq b v) (suc (lead v bs)) 0 (found.same 0 (omega arith)))

-- a front of the cells, and what it leaves

pub lead_take : (v : Bool) (bs : List Bool) (n : ℕ) → lead v bs < n → lead v (take n bs) ≡ lead v bs
lead_take v [] zero h = refl
lead_take v [] (suc n) h = refl
lead_take v (b ∷ bs) zero h = absurd (omega arith)
lead_take true (true ∷ bs) (suc n) h = ap suc (lead_take true bs n (omega arith))
lead_take true (false ∷ bs) (suc n) h = refl
lead_take false (true ∷ bs) (suc n) h = refl
lead_take false (false ∷ bs) (suc n) h = ap suc (lead_take false bs n (omega arith))

pub lead_front : (v : Bool) (bs : List Bool) (n : ℕ) → n ≤ lead v bs → lead v (take n bs) ≡ length (take n bs)
lead_front v [] zero h = refl
lead_front v [] (suc n) h = refl
lead_front v (b ∷ bs) zero h = refl
lead_front true (true ∷ bs) (suc n) h = ap suc (lead_front true bs n (omega arith))
lead_front true (false ∷ bs) (suc n) h = absurd (omega arith)
lead_front false (true ∷ bs) (suc n) h = absurd (omega arith)
lead_front false (false ∷ bs) (suc n) h = ap suc (lead_front false bs n (omega arith))

pub lead_drop : (v : Bool) (bs : List Bool) (n : ℕ) → n ≤ lead v bs → lead v (drop n bs) + n ≡ lead v bs
lead_drop v bs zero h = omega arith
lead_drop v [] (suc n) h = absurd (omega arith)
lead_drop true (true ∷ bs) (suc n) h = omega (arith, lead_drop true bs n (omega arith))
lead_drop true (false ∷ bs) (suc n) h = absurd (omega arith)
lead_drop false (true ∷ bs) (suc n) h = absurd (omega arith)
lead_drop false (false ∷ bs) (suc n) h = omega (arith, lead_drop false bs n (omega arith))

-- the marks of a row that has no on cell, or some, or begins with some

step_quiet : (ms : List Mark) → cell_mark false (step_down ms) ≡ step_down ms
step_quiet [] = refl
step_quiet (m ∷ ms) = refl

below_quiet : (w : ℕ) (bs : List Bool) → cell_mark false (marks_from w 0 bs) ≡ marks_from w 0 bs
below_quiet w [] = refl
below_quiet w (b ∷ bs) = step_quiet _

pub row_off : (w : ℕ) (bs below : List Bool) → lead false bs ≡ length bs → row_marks bs (marks_from w 0 below) ≡ marks_from w 0 below
row_off w [] below e = refl
row_off w (true ∷ bs) below e = absurd (omega arith)
row_off w (false ∷ bs) below e = ap (cell_mark false) (row_off w bs below (omega arith)) ∙ below_quiet w below

off_before : (n : ℕ) (ms : List Mark) → cell_mark false (replicate n Off ++ (On ∷ ms)) ≡ Off ∷ (replicate n Off ++ (On ∷ ms))
off_before zero ms = refl
off_before (suc n) ms = refl

pub row_some : (bs : List Bool) (ms : List Mark) → lead false bs < length bs → (rest : List Mark) × (row_marks (drop (lead false bs) bs) ms ≡ On ∷ rest) × (row_marks bs ms ≡ replicate (lead false bs) Off ++ (On ∷ rest))
row_some [] ms h = absurd (omega arith)
row_some (true ∷ bs) ms h = (row_marks bs ms, refl, refl)
row_some (false ∷ bs) ms h =
    let more = row_some bs ms (omega arith) in
    (more.0, more.1, ap (cell_mark false) more.2 ∙ off_before (lead false bs) more.0)

off_other : (ms : List Mark) → begins_with On (cell_mark false ms) ≡ false
off_other [] = refl
off_other (Off ∷ ms) = refl
off_other (On ∷ ms) = refl
off_other (NextRow ∷ ms) = refl

pub below_other : (w : ℕ) (bs : List Bool) → begins_with On (marks_from w 0 bs) ≡ false
below_other w bs = ap (begins_with On) (sym (below_quiet w bs)) ∙ off_other (marks_from w 0 bs)

pub row_on : (bs : List Bool) (ms : List Mark) → begins_with On ms ≡ false → (row_marks bs ms ≡ replicate (lead true bs) On ++ row_marks (drop (lead true bs) bs) ms) × (begins_with On (row_marks (drop (lead true bs) bs) ms) ≡ false)
row_on [] ms e = (refl, e)
row_on (true ∷ bs) ms e = let more = row_on bs ms e in (ap (λ l. On ∷ l) more.0, more.1)
row_on (false ∷ bs) ms e = (refl, off_other (row_marks bs ms))

pub first_on : (bs : List Bool) → lead false bs ≡ 0 → 0 < length bs → 1 ≤ lead true bs
first_on [] e h = absurd (omega arith)
first_on (true ∷ bs) e h = omega arith
first_on (false ∷ bs) e h = absurd (omega arith)
