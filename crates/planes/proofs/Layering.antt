-- What a layer asks, and what it asks once a cell more is fixed.
use Rattle.std.proofs.Common.{◌≡◌, ◌==◌, ℕ, ◌+◌, ◌*◌, ◌<◌, ◌≤◌, Bool, true, false, cond, ◌&&◌, List, length, Option, Some, None, Ok, Err, Result, OnOk, nat_lt, sym, refl, ap, subst, ◌∙◌, ⊎_elim, arith}
use Rattle.std.proofs.lemmas.Bool.{cond-true, cond-false, lt-ltb, le-ltb, ltb-true, ne_eqb, eq-eqb, and_from, and_left, and_right, and_parts, cases_eq, cases_lt}
use Rattle.frames.specs.declared.frame.Cell.{Cell}
use Rattle.frames.specs.declared.frame.Frame.{Frame}
use Rattle.frames.specs.Frames.{cells, cell_number, number_at}
use Rattle.frames.specs.Radix.{joined, joined_below, last_first}
use Rattle.planes.specs.declared.fault.FixFault.{FixFault}
use Rattle.planes.specs.declared.fault.FixFault.TheVariants.{Full}
use Rattle.planes.specs.declared.pins.Pin.{Pin}
use Rattle.planes.specs.declared.tie.Tie.{Tie}
use Rattle.planes.specs.declared.tie.Tie.TheVariants.{Free, Off, On, Same}
use Rattle.planes.specs.Fixes.{AsksToo}
use Rattle.planes.specs.Layering.{FixAsks, LayerRight}
use Rattle.planes.specs.Layers.{layered, one_more}
use Rattle.planes.specs.Pins.{fixed_cell, fixed_number, holding, own_tie, pinned, pinned_too}
use Rattle.planes.proofs.Fixing.{asks_too}

module _ (rows : ℕ) (below : ℕ → ℕ → Tie) (own : ℕ → Tie) where
  under : (row cell : ℕ) → row < rows → layered rows below own row cell ≡ below row cell
  under row cell h = cond-true (nat_lt row rows) _ _ (lt-ltb row rows h)

  past : (row cell : ℕ) → rows ≤ row → (row == rows && nat_lt row 1000) ≡ false → layered rows below own row cell ≡ Free
  past row cell h e = cond-false (nat_lt row rows) _ _ (le-ltb row rows h) ∙ cond-false (row == rows && nat_lt row 1000) _ _ e

  its_own : rows < 1000 → (cell : ℕ) → layered rows below own rows cell ≡ own cell
  its_own h cell = cond-false (nat_lt rows rows) _ _ (le-ltb rows rows (omega arith)) ∙ cond-true (rows == rows && nat_lt rows 1000) _ _ (and_from _ _ (eq-eqb rows rows refl) (lt-ltb rows 1000 h))

  few : rows < 1000 → one_more rows ≡ rows + 1
  few h = cond-true (nat_lt rows 1000) _ _ (lt-ltb rows 1000 h)

  many : 1000 ≤ rows → one_more rows ≡ rows
  many h = cond-false (nat_lt rows 1000) _ _ (le-ltb rows 1000 h)

  beyond : (row cell : ℕ) → one_more rows ≤ row → layered rows below own row cell ≡ Free
  beyond row cell h =
      ⊎_elim
      (λ l. let e : one_more rows ≡ rows + 1 = few l in past row cell (omega arith) (and_left (row == rows) (nat_lt row 1000) (ne_eqb row rows (λ d. omega arith))))
      (λ l. let e : one_more rows ≡ rows = many l in past row cell (omega arith) (and_right (row == rows) (nat_lt row 1000) (le-ltb row 1000 (omega arith))))
      (cases_lt rows 1000)

  pub layer_right : LayerRight rows below own (one_more rows) (layered rows below own)
  layer_right = record { as_below = under; one_row_more = few; its_own = its_own; no_row_more = many; beyond = beyond }

  -- rows that ask the same of a cell are the same layer there
  same_row : (own' : ℕ → Tie) (row cell : ℕ) → (row ≡ rows → own' cell ≡ own cell) → layered rows below own' row cell ≡ layered rows below own row cell
  same_row own' row cell h =
      ⊎_elim
      (λ e. ap (λ t. cond (nat_lt row rows) (below row cell) (cond (row == rows && nat_lt row 1000) t Free)) (h e))
      (λ d. ap (λ b. cond (nat_lt row rows) (below row cell) (cond b (own' cell) Free)) (and_left (row == rows) (nat_lt row 1000) (ne_eqb row rows d))
      ∙ sym (ap (λ b. cond (nat_lt row rows) (below row cell) (cond b (own cell) Free)) (and_left (row == rows) (nat_lt row 1000) (ne_eqb row rows d))))
      (cases_eq row rows)

-- a cell's number is below the number of cells
chosen : (b : Bool) (m n : ℕ) → cond b (Some m) None ≡ Some n → (b ≡ true) × (m ≡ n)
chosen true m n e = (refl, cc)
chosen false m n e = absurd (cc)

numbered_below : (f : Frame) (c : Cell) (n : ℕ) → number_at f c ≡ Some n → n < cells f
numbered_below f c n e =
    let k : ((nat_lt c.x f.width && nat_lt c.y f.height && nat_lt c.t f.period) ≡ true) × (cell_number f c.x c.y c.t ≡ n) = chosen _ _ n e in
    let tests = and_parts (nat_lt c.x f.width && nat_lt c.y f.height) (nat_lt c.t f.period) k.0 in
    let places = and_parts (nat_lt c.x f.width) (nat_lt c.y f.height) tests.0 in
    let less : joined f.height f.width c.t c.y c.x < f.period * f.height * f.width = joined_below f.period f.height f.width c.t c.y c.x (ltb-true c.t f.period tests.1) (ltb-true c.y f.height places.1) (ltb-true c.x f.width places.0) in
    subst (λ m. m < cells f) k.1 (subst (λ m. joined f.height f.width c.t c.y c.x < m) (last_first f.width f.height f.period) less)

-- the pins after a fix that is granted ask as they are to
taken : (b : Bool) (ps after : List Pin) → ◌≡◌ {A = Result (List Pin) FixFault} (Ok after) (cond b (Ok ps) (Err Full)) → ps ≡ after
taken true ps after e = cc
taken false ps after e = absurd (cc)

granted_too : (pins after : List Pin) (cell : ℕ) (on : Bool) (t : Tie) → pinned pins cell ≡ t → ◌≡◌ {A = Result (List Pin) FixFault} (Ok after) (pinned_too pins cell on t) → AsksToo pins after cell on
granted_too pins after cell on Free free e = subst (λ ps. AsksToo pins ps cell on) (taken (nat_lt (length pins) 64) _ after e) (asks_too pins cell on free)
granted_too pins after cell on Off free e = absurd (cc)
granted_too pins after cell on On free e = absurd (cc)
granted_too pins after cell on (Same other) free e = absurd (cc)

granted_number : (pins after : List Pin) (on : Bool) (o : Option ℕ) → ◌≡◌ {A = Result (List Pin) FixFault} (Ok after) (fixed_number pins on o) → (cell : ℕ) × (o ≡ Some cell) × AsksToo pins after cell on
granted_number pins after on None e = absurd (cc)
granted_number pins after on (Some cell) e = (cell, refl, granted_too pins after cell on (pinned pins cell) refl e)

-- what the layer asks once a fix is granted
module _ (f : Frame) (rows : ℕ) (below : ℕ → ℕ → Tie) (pins after : List Pin) (x y t : ℕ) (on : Bool) where
  pub fix_asks : ◌≡◌ {A = Result (List Pin) FixFault} (Ok after) (fixed_cell f pins x y t on) → FixAsks f rows x y t on (layered rows below (own_tie f pins)) (layered rows below (own_tie f after))
  fix_asks e =
      let g = granted_number pins after on (number_at f (record { x = x; y = y; t = t })) e in
      let less : g.0 < cells f = numbered_below f _ g.0 g.1 in
      record {
        cell = g.0;
        number = g.1;
        asked = λ h. its_own rows below (own_tie f after) h g.0 ∙ cond-true (nat_lt g.0 (cells f)) _ _ (lt-ltb g.0 (cells f) less) ∙ g.2.asked;
        others = λ row c h. same_row rows below (own_tie f pins) (own_tie f after) row c (λ r. ap (λ asks. cond (nat_lt c (cells f)) asks Free) (g.2.others c (λ d. h (r, d))));
      }

  -- the same, of the answer that a fix gives
  pub fix_answers : (r : Result (Unit {0}) FixFault) → holding after r ≡ fixed_cell f pins x y t on → OnOk r (FixAsks f rows x y t on (layered rows below (own_tie f pins)) (layered rows below (own_tie f after)))
  fix_answers (Ok u) e = fix_asks e
  fix_answers (Err w) e = tt
