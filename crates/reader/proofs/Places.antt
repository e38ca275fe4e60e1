-- Lines and columns go on from byte to byte, and never pass the number of bytes.
use Rattle.std.proofs.Common.{◌≡◌, ℕ, suc, ◌+◌, ◌-◌, ◌<◌, ◌≤◌, eqb, List, [], ◌∷◌, ◌++◌, length, get_or, take, drop, sym, ap, ◌∙◌, ⊎_elim, add-zero, arith, length-take, length-drop}
use Rattle.std.proofs.lemmas.List.{take_more, take-take, drop-take, take-append-drop, length-take-le}
use Rattle.lines.specs.Lines.{line_length, first_line}
use Rattle.lines.proofs.Ends.{line_within}
use Rattle.std.proofs.lemmas.Bool.{cases_Bool, cond-true, cond-false, eq-eqb, ne_eqb}
use Rattle.rle.specs.Spots.{Spot, corner, next_spot, spot_past, spot_at, spot_before}
use Rattle.rle.proofs.Places.{spot_append}
use Rattle.reader.specs.declared.reader.Reader.{Reader}
use Rattle.reader.specs.Left.{left}

-- the spot after one byte more
pub spot_more : (t : List ℕ) (i : ℕ) → i < length t → spot_at t (i + 1) ≡ next_spot (spot_at t i) (get_or t i 0)
unfolding spot_past
spot_more t i h = ap (spot_past corner) (take_more t i 0 h) ∙ spot_append corner (take i t) (get_or t i 0 ∷ [])

pub spot_newline : (t : List ℕ) (i : ℕ) → i < length t → get_or t i 0 ≡ 10 → spot_at t (i + 1) ≡ record { line = (spot_at t i).line + 1; column = 1 }
spot_newline t i h is = spot_more t i h ∙ cond-true (eqb (get_or t i 0) 10) _ _ (eq-eqb (get_or t i 0) 10 is)

pub spot_byte : (t : List ℕ) (i : ℕ) → i < length t → (get_or t i 0 ≡ 10 → ⊥) → spot_at t (i + 1) ≡ record { line = (spot_at t i).line; column = (spot_at t i).column + 1 }
spot_byte t i h other = spot_more t i h ∙ cond-false (eqb (get_or t i 0) 10) _ _ (ne_eqb (get_or t i 0) 10 other)

next_line : (s : Spot) (b : ℕ) → (next_spot s b).line ≤ s.line + 1
next_line s b = ⊎_elim (λ e. rw e (omega arith)) (λ e. rw e (omega arith)) (cases_Bool (eqb b 10))

next_column : (s : Spot) (b : ℕ) → (next_spot s b).column ≤ s.column + 1
next_column s b = ⊎_elim (λ e. rw e (omega arith)) (λ e. rw e (omega arith)) (cases_Bool (eqb b 10))

line_most : (s : Spot) (bs : List ℕ) → (spot_past s bs).line ≤ s.line + length bs
unfolding spot_past
line_most s [] = omega arith
line_most s (b ∷ bs) = omega (arith, line_most (next_spot s b) bs, next_line s b)

column_most : (s : Spot) (bs : List ℕ) → (spot_past s bs).column ≤ s.column + length bs
unfolding spot_past
column_most s [] = omega arith
column_most s (b ∷ bs) = omega (arith, column_most (next_spot s b) bs, next_column s b)

pub line_bound : (t : List ℕ) (i : ℕ) → (spot_at t i).line ≤ i + 1
line_bound t i = omega (arith, line_most corner (take i t), length-take i t)

pub column_bound : (t : List ℕ) (i : ℕ) → (spot_at t i).column ≤ i + 1
column_bound t i = omega (arith, column_most corner (take i t), length-take i t)

take_add : (m n : ℕ) (t : List ℕ) → take (m + n) t ≡ take m t ++ take n (drop m t)
take_add m n t =
    sym (take-append-drop m (take (m + n) t))
    ∙ ap (λ l. l ++ drop m (take (m + n) t)) (take-take m (m + n) t (omega arith))
    ∙ ap (λ l. take m t ++ l) (drop-take m n t)

abbrev at : Spot → ℕ → Spot
at s n = record { line = s.line; column = n }

-- in one line only the column goes on
line_spot : (s : Spot) (t : List ℕ) → spot_past s (first_line t) ≡ record { line = s.line; column = s.column + line_length t }
unfolding spot_past line_length
line_spot s [] = ap (at s) (sym (add-zero s.column))
line_spot s (b ∷ bs) =
    let next : Spot = record { line = s.line; column = s.column + 1 } in
    let sum : next.column + line_length bs ≡ s.column + suc (line_length bs) = omega arith in
    ⊎_elim
    (λ e. rw e (ap (at s) (sym (add-zero s.column))))
    (λ e. let same : next_spot s b ≡ next = cond-false (eqb b 10) _ _ e in rw e (ap (λ (z : Spot). spot_past z (first_line bs)) same ∙ line_spot next bs ∙ ap (at s) sum))
    (cases_Bool (eqb b 10))

pub spot_line : (t : List ℕ) (i : ℕ) → spot_at t (i + line_length (drop i t)) ≡ record { line = (spot_at t i).line; column = (spot_at t i).column + line_length (drop i t) }
spot_line t i = ap (spot_past corner) (take_add i (line_length (drop i t)) t) ∙ spot_append corner (take i t) (first_line (drop i t)) ∙ line_spot (spot_at t i) (drop i t)

pub length_line : (t : List ℕ) → length (first_line t) ≡ line_length t
length_line t = length-take-le (line_length t) t (line_within t)

-- a reader stands where the bytes that are left start
here : (text : List ℕ) (r : Reader) → r.text.now ≡ text → spot_before text (left r) ≡ spot_at r.text.now r.at
here text r same =
    let place : length r.text.now - length (left r) ≡ r.at = omega (arith, length-drop r.at r.text.now, r.within) in
    ap (λ t. spot_before t (left r)) (sym same) ∙ ap (spot_at r.text.now) place

pub here_spot : (text : List ℕ) (r : Reader) → r.text.now ≡ text → record { line = r.line; column = r.column } ≡ spot_before text (left r)
here_spot text r same =
    ap (λ n. record { line = n; column = r.column }) (sym r.lined) ∙ ap (λ n. record { line = (spot_at r.text.now r.at).line; column = n }) (sym r.columned) ∙ sym (here text r same)
