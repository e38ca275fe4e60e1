-- A line's length, and what is left of a line without blanks, as functions of its bytes compute them.
use Rattle.std.proofs.Common.{◌≡◌, ℕ, zero, suc, ◌+◌, ◌-◌, ◌<◌, ◌≤◌, List, [], ◌∷◌, length, get_or, take, drop, eqb, ◌≢◌, slice_index, sym, refl, ap, subst, ◌∙◌, ⊎_elim, length-drop, arith}
use Rattle.std.proofs.lemmas.List.{drop_all, get_or-drop}
use Rattle.std.proofs.lemmas.Bool.{cases_Bool, cases_lt, cond-false, cond-true, eq-eqb, eqb-false, eqb-true, ne_eqb}
use Rattle.lines.specs.Ends.{LineEnd, Trimmed}
use Rattle.lines.specs.Lines.{blank, line_length, kept_before, trimmed}

-- the end of a line is its length
pub line_is : (t : List ℕ) (n : ℕ) → LineEnd t 0 n → n ≡ line_length t
unfolding line_length
line_is [] n e = omega (arith, e.within)
line_is (b ∷ bs) zero e = sym (cond-true _ _ _ (eq-eqb b 10 (e.stops (omega arith))))
line_is (b ∷ bs) (suc n) e =
    let more : LineEnd bs 0 n = record {
      on = omega arith;
      within = λ h. omega (arith, e.within);
      none = λ k low high. e.none (suc k) (omega arith) (omega arith);
      stops = λ h. e.stops (omega arith);
    } in
    ap suc (line_is bs n more) ∙ sym (cond-false _ _ _ (ne_eqb b 10 (e.none 0 (omega arith) (omega arith))))

-- a line in what is left from a place on is a line from there
pub line_from : (t : List ℕ) (at n : ℕ) → at ≤ length t → LineEnd (drop at t) 0 n → LineEnd t at (at + n)
line_from t at n low e = record {
  on = omega arith;
  within = λ h. omega (arith, e.within, length-drop at t);
  none = λ k from below. let there : at + (k - at) ≡ k = omega arith in λ newline. e.none (k - at) (omega arith) (omega arith) (get_or-drop at t (k - at) 0 ∙ ap (λ i. get_or t i 0) there ∙ newline);
  stops = λ more. sym (get_or-drop at t n 0) ∙ e.stops (omega (arith, length-drop at t));
}

-- and from a place past the end the line goes no further
pub line_past : (t : List ℕ) (at : ℕ) → length t < at → LineEnd t at at × (line_length (drop at t) ≡ 0)
unfolding line_length
line_past t at past = (
  record {
    on = omega arith;
    within = λ h. omega arith;
    none = λ k from below. absurd (omega arith);
    stops = λ more. absurd (omega arith);
  },
  ap line_length (drop_all at t (omega arith)),
)

-- what is left of a line are its first bytes
pub trimmed_is : (l : List ℕ) (n : ℕ) → Trimmed l n → take n l ≡ trimmed l
unfolding trimmed
trimmed_is [] zero e = refl
trimmed_is [] (suc n) e = absurd (omega (arith, e.within))
trimmed_is (b ∷ bs) zero e =
    let none : Trimmed bs 0 = record { within = omega arith; blanks = λ k low high. e.blanks (suc k) (omega arith) (omega arith); solid = λ some. absurd (omega arith) } in
    sym (ap (kept_before b) (sym (trimmed_is bs 0 none)) ∙ cond-true (blank b) [] (b ∷ []) (e.blanks 0 (omega arith) (omega arith)))
trimmed_is (b ∷ bs) (suc zero) e =
    let none : Trimmed bs 0 = record { within = omega arith; blanks = λ k low high. e.blanks (suc k) (omega arith) (omega arith); solid = λ some. absurd (omega arith) } in
    sym (ap (kept_before b) (sym (trimmed_is bs 0 none)) ∙ cond-false (blank b) [] (b ∷ []) (e.solid (omega arith)))
trimmed_is (b ∷ []) (suc (suc n)) e = absurd (omega (arith, e.within))
trimmed_is (b ∷ c ∷ cs) (suc (suc n)) e =
    let last : suc n - 1 ≡ n = omega arith in
    let before : suc (suc n) - 1 ≡ suc n = omega arith in
    let more : Trimmed (c ∷ cs) (suc n) = record { within = omega (arith, e.within); blanks = λ k low high. e.blanks (suc k) (omega arith) (omega arith); solid = λ some. ap (λ i. blank (get_or (c ∷ cs) i 0)) last ∙ ap (λ i. blank (get_or (b ∷ c ∷ cs) i 0)) (sym before) ∙ e.solid (omega arith) } in
    ap (kept_before b) (trimmed_is (c ∷ cs) (suc n) more)

-- a line is no longer than its text
pub line_within : (t : List ℕ) → line_length t ≤ length t
unfolding line_length
line_within [] = omega arith
line_within (b ∷ bs) =
    ⊎_elim
    (λ e. rw e (omega arith))
    (λ e. rw e (omega (arith, line_within bs)))
    (cases_Bool (eqb b 10))

-- no newline stands before the end of a line whose first byte is none
pub none_before : (b : ℕ) (bs : List ℕ) (n : ℕ) → b ≢ 10 → LineEnd bs 0 n → (k : ℕ) → k < suc n → slice_index (b ∷ bs) k ≢ 10
none_before b bs n other rest zero below = other
none_before b bs n other rest (suc k) below = rest.none k (omega arith) (omega arith)

-- the length of a line is its end
pub line_ends : (t : List ℕ) → LineEnd t 0 (line_length t)
unfolding line_length
line_ends [] = record {
  on = omega arith;
  within = λ h. omega arith;
  none = λ k low high. absurd (omega arith);
  stops = λ h. absurd (omega arith);
}
line_ends (b ∷ bs) =
    ⊎_elim
    (λ e. rw e (record {
      on = omega arith;
      within = λ h. omega arith;
      none = λ k low high. absurd (omega arith);
      stops = λ h. eqb-true b 10 e;
    }))
    (λ e. rw e (record {
      on = omega arith;
      within = λ h. omega (arith, (line_ends bs).within);
      none = λ k low high. none_before b bs (line_length bs) (eqb-false b 10 e) (line_ends bs) k high;
      stops = λ h. (line_ends bs).stops (omega arith);
    }))
    (cases_Bool (eqb b 10))

-- the same from a place on
pub ends_from : (t : List ℕ) (at : ℕ) → LineEnd t at (at + line_length (drop at t))
ends_from t at =
    ⊎_elim
    (λ past. let p = line_past t at past in subst (λ n. LineEnd t at n) (omega (arith, p.1)) p.0)
    (λ low. line_from t at (line_length (drop at t)) low (line_ends (drop at t)))
    (cases_lt (length t) at)
