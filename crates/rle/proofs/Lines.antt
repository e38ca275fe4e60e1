-- Lines: where they end, and what is left of one without the blanks at its end.
use Rattle.std.proofs.Common.{◌≡◌, ℕ, suc, Bool, true, false, eqb, ◌⊎◌, List, [], ◌∷◌, ◌++◌, length, take, drop, sym, refl, ap, ◌∙◌, subst, inl, inr, ⊎_elim}
use Rattle.std.proofs.Math.Seq.{take-append_seam, drop-append_seam}
use Rattle.std.proofs.lemmas.Bool.{cases_Bool, cond-true, cond-false, eqb-true, not_from_false, not-true}
use Rattle.lines.specs.Lines.{blank, line_length, first_line, kept_before, trimmed}
use Rattle.rle.specs.declared.fault.ReadCause.TheVariants.{Ended}
use Rattle.rle.specs.Forms.{Each, on_line}
use Rattle.rle.specs.Scans.{good, bad, this_byte, past}
use Rattle.rle.specs.Items.{line_over}
use Rattle.rle.proofs.Pasts.{past_first, past_stop}

line_on : (b : ℕ) (t : List ℕ) → eqb b 10 ≡ false → line_length (b ∷ t) ≡ suc (line_length t)
unfolding line_length
line_on b t e = cond-false (eqb b 10) _ _ e

line_stop : (b : ℕ) (t : List ℕ) → eqb b 10 ≡ true → line_length (b ∷ t) ≡ 0
unfolding line_length
line_stop b t e = cond-true (eqb b 10) _ _ e

-- the length of a line that a newline ends
pub line_of : (l v : List ℕ) → Each on_line l → line_length (l ++ (10 ∷ v)) ≡ length l
line_of [] v h = line_stop 10 v refl
line_of (b ∷ l) v h = line_on b (l ++ (10 ∷ v)) (not-true (eqb b 10) h.0) ∙ ap suc (line_of l v h.1)

pub first_of : (l v : List ℕ) → Each on_line l → first_line (l ++ (10 ∷ v)) ≡ l
first_of l v h = ap (λ n. take n (l ++ (10 ∷ v))) (line_of l v h) ∙ take-append_seam l (10 ∷ v)

pub over_of : (l v : List ℕ) → Each on_line l → line_over (l ++ (10 ∷ v)) ≡ good tt v
over_of l v h = ap (λ n. this_byte 10 (drop n (l ++ (10 ∷ v)))) (line_of l v h) ∙ ap (this_byte 10) (drop-append_seam l (10 ∷ v))

-- the first line has no newline, and a newline or nothing follows it
pub line_view : (t : List ℕ) → Each on_line (first_line t) × (((line_over t ≡ bad Ended []) × (t ≡ first_line t)) ⊎ ((r : List ℕ) × (line_over t ≡ good tt r) × (t ≡ first_line t ++ (10 ∷ r))))
unfolding line_length
line_view [] = (tt, inl (refl, refl))
line_view (b ∷ t) =
    ⊎_elim
    (λ e. rw (line_stop b t e) (tt, inr (t, ap (this_byte 10) (ap (λ x. x ∷ t) (eqb-true b 10 e)), ap (λ x. x ∷ t) (eqb-true b 10 e))))
    (λ e.
    let more = line_view t in
    rw (line_on b t e) (
      (not_from_false (eqb b 10) e, more.0),
      ⊎_elim (λ over. inl (over.0, ap (λ x. b ∷ x) over.1)) (λ over. inr (over.0, over.1, ap (λ x. b ∷ x) over.2)) more.1,
    ))
    (cases_Bool (eqb b 10))

-- a line is what is left of it, and blanks
kept_split : (b : ℕ) (k bs : List ℕ) → Each blank bs → (cs : List ℕ) × Each blank cs × (b ∷ (k ++ bs) ≡ kept_before b k ++ cs)
kept_split b [] bs h =
    ⊎_elim
    (λ e. (b ∷ bs, (e, h), rw (cond-true (blank b) [] (b ∷ []) e) refl))
    (λ e. (bs, h, rw (cond-false (blank b) [] (b ∷ []) e) refl))
    (cases_Bool (blank b))
kept_split b (c ∷ cs) bs h = (bs, h, refl)

pub trimmed_split : (l : List ℕ) → (bs : List ℕ) × Each blank bs × (l ≡ trimmed l ++ bs)
unfolding trimmed
trimmed_split [] = ([], tt, refl)
trimmed_split (b ∷ l) =
    let more = trimmed_split l in
    let here = kept_split b (trimmed l) more.0 more.1 in
    (here.0, here.1, ap (λ x. b ∷ x) more.2 ∙ here.2)

pub trimmed_blanks : (bs : List ℕ) → Each blank bs → trimmed bs ≡ []
unfolding trimmed
trimmed_blanks [] h = refl
trimmed_blanks (b ∷ bs) h = ap (kept_before b) (trimmed_blanks bs h.1) ∙ cond-true (blank b) [] (b ∷ []) h.0

pub trimmed_over : (l bs : List ℕ) → Each blank bs → trimmed (l ++ bs) ≡ trimmed l
unfolding trimmed
trimmed_over [] bs h = trimmed_blanks bs h
trimmed_over (b ∷ l) bs h = ap (kept_before b) (trimmed_over l bs h)

pub trimmed_twice : (l : List ℕ) → trimmed (trimmed l) ≡ trimmed l
trimmed_twice l = let s = trimmed_split l in sym (ap trimmed s.2 ∙ trimmed_over (trimmed l) s.0 s.1)

pub each_front : (test : ℕ → Bool) (l v : List ℕ) → Each test (l ++ v) → Each test l
each_front test [] v h = tt
each_front test (b ∷ l) v h = (h.0, each_front test l v h.1)

pub each_both : (test : ℕ → Bool) (l v : List ℕ) → Each test l → Each test v → Each test (l ++ v)
each_both test [] v h g = g
each_both test (b ∷ l) v h g = (h.0, each_both test l v h.1 g)

newline_no_blank : (b : ℕ) → blank b ≡ true → on_line b ≡ true
newline_no_blank b h =
    ⊎_elim
    (λ e. let z : blank 10 ≡ true = subst (λ x. blank x ≡ true) (eqb-true b 10 e) h in cc)
    (λ e. not_from_false (eqb b 10) e)
    (cases_Bool (eqb b 10))

pub blanks_on_line : (bs : List ℕ) → Each blank bs → Each on_line bs
blanks_on_line [] h = tt
blanks_on_line (b ∷ bs) h = (newline_no_blank b h.0, blanks_on_line bs h.1)

-- what does not begin with a blank does not do so with a newline after it
pub solid_line : (l v : List ℕ) → past blank l ≡ l → past blank (l ++ (10 ∷ v)) ≡ l ++ (10 ∷ v)
solid_line [] v e = past_stop blank 10 v refl
solid_line (b ∷ l) v e = past_stop blank b (l ++ (10 ∷ v)) (past_first blank (b ∷ l) b l e)

-- and its front line neither
pub solid_front : (l v : List ℕ) → past blank (l ++ (10 ∷ v)) ≡ l ++ (10 ∷ v) → past blank l ≡ l
unfolding past
solid_front [] v e = refl
solid_front (b ∷ l) v e = past_stop blank b l (past_first blank (b ∷ (l ++ (10 ∷ v))) b (l ++ (10 ∷ v)) e)

-- a line goes on past a byte that is no newline
pub first_cons : (b : ℕ) (t : List ℕ) → eqb b 10 ≡ false → first_line (b ∷ t) ≡ b ∷ first_line t
first_cons b t e = ap (λ n. take n (b ∷ t)) (line_on b t e)
