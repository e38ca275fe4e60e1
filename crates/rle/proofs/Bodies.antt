-- Runs and the end: what reading an item of the body shows, and that the forms of bodies are read.
use Rattle.std.proofs.Common.{◌≡◌, ℕ, ◌<◌, Bool, true, false, eqb, List, [], ◌∷◌, ◌++◌, length, Some, None, decimal, Option, sym, refl, ap, ◌∙◌, subst, inl, inr, ⊎_elim, arith}
use Rattle.std.proofs.lemmas.Fmt.{decimal_nonempty}
use Rattle.std.proofs.lemmas.List.{append_assoc, append-nil}
use Rattle.std.proofs.lemmas.Bool.{cases_Bool, cond-true, cond-false, eqb-true}
use Rattle.std.proofs.lemmas.Bool.Decides.{nat_tests}
use Rattle.rle.specs.declared.fault.ReadCause.{ReadCause}
use Rattle.rle.specs.declared.fault.ReadCause.TheVariants.{TooLong, Byte, Size, Outside, Ended}
use Rattle.rle.specs.declared.mark.Mark.{Mark}
use Rattle.rle.specs.declared.mark.Mark.TheVariants.{Off, On, NextRow}
use Rattle.rle.specs.declared.mark.Run.{Run}
use Rattle.rle.specs.declared.phase.Cursor.{Cursor}
use Rattle.rle.specs.declared.phase.Phase.TheVariants.{Body}
use Rattle.rle.specs.Forms.{Each, Numeral, CountForm, BodyForm}
use Rattle.rle.specs.Items.{Taken, run, ending, mark_of, laid, laid_run, marked_by, marked, counted, body_item}
use Rattle.rle.specs.Runs.{letter_of, column_after, row_after, fitting}
use Rattle.rle.specs.Scans.{Scan, good, bad, and_then, space, digit, numeral}
use Rattle.rle.proofs.Numerals.{see_numeral, numeral_reads, spelt}
use Rattle.rle.proofs.Sizes.{NoSize, if_no_size, numeral_no_size}
use Rattle.rle.proofs.Seen.{Seen, Same, seen_as, begins_with}

-- where the next run is laid, if this one fits
abbrev pub onward : Cursor → ℕ → Mark → Cursor
onward c n m = record { width = c.width; height = c.height; column = column_after m c.column n; row = row_after m c.row n }

abbrev pub fits : Cursor → ℕ → Mark → Bool
fits c n m = fitting c.width c.height c.column c.row m n

abbrev pub ran : Cursor → ℕ → Mark → Taken
ran c n m = record { part = run (record { count = n; mark = m }); phase = Body (onward c n m) }

-- counts
count_digit : (b : ℕ) (t : List ℕ) → digit b ≡ true → counted (b ∷ t) ≡ numeral (b ∷ t)
count_digit b t e = cond-true (digit b) _ _ e

count_none : (b : ℕ) (t : List ℕ) → digit b ≡ false → counted (b ∷ t) ≡ good 1 (b ∷ t)
count_none b t e = cond-false (digit b) _ _ e

see_counted : (t : List ℕ) → Seen Same CountForm counted t (counted t)
see_counted [] = (refl, (1, [], inl (refl, refl)))
see_counted (b ∷ t) =
    let P : Scan ℕ → Type 0 = Seen Same CountForm counted (b ∷ t) in
    ⊎_elim
    (λ e.
    subst P (sym (count_digit b t e))
    (seen_as Same Numeral CountForm numeral counted (b ∷ t) (λ n u h. inr h) (λ u c r v g. let s = begins_with b t u c r v g in ap counted s.1 ∙ count_digit b s.0 e ∙ ap numeral (sym s.1)) (numeral (b ∷ t)) (see_numeral (b ∷ t))))
    (λ e. subst P (sym (count_none b t e)) ([], inl (refl, refl), refl, λ c r v f. let same : b ≡ c = cc in (1, count_none c v (subst (λ x. digit x ≡ false) same e), refl)))
    (cases_Bool (digit b))

-- a count is at no fault for a size
counted_no_size : (t : List ℕ) → NoSize (counted t)
counted_no_size [] = tt
counted_no_size (b ∷ t) = if_no_size (digit b) (numeral (b ∷ t)) (good 1 (b ∷ t)) (numeral_no_size (b ∷ t)) tt

-- letters
mark_letter : (m : Mark) → mark_of (letter_of m) ≡ Some m
mark_letter Off = refl
mark_letter On = refl
mark_letter NextRow = refl

letter_no_digit : (m : Mark) → digit (letter_of m) ≡ false
letter_no_digit Off = refl
letter_no_digit On = refl
letter_no_digit NextRow = refl

letter_no_end : (m : Mark) → eqb (letter_of m) 33 ≡ false
letter_no_end Off = refl
letter_no_end On = refl
letter_no_end NextRow = refl

pub letter_no_space : (m : Mark) → space (letter_of m) ≡ false
letter_no_space Off = refl
letter_no_space On = refl
letter_no_space NextRow = refl

letter_of_mark : (b : ℕ) (m : Mark) → mark_of b ≡ Some m → b ≡ letter_of m
letter_of_mark b Off e = grind (arith, nat_tests)
letter_of_mark b On e = grind (arith, nat_tests)
letter_of_mark b NextRow e = grind (arith, nat_tests)

-- the mark and the box decide what a counted run comes to
pub data MarkView (c : Cursor) (start : List ℕ) (n : ℕ) (t : List ℕ) : Scan Taken → Type 0 where
  short : t ≡ [] → MarkView c start n t (bad Ended [])
  other : (b : ℕ) (r : List ℕ) → t ≡ b ∷ r → mark_of b ≡ None → MarkView c start n t (bad Byte (b ∷ r))
  leaves : (m : Mark) (r : List ℕ) → t ≡ letter_of m ∷ r → fits c n m ≡ false → MarkView c start n t (bad Outside start)
  lies : (m : Mark) (r : List ℕ) → t ≡ letter_of m ∷ r → fits c n m ≡ true → MarkView c start n t (good (ran c n m) r)

laid_view : (c : Cursor) (start : List ℕ) (n : ℕ) (t r : List ℕ) (m : Mark) → t ≡ letter_of m ∷ r → MarkView c start n t (laid_run start n m r (laid c n m))
laid_view c start n t r m e =
    let P : Option Cursor → Type 0 = λ x. MarkView c start n t (laid_run start n m r x) in
    ⊎_elim
    (λ f. subst P (sym (cond-true (fits c n m) (Some (onward c n m)) None f)) (lies m r e f))
    (λ f. subst P (sym (cond-false (fits c n m) (Some (onward c n m)) None f)) (leaves m r e f))
    (cases_Bool (fits c n m))

mark_view_by : (c : Cursor) (start : List ℕ) (n b : ℕ) (r : List ℕ) (o : Option Mark) → mark_of b ≡ o → MarkView c start n (b ∷ r) (marked_by c start n (b ∷ r) o r)
mark_view_by c start n b r None e = other b r refl e
mark_view_by c start n b r (Some m) e = laid_view c start n (b ∷ r) r m (ap (λ x. x ∷ r) (letter_of_mark b m e))

mark_view : (c : Cursor) (start : List ℕ) (n : ℕ) (t : List ℕ) → MarkView c start n t (marked c start n t)
mark_view c start n [] = short refl
mark_view c start n (b ∷ r) = mark_view_by c start n b r (mark_of b) refl

-- a run of a form is read where it fits, and else lies outside
pub marked_lies : (c : Cursor) (start : List ℕ) (n : ℕ) (m : Mark) (v : List ℕ) → fits c n m ≡ true → marked c start n (letter_of m ∷ v) ≡ good (ran c n m) v
marked_lies c start n m v f = ap (λ o. marked_by c start n (letter_of m ∷ v) o v) (mark_letter m) ∙ ap (laid_run start n m v) (cond-true (fits c n m) (Some (onward c n m)) None f)

marked_leaves : (c : Cursor) (start : List ℕ) (n : ℕ) (m : Mark) (v : List ℕ) → fits c n m ≡ false → marked c start n (letter_of m ∷ v) ≡ bad Outside start
marked_leaves c start n m v f = ap (λ o. marked_by c start n (letter_of m ∷ v) o v) (mark_letter m) ∙ ap (laid_run start n m v) (cond-false (fits c n m) (Some (onward c n m)) None f)

-- a run begins with a digit or a letter: with nothing that may part runs, and not with the end
digit_starts : (b : ℕ) → digit b ≡ true → (space b ≡ false) × (eqb b 33 ≡ false)
digit_starts b e = (grind (arith, nat_tests), grind (arith, nat_tests))

pub record Starts (t : List ℕ) : Type 0 where
  pub byte : ℕ
  pub rest : List ℕ
  pub whole : t ≡ byte ∷ rest
  pub no_space : space byte ≡ false
  pub no_end : eqb byte 33 ≡ false

digits_start : (ds v : List ℕ) → Each digit ds → 0 < length ds → Starts (ds ++ v) × (counted (ds ++ v) ≡ numeral (ds ++ v))
digits_start [] v h some = absurd (omega arith)
digits_start (d ∷ ds) v h some =
    let s = digit_starts d h.0 in
    (record { byte = d; rest = ds ++ v; whole = refl; no_space = s.0; no_end = s.1 }, count_digit d (ds ++ v) h.0)

-- a count before a letter is read as it is
pub run_reads : (n : ℕ) (u : List ℕ) (m : Mark) (v : List ℕ) → CountForm n u → Starts (u ++ (letter_of m ∷ v)) × (counted (u ++ (letter_of m ∷ v)) ≡ good n (letter_of m ∷ v))
run_reads n u m v (inl p) =
    let P : List ℕ → Type 0 = λ x. Starts (x ++ (letter_of m ∷ v)) × (counted (x ++ (letter_of m ∷ v)) ≡ good n (letter_of m ∷ v)) in
    subst P (sym p.1) (
      record { byte = letter_of m; rest = v; whole = refl; no_space = letter_no_space m; no_end = letter_no_end m },
      count_none (letter_of m) v (letter_no_digit m) ∙ ap (λ x. good x (letter_of m ∷ v)) (sym p.0),
    )
run_reads n u m v (inr p) =
    let P : List ℕ → Type 0 = λ x. Starts (x ++ (letter_of m ∷ v)) × (counted (x ++ (letter_of m ∷ v)) ≡ numeral (x ++ (letter_of m ∷ v))) in
    let s = spelt n (omega arith) in
    let d = subst P (sym p.2) (digits_start (decimal n) (letter_of m ∷ v) s.1 (decimal_nonempty n (omega arith))) in
    (d.0, d.1 ∙ numeral_reads n u (letter_of m ∷ v) p (letter_no_digit m))

body_run : (c : Cursor) (b : ℕ) (t : List ℕ) → eqb b 33 ≡ false → body_item c (b ∷ t) ≡ and_then (counted (b ∷ t)) (marked c (b ∷ t))
body_run c b t e = cond-false (eqb b 33) _ _ e

pub body_over : (c : Cursor) (t : List ℕ) → body_item c (33 ∷ t) ≡ good (record { part = ending; phase = Body c }) (33 ∷ t)
body_over c t = refl

starts_run : (c : Cursor) (t : List ℕ) → Starts t → body_item c t ≡ and_then (counted t) (marked c t)
starts_run c t s = ap (body_item c) s.whole ∙ body_run c s.byte s.rest s.no_end ∙ ap (λ x. and_then (counted x) (marked c x)) (sym s.whole)

-- an item of the body is read from a run of a form that fits
pub body_reads : (c : Cursor) (n : ℕ) (u : List ℕ) (m : Mark) (v : List ℕ) → CountForm n u → fits c n m ≡ true → body_item c (u ++ (letter_of m ∷ v)) ≡ good (ran c n m) v
body_reads c n u m v form f =
    let t = u ++ (letter_of m ∷ v) in
    let r = run_reads n u m v form in
    starts_run c t r.0 ∙ ap (λ x. and_then x (marked c t)) r.1 ∙ marked_lies c t n m v f

pub body_leaves : (c : Cursor) (n : ℕ) (u : List ℕ) (m : Mark) (v : List ℕ) → CountForm n u → fits c n m ≡ false → body_item c (u ++ (letter_of m ∷ v)) ≡ bad Outside (u ++ (letter_of m ∷ v))
body_leaves c n u m v form f =
    let t = u ++ (letter_of m ∷ v) in
    let r = run_reads n u m v form in
    starts_run c t r.0 ∙ ap (λ x. and_then x (marked c t)) r.1 ∙ marked_leaves c t n m v f

-- why an item of the body is at fault otherwise than for a byte out of place: a run leaves the box, or the text ends too soon
abbrev pub RunFault : Cursor → List ℕ → ReadCause → List ℕ → Type 0
RunFault c t TooLong at = ⊥
RunFault c t Byte at = ⊥
RunFault c t Size at = ⊥
RunFault c t Outside at = (at ≡ t) × (n : ℕ) × (m : Mark) × (u : List ℕ) × (rest : List ℕ) × CountForm n u × (t ≡ u ++ (letter_of m ∷ rest)) × (fits c n m ≡ false)
RunFault c t Ended at = (at ≡ []) × (rest : List ℕ) × (runs : List Run) × BodyForm runs (t ++ rest)

-- what an item of the body comes to: the end, a run that fits, a byte out of place, or another fault
pub data BodyView (c : Cursor) (t : List ℕ) : Scan Taken → Type 0 where
  over : (v : List ℕ) → t ≡ 33 ∷ v → BodyView c t (good (record { part = ending; phase = Body c }) t)
  ran_on : (n : ℕ) (m : Mark) (u rest : List ℕ) → CountForm n u → t ≡ u ++ (letter_of m ∷ rest) → fits c n m ≡ true → BodyView c t (good (ran c n m) rest)
  misplaced : (u : List ℕ) (b : ℕ) (r : List ℕ) → t ≡ u ++ (b ∷ r) → (n : ℕ) (v : List ℕ) → CountForm n (u ++ v) → ((w : List ℕ) → body_item c (u ++ (b ∷ w)) ≡ bad Byte (b ∷ w)) → BodyView c t (bad Byte (b ∷ r))
  faulty : (cause : ReadCause) (rest : List ℕ) → RunFault c t cause rest → BodyView c t (bad cause rest)

-- a count begins a body
count_begins : (t : List ℕ) (n : ℕ) (v : List ℕ) → CountForm n (t ++ v) → (rest : List ℕ) × (runs : List Run) × BodyForm runs (t ++ rest)
count_begins t n v h =
    (v ++ (98 ∷ (33 ∷ [])), record { count = n; mark = Off } ∷ [], ([], t ++ v, 33 ∷ [], tt, h, ([], [], tt, refl), sym (append_assoc t v (98 ∷ (33 ∷ [])))))

-- the first byte is not the end, so the item is a run, whatever comes later
still_run : (c : Cursor) (b : ℕ) (t u : List ℕ) (d : ℕ) (r w : List ℕ) → eqb b 33 ≡ false → b ∷ t ≡ u ++ (d ∷ r) → body_item c (u ++ (d ∷ w)) ≡ and_then (counted (u ++ (d ∷ w))) (marked c (u ++ (d ∷ w)))
still_run c b t u d r w e g =
    let s = begins_with b t u d r w g in
    ap (body_item c) s.1 ∙ body_run c b s.0 e ∙ ap (λ x. and_then (counted x) (marked c x)) (sym s.1)

by_mark : (c : Cursor) (b : ℕ) (t : List ℕ) (n : ℕ) (rest : List ℕ) → eqb b 33 ≡ false → Seen Same CountForm counted (b ∷ t) (good n rest) → (s : Scan Taken) → MarkView c (b ∷ t) n rest s → BodyView c (b ∷ t) s
by_mark c b t n rest e h s (short f) =
    let whole : b ∷ t ≡ h.0 = h.2 ∙ ap (λ x. h.0 ++ x) f ∙ append-nil h.0 in
    let more = count_begins (b ∷ t) n [] (subst (CountForm n) (sym whole ∙ sym (append-nil (b ∷ t))) h.1) in
    faulty Ended [] (refl, more.0, more.1, more.2)
by_mark c b t n rest e h s (other d r f none) =
    let whole : b ∷ t ≡ h.0 ++ (d ∷ r) = h.2 ∙ ap (λ x. h.0 ++ x) f in
    misplaced h.0 d r whole n [] (subst (CountForm n) (sym (append-nil h.0)) h.1)
    (λ w.
    let one = h.3 d r w f in
    still_run c b t h.0 d r w e whole
    ∙ ap (λ x. and_then x (marked c (h.0 ++ (d ∷ w)))) one.1
    ∙ ap (λ o. marked_by c (h.0 ++ (d ∷ w)) one.0 (d ∷ w) o w) none)
by_mark c b t n rest e h s (leaves m r f g) = faulty Outside (b ∷ t) (refl, n, m, h.0, r, h.1, h.2 ∙ ap (λ x. h.0 ++ x) f, g)
by_mark c b t n rest e h s (lies m r f g) = ran_on n m h.0 r h.1 (h.2 ∙ ap (λ x. h.0 ++ x) f) g

by_count : (c : Cursor) (b : ℕ) (t : List ℕ) → eqb b 33 ≡ false → (s : Scan ℕ) → NoSize s → Seen Same CountForm counted (b ∷ t) s → BodyView c (b ∷ t) (and_then s (marked c (b ∷ t)))
by_count c b t e (good n rest) k h = by_mark c b t n rest e h (marked c (b ∷ t) n rest) (mark_view c (b ∷ t) n rest)
by_count c b t e (bad TooLong rest) k h = absurd h
by_count c b t e (bad Byte rest) k h =
    let P : List ℕ → Type 0 = λ x. BodyView c (b ∷ t) (bad Byte x) in
    let whole : b ∷ t ≡ h.0 ++ (h.1 ∷ h.2) = h.4 ∙ ap (λ x. h.0 ++ x) h.3 in
    subst P (sym h.3)
    (misplaced h.0 h.1 h.2 whole h.5.0 h.5.1 h.5.2
    (λ w. still_run c b t h.0 h.1 h.2 w e whole ∙ ap (λ x. and_then x (marked c (h.0 ++ (h.1 ∷ w)))) (h.6 w)))
by_count c b t e (bad Size rest) k h = absurd k
by_count c b t e (bad Outside rest) k h = absurd h
by_count c b t e (bad Ended rest) k h = let more = count_begins (b ∷ t) h.1.0 h.1.1 h.1.2 in faulty Ended rest (h.0, more.0, more.1, more.2)

pub body_view : (c : Cursor) (t : List ℕ) → BodyView c t (body_item c t)
body_view c [] = faulty Ended [] (refl, 33 ∷ [], [], ([], [], tt, refl))
body_view c (b ∷ t) =
    let P : Scan Taken → Type 0 = BodyView c (b ∷ t) in
    ⊎_elim
    (λ e. subst P (sym (cond-true (eqb b 33) _ _ e)) (over t (ap (λ x. x ∷ t) (eqb-true b 33 e))))
    (λ e. subst P (sym (body_run c b t e)) (by_count c b t e (counted (b ∷ t)) (counted_no_size (b ∷ t)) (see_counted (b ∷ t))))
    (cases_Bool (eqb b 33))
