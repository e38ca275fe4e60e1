-- Runs in the form in which they are written that cover the same cells are the same runs.
use Rattle.std.proofs.Common.{◌≡◌, ℕ, ◌+◌, ◌<◌, ◌≤◌, Bool, true, false, ◌&&◌, ◌||◌, eqb, ltb, leb, ◌⊎◌, List, [], ◌∷◌, sym, refl, ap, ◌∙◌, subst, inl, inr, ⊎_elim, arith}
use Rattle.std.proofs.lemmas.Bool.{cases_Bool, cases_order}
use Rattle.std.proofs.lemmas.Bool.Decides.{nat_tests}
use Rattle.rle.specs.declared.mark.Mark.{Mark}
use Rattle.rle.specs.declared.mark.Mark.TheVariants.{Off, On, NextRow}
use Rattle.rle.specs.declared.mark.Run.{Run}
use Rattle.rle.specs.Patterns.{Follows, Canonical, OneForm}
use Rattle.rle.specs.Runs.{is_on, column_after, row_after, fitting, Inside, covers}

-- a cell before the place from which runs are laid
abbrev Before : ℕ → ℕ → ℕ → ℕ → Type 0
Before x y c k = (k < y) ⊎ ((k ≡ y) × (c < x))

-- what a run and those after it cover
abbrev covered : Mark → ℕ → ℕ → ℕ → List Run → ℕ → ℕ → Bool
covered m n x y rs c k = (is_on m && (eqb k y && (leb x c && ltb c (x + n)))) || covers (column_after m x n) (row_after m y n) rs c k

before_further : (n x y c k : ℕ) → Before x y c k → Before (x + n) y c k
before_further n x y c k (inl a) = inl a
before_further n x y c k (inr p) = inr (p.0, omega arith)

before_below : (n x y c k : ℕ) → 1 ≤ n → Before x y c k → k < y + n
before_below n x y c k some (inl a) = omega arith
before_below n x y c k some (inr p) = omega arith

outside : (n x y c k : ℕ) → Before x y c k → (eqb k y && (leb x c && ltb c (x + n))) ≡ false
outside n x y c k (inl a) = grind (arith, nat_tests)
outside n x y c k (inr p) = let q = p.1 in grind (arith, nat_tests)

before_by : (m : Mark) (n x y : ℕ) (rs : List Run) (c k : ℕ) → 1 ≤ n → Before x y c k → ((u v : ℕ) → Before u v c k → covers u v rs c k ≡ false) → covered m n x y rs c k ≡ false
before_by Off n x y rs c k some b next = next (x + n) y (before_further n x y c k b)
before_by On n x y rs c k some b next = ap (λ z. z || covers (x + n) y rs c k) (outside n x y c k b) ∙ next (x + n) y (before_further n x y c k b)
before_by NextRow n x y rs c k some b next = next 0 (y + n) (inl (before_below n x y c k some b))

-- runs cover nothing before the place from which they are laid
none_before : (x y : ℕ) (rs : List Run) (c k : ℕ) → Canonical rs → Before x y c k → covers x y rs c k ≡ false
none_before x y [] c k h b = refl
none_before x y (r ∷ rs) c k h b = before_by r.mark r.count x y rs c k h.0 b (λ u v z. none_before u v rs c k h.2 z)

-- a cell of an `o` run
on_run : (n x y : ℕ) (rs : List Run) (j : ℕ) → j < n → covered On n x y rs (x + j) y ≡ true
on_run n x y rs j small =
    let here : (eqb y y && (leb x (x + j) && ltb (x + j) (x + n))) ≡ true = grind (arith, nat_tests) in
    ap (λ z. z || covers (x + n) y rs (x + j) y) here

-- cells of a row that lie in the box
in_row : (w h x y n : ℕ) (m : Mark) → m ≡ On → fitting w h x y m n ≡ true → (y < h) × (x + n ≤ w)
in_row w h x y n Off e f = cc
in_row w h x y n On e f = (grind (arith, nat_tests), grind (arith, nat_tests))
in_row w h x y n NextRow e f = cc

-- where runs start with `o`, their first cell is on
first_on : (w h x y : ℕ) (rs : List Run) → Canonical rs → Follows Off rs → Inside w h x y rs → (x < w) × (y < h) × (covers x y rs x y ≡ true)
first_on w h x y [] can f i = absurd f
first_on w h x y (r ∷ rs) can f i =
    let fits = in_row w h x y r.count r.mark f i.0 in
    let at : x + 0 ≡ x = omega arith in
    let P : Mark → ℕ → Type 0 = λ m c. covered m r.count x y rs c y ≡ true in
    (omega (arith, fits.1, can.0), fits.0, subst (λ m. P m x) (sym f) (subst (P On) at (on_run r.count x y rs 0 can.0)))

-- a cell of the box that some runs cover, and others do not
abbrev Apart : ℕ → ℕ → (ℕ → ℕ → Bool) → (ℕ → ℕ → Bool) → Type 0
Apart w h one two = (c : ℕ) × (k : ℕ) × (c < w) × (k < h) × (one c k ≡ true) × (two c k ≡ false)

-- where runs do not start with a step, a cell of their row is on
row_on : (m : Mark) (n w h x y : ℕ) (rs : List Run) → (m ≡ NextRow → ⊥) → 1 ≤ n → Follows m rs → Canonical rs → fitting w h x y m n ≡ true → Inside w h (column_after m x n) (row_after m y n) rs → (c : ℕ) × (c < w) × (y < h) × (covered m n x y rs c y ≡ true)
row_on Off n w h x y rs other some f can fits i = let a = first_on w h (x + n) y rs can f i in (x + n, a.0, a.1, a.2)
row_on On n w h x y rs other some f can fits i =
    let b = in_row w h x y n On refl fits in
    (x + 0, omega (arith, b.1), b.0, on_run n x y rs 0 some)
row_on NextRow n w h x y rs other some f can fits i = absurd (other refl)

head_row : (w h x y : ℕ) (rs : List Run) → Canonical rs → Follows NextRow rs → Inside w h x y rs → (c : ℕ) × (c < w) × (y < h) × (covers x y rs c y ≡ true)
head_row w h x y [] can f i = absurd f
head_row w h x y (r ∷ rs) can f i = row_on r.mark r.count w h x y rs f can.0 can.1 can.2 i.0 i.1

-- runs cover some cell of the box
some_on : (m : Mark) (n w h x y : ℕ) (rs : List Run) → 1 ≤ n → Follows m rs → Canonical rs → fitting w h x y m n ≡ true → Inside w h (column_after m x n) (row_after m y n) rs → (c : ℕ) × (k : ℕ) × (c < w) × (k < h) × (covered m n x y rs c k ≡ true)
some_on Off n w h x y rs some f can fits i = let a = row_on Off n w h x y rs (λ z. cc) some f can fits i in (a.0, y, a.1, a.2, a.3)
some_on On n w h x y rs some f can fits i = let a = row_on On n w h x y rs (λ z. cc) some f can fits i in (a.0, y, a.1, a.2, a.3)
some_on NextRow n w h x y rs some f can fits i = let a = head_row w h 0 (y + n) rs can f i in (a.0, y + n, a.1, a.2, a.3)

-- after an `o` run comes no cell that is on
off_by : (m : Mark) (n x y : ℕ) (rs : List Run) → (m ≡ On → ⊥) → 1 ≤ n → Canonical rs → covered m n x y rs x y ≡ false
off_by Off n x y rs other some can = none_before (x + n) y rs x y can (inr (refl, omega arith))
off_by On n x y rs other some can = absurd (other refl)
off_by NextRow n x y rs other some can = none_before 0 (y + n) rs x y can (inl (omega arith))

off_after : (x y : ℕ) (rs : List Run) → Canonical rs → Follows On rs → covers x y rs x y ≡ false
off_after x y [] can f = refl
off_after x y (r ∷ rs) can f = off_by r.mark r.count x y rs f can.0 can.2

-- two different runs of which the first covers, with those after it, a cell sooner than the second
data Sooner : Mark → ℕ → Mark → ℕ → Type 0 where
  longer_on : (n k : ℕ) → k < n → Sooner On n On k
  shorter_off : (n k : ℕ) → n < k → Sooner Off n Off k
  shorter_step : (n k : ℕ) → n < k → Sooner NextRow n NextRow k
  on_off : (n k : ℕ) → Sooner On n Off k
  on_step : (n k : ℕ) → Sooner On n NextRow k
  off_step : (n k : ℕ) → Sooner Off n NextRow k

by_count : (m : Mark) (n k : ℕ) → (n < k → Sooner m n m k ⊎ Sooner m k m n) → (k < n → Sooner m n m k ⊎ Sooner m k m n) → ((m ≡ m) × (n ≡ k)) ⊎ (Sooner m n m k ⊎ Sooner m k m n)
by_count m n k less more = ⊎_elim (λ e. inl (refl, e)) (λ p. inr (⊎_elim less more p)) (cases_order n k)

order : (m : Mark) (n : ℕ) (l : Mark) (k : ℕ) → ((m ≡ l) × (n ≡ k)) ⊎ (Sooner m n l k ⊎ Sooner l k m n)
order Off n Off k = by_count Off n k (λ a. inl (shorter_off n k a)) (λ a. inr (shorter_off k n a))
order Off n On k = inr (inr (on_off k n))
order Off n NextRow k = inr (inl (off_step n k))
order On n Off k = inr (inl (on_off n k))
order On n On k = by_count On n k (λ a. inr (longer_on k n a)) (λ a. inl (longer_on n k a))
order On n NextRow k = inr (inl (on_step n k))
order NextRow n Off k = inr (inr (off_step k n))
order NextRow n On k = inr (inr (on_step k n))
order NextRow n NextRow k = by_count NextRow n k (λ a. inl (shorter_step n k a)) (λ a. inr (shorter_step k n a))

apart : {m : Mark} {n : ℕ} {l : Mark} {k : ℕ} → Sooner m n l k → (w h x y : ℕ) (rs ss : List Run) → 1 ≤ n → Follows m rs → Canonical rs → fitting w h x y m n ≡ true → Inside w h (column_after m x n) (row_after m y n) rs → 1 ≤ k → Follows l ss → Canonical ss → Apart w h (covered m n x y rs) (covered l k x y ss)
apart (longer_on n k less) w h x y rs ss a f can fits i b g dan =
    let r = in_row w h x y n On refl fits in
    let not : (eqb y y && (leb x (x + k) && ltb (x + k) (x + k))) ≡ false = grind (arith, nat_tests) in
    (x + k, y, omega (arith, r.1), r.0, on_run n x y rs k less, ap (λ z. z || covers (x + k) y ss (x + k) y) not ∙ off_after (x + k) y ss dan g)
apart (shorter_off n k less) w h x y rs ss a f can fits i b g dan =
    let r = first_on w h (x + n) y rs can f i in
    (x + n, y, r.0, r.1, r.2, none_before (x + k) y ss (x + n) y dan (inr (refl, omega arith)))
apart (shorter_step n k less) w h x y rs ss a f can fits i b g dan =
    let r = head_row w h 0 (y + n) rs can f i in
    (r.0, y + n, r.1, r.2, r.3, none_before 0 (y + k) ss r.0 (y + n) dan (inl (omega arith)))
apart (on_off n k) w h x y rs ss a f can fits i b g dan =
    let r = in_row w h x y n On refl fits in
    (x + 0, y, omega (arith, r.1), r.0, on_run n x y rs 0 a, none_before (x + k) y ss (x + 0) y dan (inr (refl, omega arith)))
apart (on_step n k) w h x y rs ss a f can fits i b g dan =
    let r = in_row w h x y n On refl fits in
    (x + 0, y, omega (arith, r.1), r.0, on_run n x y rs 0 a, none_before 0 (y + k) ss (x + 0) y dan (inl (omega arith)))
apart (off_step n k) w h x y rs ss a f can fits i b g dan =
    let r = first_on w h (x + n) y rs can f i in
    (x + n, y, r.0, r.1, r.2, none_before 0 (y + k) ss (x + n) y dan (inl (omega arith)))

-- after the same first run the same cells are covered
under : (n x y c k : ℕ) → (eqb k y && (leb x c && ltb c (x + n))) ≡ true → Before (x + n) y c k
under n x y c k e = inr (grind (arith, nat_tests), grind (arith, nat_tests))

tails : (m : Mark) (n x y : ℕ) (rs ss : List Run) (c k : ℕ) → Canonical rs → Canonical ss → covered m n x y rs c k ≡ covered m n x y ss c k → covers (column_after m x n) (row_after m y n) rs c k ≡ covers (column_after m x n) (row_after m y n) ss c k
tails Off n x y rs ss c k can dan e = e
tails NextRow n x y rs ss c k can dan e = e
tails On n x y rs ss c k can dan e =
    let one = covers (x + n) y rs c k in
    let two = covers (x + n) y ss c k in
    ⊎_elim
    (λ is. let b = under n x y c k is in none_before (x + n) y rs c k can b ∙ sym (none_before (x + n) y ss c k dan b))
    (λ isnt. sym (ap (λ z. z || one) isnt) ∙ e ∙ ap (λ z. z || two) isnt)
    (cases_Bool (eqb k y && (leb x c && ltb c (x + n))))

no_more : (b : Bool) → b ≡ true → b ≡ false → ⊥
no_more b e f = let z : true ≡ false = sym e ∙ f in cc

one_from : (w h x y : ℕ) (rs ss : List Run) → Canonical rs → Canonical ss → Inside w h x y rs → Inside w h x y ss → ((c k : ℕ) → c < w → k < h → covers x y rs c k ≡ covers x y ss c k) → rs ≡ ss
one_from w h x y [] [] can dan i j e = refl
one_from w h x y [] (s ∷ ss) can dan i j e =
    let a = some_on s.mark s.count w h x y ss dan.0 dan.1 dan.2 j.0 j.1 in
    absurd (no_more (covers x y (s ∷ ss) a.0 a.1) a.4 (sym (e a.0 a.1 a.2 a.3)))
one_from w h x y (r ∷ rs) [] can dan i j e =
    let a = some_on r.mark r.count w h x y rs can.0 can.1 can.2 i.0 i.1 in
    absurd (no_more (covers x y (r ∷ rs) a.0 a.1) a.4 (e a.0 a.1 a.2 a.3))
one_from w h x y (r ∷ rs) (s ∷ ss) can dan i j e =
    ⊎_elim
    (λ same.
    let is : r ≡ s = ap (λ n. record { count = n; mark = r.mark }) same.1 ∙ ap (λ m. record { count = s.count; mark = m }) same.0 in
    let P : Run → Type 0 = λ z. Canonical (z ∷ ss) → Inside w h x y (z ∷ ss) → ((c k : ℕ) → c < w → k < h → covers x y (r ∷ rs) c k ≡ covers x y (z ∷ ss) c k) → r ∷ rs ≡ z ∷ ss in
    let there : P r =
    λ fan l f. ap (λ z. r ∷ z) (one_from w h (column_after r.mark x r.count) (row_after r.mark y r.count) rs ss can.2 fan.2 i.1 l.1 (λ c k a b. tails r.mark r.count x y rs ss c k can.2 fan.2 (f c k a b))) in
    subst P is there dan j e)
    (λ other.
    ⊎_elim
    (λ p. let a = apart p w h x y rs ss can.0 can.1 can.2 i.0 i.1 dan.0 dan.1 dan.2 in absurd (no_more (covers x y (r ∷ rs) a.0 a.1) a.4 (e a.0 a.1 a.2 a.3 ∙ a.5)))
    (λ p. let a = apart p w h x y ss rs dan.0 dan.1 dan.2 j.0 j.1 can.0 can.1 can.2 in absurd (no_more (covers x y (s ∷ ss) a.0 a.1) a.4 (sym (e a.0 a.1 a.2 a.3) ∙ a.5)))
    other)
    (order r.mark r.count s.mark s.count)

pub one_form : OneForm
one_form w h rs ss can dan i j e = one_from w h 0 0 rs ss can dan i j e
