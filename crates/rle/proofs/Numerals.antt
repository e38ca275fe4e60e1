-- Numbers: what reading one shows, and that the digits of a number are read as it.
use Rattle.std.proofs.Common.{◌≡◌, ℕ, zero, suc, ◌+◌, ◌-◌, ◌*◌, ◌/◌, ◌%◌, ◌^◌, ◌<◌, ◌≤◌, Bool, true, false, ◌&&◌, leb, List, [], ◌∷◌, ◌++◌, length, get_or, decimal, sym, refl, ap, ◌∙◌, subst, ⊎_elim, arith}
use Rattle.std.proofs.lemmas.Fmt.{decimal_step, decimal_digit, decimal_by_steps, decimal_nonempty, first_decimal, length-decimal-le}
use Rattle.std.proofs.lemmas.List.{append_assoc, append-nil}
use Rattle.std.proofs.lemmas.Bool.{and_parts, and_from, cases_Bool, cond-true, cond-false, le-leb, leb-true}
use Rattle.std.proofs.lemmas.Bool.Decides.{nat_tests}
use Rattle.lines.specs.Lines.{blank}
use Rattle.rle.specs.declared.fault.ReadCause.TheVariants.{TooLong, Byte, Size, Outside, Ended}
use Rattle.rle.specs.Forms.{Each, Numeral, NoDigit}
use Rattle.rle.specs.Scans.{Scan, good, bad, and_then, past, digit, digits_on, numeral, judged, size}
use Rattle.rle.proofs.Pasts.{past_stop}
use Rattle.rle.proofs.Seen.{Seen, Same}

-- one digit more at a number's end
pub decimal_more : (n d : ℕ) → 1 ≤ n → n ≤ 999 → d ≤ 9 → decimal (n * 10 + d) ≡ decimal n ++ ((48 + d) ∷ [])
decimal_more n d some few small =
    let front : (n * 10 + d) / 10 ≡ n = omega arith in
    let last : (n * 10 + d) % 10 ≡ d = omega arith in
    decimal_step (n * 10 + d) (omega arith) (omega arith) ∙ ap (λ x. decimal x ++ ((48 + (n * 10 + d) % 10) ∷ [])) front ∙ ap (λ x. decimal n ++ ((48 + x) ∷ [])) last

-- the largest number to which so many digits may still be put
abbrev most : ℕ → ℕ
most zero = 9999
most (suc zero) = 999
most (suc (suc zero)) = 99
most (suc (suc (suc k))) = 9

within_four : (m n : ℕ) → n ≤ most m → n ≤ 9999
within_four zero n h = h
within_four (suc zero) n h = omega arith
within_four (suc (suc zero)) n h = omega arith
within_four (suc (suc (suc k))) n h = omega arith

one_less : (m n d : ℕ) → suc m ≤ 3 → n ≤ most (suc m) → d ≤ 9 → (n ≤ 999) × (n * 10 + d ≤ most m)
one_less zero n d few h small = (h, omega arith)
one_less (suc zero) n d few h small = (omega arith, omega arith)
one_less (suc (suc zero)) n d few h small = (omega arith, omega arith)
one_less (suc (suc (suc k))) n d few h small = absurd (omega arith)

-- the digits of m are those of n, and these
abbrev Longer : ℕ → ℕ → List ℕ → Type 0
Longer n m u = (decimal m ≡ decimal n ++ u) × (1 ≤ m) × (m ≤ 9999)

pub digit_parts : (b : ℕ) → digit b ≡ true → (48 ≤ b) × (b ≤ 57)
digit_parts b e = let p = and_parts (leb 48 b) (leb b 57) e in (leb-true 48 b p.0, leb-true b 57 p.1)

pub digits_on_step : (m n b : ℕ) (t : List ℕ) → digit b ≡ true → digits_on (suc m) n (b ∷ t) ≡ digits_on m (n * 10 + (b - 48)) t
unfolding digits_on
digits_on_step m n b t e = cond-true (digit b) _ _ e

pub digits_stop : (m n b : ℕ) (t : List ℕ) → digit b ≡ false → digits_on m n (b ∷ t) ≡ good n (b ∷ t)
unfolding digits_on
digits_stop zero n b t e = cond-false (digit b) _ _ e
digits_stop (suc m) n b t e = cond-false (digit b) _ _ e

pub digits_full : (n b : ℕ) (t : List ℕ) → digit b ≡ true → digits_on 0 n (b ∷ t) ≡ bad Byte (b ∷ t)
unfolding digits_on
digits_full n b t e = cond-true (digit b) _ _ e

none_more : (m n b : ℕ) (t : List ℕ) → 1 ≤ n → n ≤ most m → digit b ≡ false → Seen Same (Longer n) (digits_on m n) (b ∷ t) (good n (b ∷ t))
none_more m n b t some few e = (
  [],
  (sym (append-nil (decimal n)), some, within_four m n few),
  refl,
  λ c r v f. let first : b ≡ c = cc in (n, digits_stop m n c v (subst (λ x. digit x ≡ false) first e), refl),
)

longer_by : (n d k : ℕ) (u : List ℕ) → 1 ≤ n → n ≤ 999 → 48 ≤ d → d ≤ 57 → decimal k ≡ decimal (n * 10 + (d - 48)) ++ u → decimal k ≡ decimal n ++ (d ∷ u)
longer_by n d k u some few low high e =
    let same : 48 + (d - 48) ≡ d = omega arith in
    e ∙ ap (λ x. x ++ u) (decimal_more n (d - 48) some few (omega arith)) ∙ append_assoc (decimal n) ((48 + (d - 48)) ∷ []) u ∙ ap (λ x. decimal n ++ (x ∷ u)) same

one_more : (m n b : ℕ) (t : List ℕ) → 1 ≤ n → n ≤ 999 → digit b ≡ true → (r : Scan ℕ) → Seen Same (Longer (n * 10 + (b - 48))) (digits_on m (n * 10 + (b - 48))) t r → Seen Same (Longer n) (digits_on (suc m) n) (b ∷ t) r
one_more m n b t some few e (good k rest) h =
    let p = digit_parts b e in (
      b ∷ h.0,
      (longer_by n b k h.0 some few p.0 p.1 h.1.0, h.1.1, h.1.2),
      ap (λ x. b ∷ x) h.2,
      λ c r v f. let here = h.3 c r v f in (here.0, digits_on_step m n b (h.0 ++ (c ∷ v)) e ∙ here.1, here.2),
    )
one_more m n b t some few e (bad TooLong rest) h = absurd h
one_more m n b t some few e (bad Byte rest) h =
    let p = digit_parts b e in (
      b ∷ h.0,
      h.1,
      h.2,
      h.3,
      ap (λ x. b ∷ x) h.4,
      (h.5.0, h.5.1, (longer_by n b h.5.0 (h.0 ++ h.5.1) some few p.0 p.1 h.5.2.0, h.5.2.1, h.5.2.2)),
      λ v. digits_on_step m n b (h.0 ++ (h.1 ∷ v)) e ∙ h.6 v,
    )
one_more m n b t some few e (bad Size rest) h = tt
one_more m n b t some few e (bad Outside rest) h = absurd h
one_more m n b t some few e (bad Ended rest) h =
    let p = digit_parts b e in
    let q = h.1.2 in
    (h.0, (h.1.0, h.1.1, (longer_by n b h.1.0 (t ++ h.1.1) some few p.0 p.1 q.0, q.1, q.2)))

see_digits : (m n : ℕ) (t : List ℕ) → m ≤ 3 → 1 ≤ n → n ≤ most m → Seen Same (Longer n) (digits_on m n) t (digits_on m n t)
unfolding digits_on
see_digits zero n [] few some small = ([], (sym (append-nil (decimal n)), some, small), refl, λ c r v f. cc)
see_digits (suc m) n [] few some small = ([], (sym (append-nil (decimal n)), some, within_four (suc m) n small), refl, λ c r v f. cc)
see_digits zero n (b ∷ t) few some small =
    let P : Scan ℕ → Type 0 = Seen Same (Longer n) (digits_on 0 n) (b ∷ t) in
    ⊎_elim
    (λ e. subst P (sym (digits_full n b t e)) ([], b, t, refl, refl, (n, [], (sym (append-nil (decimal n)), some, small)), λ v. digits_full n b v e))
    (λ e. subst P (sym (digits_stop 0 n b t e)) (none_more 0 n b t some small e))
    (cases_Bool (digit b))
see_digits (suc m) n (b ∷ t) few some small =
    let P : Scan ℕ → Type 0 = Seen Same (Longer n) (digits_on (suc m) n) (b ∷ t) in
    ⊎_elim
    (λ e.
    let p = digit_parts b e in
    let q = one_less m n (b - 48) few small (omega arith) in
    subst P (sym (digits_on_step m n b t e)) (one_more m n b t some q.0 e (digits_on m (n * 10 + (b - 48)) t) (see_digits m (n * 10 + (b - 48)) t (omega arith) (omega arith) q.1)))
    (λ e. subst P (sym (digits_stop (suc m) n b t e)) (none_more (suc m) n b t some small e))
    (cases_Bool (digit b))

-- a digit that a number may begin with
abbrev pub leading : ℕ → Bool
leading b = leb 49 b && leb b 57

leading_parts : (b : ℕ) → leading b ≡ true → (49 ≤ b) × (b ≤ 57)
leading_parts b e = let p = and_parts (leb 49 b) (leb b 57) e in (leb-true 49 b p.0, leb-true b 57 p.1)

pub numeral_starts : (b : ℕ) (t : List ℕ) → leading b ≡ true → numeral (b ∷ t) ≡ digits_on 3 (b - 48) t
unfolding numeral
numeral_starts b t e = cond-true (leading b) _ _ e

numeral_none : (b : ℕ) (t : List ℕ) → leading b ≡ false → numeral (b ∷ t) ≡ bad Byte (b ∷ t)
unfolding numeral
numeral_none b t e = cond-false (leading b) _ _ e

-- the digits of a number begin with the first of them
first_digit : (b : ℕ) → 49 ≤ b → b ≤ 57 → decimal (b - 48) ≡ b ∷ []
first_digit b low high = let same : 48 + (b - 48) ≡ b = omega arith in decimal_digit (b - 48) (omega arith) ∙ ap (λ x. x ∷ []) same

begun : (b : ℕ) (t : List ℕ) → leading b ≡ true → (r : Scan ℕ) → Seen Same (Longer (b - 48)) (digits_on 3 (b - 48)) t r → Seen Same Numeral numeral (b ∷ t) r
begun b t e (good k rest) h =
    let p = leading_parts b e in (
      b ∷ h.0,
      (h.1.1, h.1.2, sym (h.1.0 ∙ ap (λ x. x ++ h.0) (first_digit b p.0 p.1))),
      ap (λ x. b ∷ x) h.2,
      λ c r v f. let here = h.3 c r v f in (here.0, numeral_starts b (h.0 ++ (c ∷ v)) e ∙ here.1, here.2),
    )
begun b t e (bad TooLong rest) h = absurd h
begun b t e (bad Byte rest) h =
    let p = leading_parts b e in (
      b ∷ h.0,
      h.1,
      h.2,
      h.3,
      ap (λ x. b ∷ x) h.4,
      (h.5.0, h.5.1, (h.5.2.1, h.5.2.2, sym (h.5.2.0 ∙ ap (λ x. x ++ (h.0 ++ h.5.1)) (first_digit b p.0 p.1)))),
      λ v. numeral_starts b (h.0 ++ (h.1 ∷ v)) e ∙ h.6 v,
    )
begun b t e (bad Size rest) h = tt
begun b t e (bad Outside rest) h = absurd h
begun b t e (bad Ended rest) h =
    let p = leading_parts b e in
    let q = h.1.2 in
    (h.0, (h.1.0, h.1.1, (q.1, q.2, sym (q.0 ∙ ap (λ x. x ++ (t ++ h.1.1)) (first_digit b p.0 p.1)))))

-- no digit follows a number that is read
digits_over : (m n : ℕ) (t : List ℕ) (k : ℕ) (v : List ℕ) → digits_on m n t ≡ good k v → NoDigit v
unfolding digits_on
digits_over zero n [] k v e = let same : [] ≡ v = cc in subst NoDigit same tt
digits_over (suc m) n [] k v e = let same : [] ≡ v = cc in subst NoDigit same tt
digits_over zero n (b ∷ t) k v e =
    ⊎_elim
    (λ d. let z : bad Byte (b ∷ t) ≡ good k v = sym (digits_full n b t d) ∙ e in cc)
    (λ d. let z : good n (b ∷ t) ≡ good k v = sym (digits_stop 0 n b t d) ∙ e in let same : b ∷ t ≡ v = cc in subst NoDigit same d)
    (cases_Bool (digit b))
digits_over (suc m) n (b ∷ t) k v e =
    ⊎_elim
    (λ d. digits_over m (n * 10 + (b - 48)) t k v (sym (digits_on_step m n b t d) ∙ e))
    (λ d. let z : good n (b ∷ t) ≡ good k v = sym (digits_stop (suc m) n b t d) ∙ e in let same : b ∷ t ≡ v = cc in subst NoDigit same d)
    (cases_Bool (digit b))

pub numeral_over : (t : List ℕ) (k : ℕ) (v : List ℕ) → numeral t ≡ good k v → NoDigit v
unfolding numeral
numeral_over [] k v e = cc
numeral_over (b ∷ t) k v e =
    ⊎_elim
    (λ d. digits_over 3 (b - 48) t k v (sym (numeral_starts b t d) ∙ e))
    (λ d. let z : bad Byte (b ∷ t) ≡ good k v = sym (numeral_none b t d) ∙ e in cc)
    (cases_Bool (leading b))

pub one_numeral : Numeral 1 (49 ∷ [])
one_numeral = (omega arith, omega arith, sym (decimal_digit 1 (omega arith)))

pub see_numeral : (t : List ℕ) → Seen Same Numeral numeral t (numeral t)
unfolding numeral
see_numeral [] = (refl, (1, 49 ∷ [], one_numeral))
see_numeral (b ∷ t) =
    let P : Scan ℕ → Type 0 = Seen Same Numeral numeral (b ∷ t) in
    ⊎_elim
    (λ e. let p = leading_parts b e in subst P (sym (numeral_starts b t e)) (begun b t e (digits_on 3 (b - 48) t) (see_digits 3 (b - 48) t (omega arith) (omega arith) (omega arith))))
    (λ e. subst P (sym (numeral_none b t e)) ([], b, t, refl, refl, (1, 49 ∷ [], one_numeral), λ v. numeral_none b v e))
    (cases_Bool (leading b))

pub size_judged : (n : ℕ) (start rest : List ℕ) → n ≤ 32 → judged start n rest ≡ good n rest
size_judged n start rest h = cond-true (leb n 32) _ _ (le-leb n 32 h)

judge : (t : List ℕ) (r : Scan ℕ) → Seen Same Numeral numeral t r → Seen Same Numeral size t (and_then r (judged t))
unfolding size
judge t (good n rest) h =
    let P : Scan ℕ → Type 0 = Seen Same Numeral size t in
    ⊎_elim
    (λ e.
    let few = leb-true n 32 e in
    subst P (sym (size_judged n t rest few)) (
      h.0,
      h.1,
      h.2,
      λ c r v f.
          let here = h.3 c r v f in
          let one : numeral (h.0 ++ (c ∷ v)) ≡ good n (c ∷ v) = here.1 ∙ ap (λ x. good x (c ∷ v)) here.2 in
          (n, ap (λ x. and_then x (judged (h.0 ++ (c ∷ v)))) one ∙ size_judged n (h.0 ++ (c ∷ v)) (c ∷ v) few, refl),
    ))
    (λ e. subst P (sym (cond-false (leb n 32) (good n rest) (bad Size t) e)) tt)
    (cases_Bool (leb n 32))
judge t (bad TooLong rest) h = absurd h
judge t (bad Byte rest) h = (h.0, h.1, h.2, h.3, h.4, h.5, λ v. ap (λ x. and_then x (judged (h.0 ++ (h.1 ∷ v)))) (h.6 v))
judge t (bad Size rest) h = tt
judge t (bad Outside rest) h = absurd h
judge t (bad Ended rest) h = h

pub see_size : (t : List ℕ) → Seen Same Numeral size t (size t)
unfolding size
see_size t = judge t (numeral t) (see_numeral t)

-- a size that is read is at most 32
small : (t : List ℕ) (r : Scan ℕ) (n : ℕ) (rest : List ℕ) → and_then r (judged t) ≡ good n rest → n ≤ 32
small t (good m v) n rest e =
    ⊎_elim
    (λ h. let same : good m v ≡ good n rest = sym (cond-true (leb m 32) (good m v) (bad Size t) h) ∙ e in let one : m ≡ n = cc in subst (λ x. x ≤ 32) one (leb-true m 32 h))
    (λ h. let other : bad Size t ≡ good n rest = sym (cond-false (leb m 32) (good m v) (bad Size t) h) ∙ e in cc)
    (cases_Bool (leb m 32))
small t (bad c v) n rest e = cc

pub size_small : (t : List ℕ) (n : ℕ) (rest : List ℕ) → size t ≡ good n rest → n ≤ 32
unfolding size
size_small t n rest e = small t (numeral t) n rest e

-- the number that digits put to n
abbrev with_digits : ℕ → List ℕ → ℕ
with_digits n [] = n
with_digits n (b ∷ bs) = with_digits (n * 10 + (b - 48)) bs

with_last : (n : ℕ) (ds : List ℕ) (b : ℕ) → with_digits n (ds ++ (b ∷ [])) ≡ with_digits n ds * 10 + (b - 48)
with_last n [] b = refl
with_last n (d ∷ ds) b = with_last (n * 10 + (d - 48)) ds b

each_last : (test : ℕ → Bool) (ds : List ℕ) (b : ℕ) → Each test ds → test b ≡ true → Each test (ds ++ (b ∷ []))
each_last test [] b h e = (e, tt)
each_last test (d ∷ ds) b h e = (h.0, each_last test ds b h.1 e)

is_digit : (d : ℕ) → d ≤ 9 → digit (48 + d) ≡ true
is_digit d h = and_from (leb 48 (48 + d)) (leb (48 + d) 57) (le-leb 48 (48 + d) (omega arith)) (le-leb (48 + d) 57 (omega arith))

-- the digits of a number are digits, and put together they are that number
pub spelt : (n : ℕ) → n < 2 ^ 64 → (with_digits 0 (decimal n) ≡ n) × Each digit (decimal n)
spelt =
    decimal_by_steps (λ n ds. (with_digits 0 ds ≡ n) × Each digit ds)
    (λ n h. (omega arith, (is_digit n (omega arith), tt)))
    (λ n ds h p. (with_last 0 ds (48 + n % 10) ∙ omega (arith, p.0), each_last digit ds (48 + n % 10) p.1 (is_digit (n % 10) (omega arith))))

digits_read : (m n : ℕ) (ds v : List ℕ) → length ds ≤ m → Each digit ds → NoDigit v → digits_on m n (ds ++ v) ≡ good (with_digits n ds) v
unfolding digits_on
digits_read zero n [] [] few h other = refl
digits_read (suc m) n [] [] few h other = refl
digits_read zero n [] (b ∷ v) few h other = digits_stop 0 n b v other
digits_read (suc m) n [] (b ∷ v) few h other = digits_stop (suc m) n b v other
digits_read zero n (d ∷ ds) v few h other = absurd (omega arith)
digits_read (suc m) n (d ∷ ds) v few h other = digits_on_step m n d (ds ++ v) h.0 ∙ digits_read m (n * 10 + (d - 48)) ds v (omega arith) h.1 other

numeral_of : (n : ℕ) (ds v : List ℕ) → with_digits 0 ds ≡ n → Each digit ds → 0 < length ds → length ds ≤ 4 → 48 < get_or ds 0 0 → NoDigit v → numeral (ds ++ v) ≡ good n v
numeral_of n [] v e h some few lead other = absurd (omega arith)
numeral_of n (d ∷ ds) v e h some few lead other =
    let p = digit_parts d h.0 in
    let first : leading d ≡ true = and_from (leb 49 d) (leb d 57) (le-leb 49 d (omega arith)) (le-leb d 57 p.1) in
    let same : 0 * 10 + (d - 48) ≡ d - 48 = omega arith in
    numeral_starts d (ds ++ v) first ∙ digits_read 3 (d - 48) ds v (omega arith) h.1 other ∙ ap (λ x. good x v) (ap (λ x. with_digits x ds) (sym same) ∙ e)

-- the digits of a number are read as it, before anything but a digit
pub numeral_reads : (n : ℕ) (u v : List ℕ) → Numeral n u → NoDigit v → numeral (u ++ v) ≡ good n v
numeral_reads n u v h other =
    let s = spelt n (omega arith) in
    ap (λ x. numeral (x ++ v)) h.2
    ∙ numeral_of n (decimal n) v s.0 s.1 (decimal_nonempty n (omega arith)) (length-decimal-le 4 n (omega arith) (omega arith) (omega arith)) (first_decimal n (omega arith) (omega arith)) other

pub size_reads : (n : ℕ) (u v : List ℕ) → Numeral n u → NoDigit v → size (u ++ v) ≡ judged (u ++ v) n v
unfolding size
size_reads n u v h other = ap (λ x. and_then x (judged (u ++ v))) (numeral_reads n u v h other)

-- a digit is no blank, so that a number does not begin with one
digit_no_blank : (b : ℕ) → digit b ≡ true → blank b ≡ false
digit_no_blank b e = let p = digit_parts b e in grind (arith, nat_tests)

solid_digits : (ds v : List ℕ) → Each digit ds → 0 < length ds → past blank (ds ++ v) ≡ ds ++ v
solid_digits [] v h some = absurd (omega arith)
solid_digits (d ∷ ds) v h some = past_stop blank d (ds ++ v) (digit_no_blank d h.0)

pub numeral_solid : (n : ℕ) (u v : List ℕ) → Numeral n u → past blank (u ++ v) ≡ u ++ v
numeral_solid n u v h =
    let s = spelt n (omega arith) in
    ap (λ x. past blank (x ++ v)) h.2 ∙ solid_digits (decimal n) v s.1 (decimal_nonempty n (omega arith)) ∙ ap (λ x. x ++ v) (sym h.2)
