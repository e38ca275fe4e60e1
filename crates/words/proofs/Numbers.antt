-- Which number the digits of a word are.
use Rattle.std.proofs.Common.{◌≡◌, ℕ, ◌^◌, ◌<◌, ◌≤◌, false, ◌&&◌, leb, List, length, get_or, Some, None, decimal, ◌≢◌, sym, refl, ap, subst, ◌∙◌, ⊎_elim, arith}
use Rattle.std.specs.Prelude.{bytes_eq}
use Rattle.std.specs.Str.Parse.{AllDigits, digits_value}
use Rattle.std.proofs.lemmas.Bool.{cases_Bool, cases_lt, cond-false, cond-true, and_from, and_left, and_right, and_parts, le-leb, leb-true, lt-leb, ne_eqb}
use Rattle.std.proofs.lemmas.Fmt.{decimal_is_IsNumeral, decimal_nonempty}
use Rattle.std.proofs.lemmas.Slice.Eq.{bytes_eq-Decides}
use Rattle.std.proofs.lemmas.Str.Parse.{digit_at}
use Rattle.lines.specs.Lines.{blank}
use Rattle.words.specs.Forms.{Digits}
use Rattle.words.specs.Words.{number_of}

-- a number's digits have its value
pub value_is : (bs : List ℕ) (n : ℕ) → n < 2 ^ 64 → decimal n ≡ bs → digits_value 10 bs ≡ n
value_is bs n k e = ap (digits_value 10) (sym e) ∙ (decimal_is_IsNumeral n k).1

pub number_read : (bs : List ℕ) (n : ℕ) → decimal n ≡ bs → n ≤ 9999 → number_of bs ≡ Some n
unfolding number_of
number_read bs n e small =
    let is = value_is bs n (omega arith) e in
    cond-true _ _ None (and_from _ _ (le-leb (digits_value 10 bs) 9999 (omega arith)) ((bytes_eq-Decides (decimal (digits_value 10 bs)) bs).1 (ap decimal is ∙ e))) ∙ ap Some is

pub number_large : (bs : List ℕ) (n : ℕ) → n < 2 ^ 64 → decimal n ≡ bs → 9999 < n → number_of bs ≡ None
unfolding number_of
number_large bs n k e large =
    let is = value_is bs n k e in
    cond-false _ (Some (digits_value 10 bs)) None (and_left _ _ (lt-leb (digits_value 10 bs) 9999 (omega arith)))

pub number_none : (bs : List ℕ) → ((n : ℕ) → n < 2 ^ 64 → decimal n ≢ bs) → number_of bs ≡ None
unfolding number_of
number_none bs none =
    let v = digits_value 10 bs in
    ⊎_elim
    (λ large. cond-false _ (Some v) None (and_left _ _ (lt-leb v 9999 large)))
    (λ small. ⊎_elim
    (λ e. absurd (none v (omega arith) ((bytes_eq-Decides (decimal v) bs).0 e)))
    (λ e. cond-false _ (Some v) None (and_right _ _ e))
    (cases_Bool (bytes_eq (decimal v) bs)))
    (cases_lt 9999 v)

pub digits_number : (w : List ℕ) (n : ℕ) → Digits n w → number_of w ≡ Some n
digits_number w n d = number_read w n (sym d.1) d.0

-- a word that is read as a number is its digits
pub number_digits : (w : List ℕ) (n : ℕ) → number_of w ≡ Some n → Digits n w
unfolding number_of
number_digits w n e =
    let v = digits_value 10 w in
    ⊎_elim
    (λ t. let is : Some v ≡ Some n = sym (cond-true _ (Some v) None t) ∙ e in let same : v ≡ n = cc in let parts = and_parts (leb v 9999) (bytes_eq (decimal v) w) t in (omega (arith, leb-true v 9999 parts.0), sym ((bytes_eq-Decides (decimal v) w).0 parts.1) ∙ ap decimal same))
    (λ f. let none : None ≡ Some n = sym (cond-false _ (Some v) None f) ∙ e in absurd (cc))
    (cases_Bool (leb v 9999 && bytes_eq (decimal v) w))

-- a byte from `-` on is no blank
pub no_blank : (b : ℕ) → 45 ≤ b → blank b ≡ false
no_blank b h =
    let space = ne_eqb b 32 (λ e. omega (arith, e)) in
    let tab = ne_eqb b 9 (λ e. omega (arith, e)) in
    let ret = ne_eqb b 13 (λ e. omega (arith, e)) in rw (space, tab, ret) refl

-- a number's digits are digits
pub digit_in : (w : List ℕ) (n : ℕ) → Digits n w → (k : ℕ) → k < length w → 48 ≤ get_or w k 0
digit_in w n d k h =
    let digits : AllDigits 10 w = subst (AllDigits 10) (sym d.1) (decimal_is_IsNumeral n (omega (arith, d.0))).0.1 in
    let digit = digit_at w k digits h in omega (arith, digit)

pub some_digit : (w : List ℕ) (n : ℕ) → Digits n w → 0 < length w
some_digit w n d = omega (arith, decimal_nonempty n (omega (arith, d.0)), ap length d.1)
