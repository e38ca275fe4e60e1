-- Which rows of bytes are the digits of a number, and which are those of none.
use Rattle.std.proofs.Common.{◌≡◌, ℕ, ◌^◌, ◌<◌, List, length, get_or, drop, decimal, Ok, Err, Result, Option, sym, ap, ◌∙◌, subst, ⊎_elim, arith}
use Rattle.std.specs.Prelude.{IsUtf8}
use Rattle.std.specs.Result.{result_ok}
use Rattle.std.specs.Str.Parse.{AllDigits, digits_value, without_leading_plus, ParsesUnsigned}
use Rattle.std.proofs.lemmas.Fmt.{IsAscii-decimal, decimal_digit, decimal_is_IsNumeral, decimal_nonempty, first_decimal, length-decimal-le, decimal-digits_value, parse-decimal}
use Rattle.std.proofs.lemmas.Str.{IsUtf8-from_ascii}
use Rattle.std.proofs.lemmas.Str.Parse.{IsNumeralModel, numerals_by_value, tells_digits, digit_at}
use Rattle.std.proofs.lemmas.Bool.{cases_eq, cond-false, ne_eqb}
use Rattle.numbers.specs.Digits.{OneRow}
use Rattle.numbers.specs.Reading.{Reads}

pub own : IsNumeralModel (AllDigits 10) (digits_value 10)
own = numerals_by_value (AllDigits 10) tells_digits

pub never_longer : (bs : List ℕ) → 20 < length bs → (n : ℕ) → n < 2 ^ 64 → decimal n ≡ bs → ⊥
never_longer bs h n k e = omega (arith, length-decimal-le 20 n (omega arith) (omega arith) k, ap length e)

pub never_plus : (bs : List ℕ) → get_or bs 0 0 ≡ 43 → (n : ℕ) → n < 2 ^ 64 → decimal n ≡ bs → ⊥
never_plus bs plus n k e =
    let digits : AllDigits 10 bs = subst (AllDigits 10) e (decimal_is_IsNumeral n k).0.1 in
    let digit = digit_at bs 0 digits (omega (arith, decimal_nonempty n k, ap length e)) in
    omega arith

pub never_zero_first : (bs : List ℕ) → get_or bs 0 0 ≡ 48 → 1 < length bs → (n : ℕ) → n < 2 ^ 64 → decimal n ≡ bs → ⊥
never_zero_first bs z h n k e =
    ⊎_elim
    (λ zero. omega (arith, ap length (decimal_digit n (omega arith)), ap length e))
    (λ more. omega (arith, first_decimal n (omega arith) k, ap (λ l. get_or l 0 0) e))
    (cases_eq n 0)

pub never_other : (bs : List ℕ) → (IsUtf8 bs → ⊥) → (n : ℕ) → n < 2 ^ 64 → decimal n ≡ bs → ⊥
never_other bs other n k e = other (subst IsUtf8 e (IsUtf8-from_ascii (decimal n) (IsAscii-decimal n k)))

-- without a plus and a leading zero, what is parsed is what is read
pub parsed_reads : {E : Type 0} (bs : List ℕ) (r : Result ℕ E) (o : Option ℕ) → (get_or bs 0 0 ≡ 43 → ⊥) → (get_or bs 0 0 ≡ 48 → length bs ≡ 1) → ParsesUnsigned 64 10 bs r → o ≡ result_ok r → Reads bs o
parsed_reads bs (Ok m) o plus single p e =
    let same : without_leading_plus bs ≡ bs = ap (λ n. drop n bs) (cond-false _ 1 0 (ne_eqb (get_or bs 0 0) 43 plus)) in
    let digits : AllDigits 10 bs = subst (AllDigits 10) same p.0.0.1 in
    let is : m ≡ digits_value 10 bs = p.1 ∙ ap (digits_value 10) same in
    let P : Option ℕ → Type 0 = Reads bs in
    subst P (sym e) (ap decimal is ∙ decimal-digits_value own bs digits (omega (arith, ap length same)) single (omega (arith, ap (digits_value 10) same)))
parsed_reads bs (Err f) o plus single p e =
    let P : Option ℕ → Type 0 = Reads bs in
    subst P (sym e) (λ n k same. let is = parse-decimal 64 n bs (Err f) k k (sym same) p in absurd (cc))

-- a leading zero is the whole of the digits
zero_alone : (n : ℕ) → n < 2 ^ 64 → get_or (decimal n) 0 0 ≡ 48 → length (decimal n) ≡ 1
zero_alone n k z =
    ⊎_elim
    (λ zero. ap length (decimal_digit n (omega arith)))
    (λ more. absurd (omega (arith, first_decimal n (omega arith) k)))
    (cases_eq n 0)

-- the digits of a number stand for it, and nothing else does
pub one_row : OneRow
one_row n k =
    let is = decimal_is_IsNumeral n k in (
      record { some = is.0.0; digits = is.0.1; lead = zero_alone n k; value = is.1 },
      λ row r. sym (ap decimal (sym r.value) ∙ decimal-digits_value own row r.digits r.some r.lead (omega (arith, r.value))),
    )
