-- How numbers are read digit by digit.
use Rattle.std.proofs.Common.{◌≡◌, ℕ, suc, ◌+◌, ◌-◌, ◌*◌, ◌^◌, ◌<◌, ◌≤◌, true, false, cond, ◌&&◌, leb, List, [], ◌∷◌, drop, Some, None, Ok, sym, refl, ap, ◌∙◌, ⊎_elim, pow-suc, add-one, arith}
use Rattle.std.specs.Option.{ok_or}
use native.Mathlib.Nat.{pow-le-pow_right}
use Rattle.std.proofs.lemmas.Bool.{cond-true, cond-false, le-leb, and_from, cases_Bool}
use Rattle.rle.proofs.Numerals.{digit_parts, digits_on_step, digits_stop, digits_full, numeral_starts}
use Rattle.rle.specs.declared.fault.ReadCause.TheVariants.{Byte, Ended}
use Rattle.rle.specs.Scans.{good, bad, digit, digits_on, numeral}
use Rattle.reader.specs.Left.{first_of, longer_by}

pub is_between : (low high b : ℕ) → low ≤ b → b ≤ high → (leb low b && leb b high) ≡ true
is_between low high b l h = and_from _ _ (le-leb low b l) (le-leb b high h)

is_digit : (n m b : ℕ) → cond (digit b) (Some (n * 10 + (b - 48))) None ≡ Some m → (digit b ≡ true) × (n * 10 + (b - 48) ≡ m)
is_digit n m b h =
    ⊎_elim
    (λ e. let same = sym (cond-true (digit b) (Some (n * 10 + (b - 48))) None e) ∙ h in (e, cc))
    (λ e. let none = sym (cond-false (digit b) (Some (n * 10 + (b - 48))) None e) ∙ h in cc)
    (cases_Bool (digit b))

no_digit : (n b : ℕ) → cond (digit b) (Some (n * 10 + (b - 48))) None ≡ None → digit b ≡ false
no_digit n b h =
    ⊎_elim (λ e. let some = sym (cond-true (digit b) (Some (n * 10 + (b - 48))) None e) ∙ h in cc) (λ e. e) (cases_Bool (digit b))

pub digits_over : (more n : ℕ) (t : List ℕ) → longer_by n t ≡ None → good n t ≡ digits_on more n t
unfolding digits_on
digits_over more n [] h = refl
digits_over more n (b ∷ bs) h = sym (digits_stop more n b bs (no_digit n b h))

pub digits_over_four : (n m : ℕ) (t : List ℕ) → longer_by n t ≡ Some m → bad Byte t ≡ digits_on 0 n t
digits_over_four n m [] h = cc
digits_over_four n m (b ∷ bs) h = sym (digits_full n b bs (is_digit n m b h).0)

digits_more : (more n m : ℕ) (t : List ℕ) → longer_by n t ≡ Some m → digits_on more m (drop 1 t) ≡ digits_on (suc more) n t
digits_more more n m [] h = cc
digits_more more n m (b ∷ bs) h =
    let is = is_digit n m b h in
    ap (λ k. digits_on more k bs) (sym is.1) ∙ sym (digits_on_step more n b bs is.0)

-- one digit more
pub grown : (n m i : ℕ) (t : List ℕ) → longer_by n t ≡ Some m → n < 10 ^ i → m < 10 ^ (i + 1)
grown n m i [] h few = cc
grown n m i (b ∷ bs) h few =
    let is = is_digit n m b h in
    let more : 10 ^ (i + 1) ≡ 10 ^ i * 10 = ap (λ k. 10 ^ k) (add-one i) ∙ pow-suc 10 i in
    omega (arith, digit_parts b is.0, is.1)

-- four digits at most
pub small : (n i : ℕ) → n < 10 ^ i → i ≤ 4 → n ≤ 9999
small n i h k = let most : 10 ^ i ≤ 10 ^ 4 = let some : 0 < 10 = omega arith in pow-le-pow_right some k in omega arith

-- what may follow the digits so far, one digit further
pub digits_next : (i n m : ℕ) (t : List ℕ) → i < 4 → longer_by n t ≡ Some m → digits_on (4 - (i + 1)) m (drop 1 t) ≡ digits_on (4 - i) n t
digits_next i n m t h e =
    let more : suc (4 - (i + 1)) ≡ 4 - i = omega arith in
    digits_more (4 - (i + 1)) n m t e ∙ ap (λ k. digits_on k n t) more

-- after four digits none may follow
pub digits_last : (i n : ℕ) (t : List ℕ) → 4 ≤ i → digits_on 0 n t ≡ digits_on (4 - i) n t
digits_last i n t h = let all : 0 ≡ 4 - i = omega arith in ap (λ k. digits_on k n t) all

-- a number begins with a digit other than 0
pub numeral_digits : (t : List ℕ) (b : ℕ) → ok_or (first_of t) Ended ≡ Ok b → 49 ≤ b → b ≤ 57 → digits_on 4 0 t ≡ numeral t
numeral_digits [] b e low high = cc
numeral_digits (x ∷ bs) b e low high =
    let same : x ≡ b = cc in
    digits_on_step 3 0 x bs (is_between 48 57 x (omega arith) (omega arith))
    ∙ ap (λ n. digits_on 3 n bs) (omega arith)
    ∙ sym (numeral_starts x bs (is_between 49 57 x (omega arith) (omega arith)))
