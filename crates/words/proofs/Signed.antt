-- Numbers that may be below 0, and values.
use Rattle.std.proofs.Common.{◌≡◌, ℕ, zero, suc, ◌<◌, true, false, List, [], ◌∷◌, ◌++◌, length, get_or, Some, None, decimal, Option, ℤ, pos, negsuc, sym, refl, ap, subst, ◌∙◌, ⊎_elim, arith}
use Rattle.std.proofs.lemmas.Bool.{cases_Bool, cond-false, cond-true}
use Rattle.lines.specs.Lines.{blank}
use Rattle.words.specs.Forms.{Digits, KeyAndValue, SignedDigits}
use Rattle.words.specs.Words.{after_blank, after_key, below_zero, blank_passed, number_of, signed_by, signed_of, value_after, whole}
use Rattle.words.proofs.Keys.{either, key_found, key_misses, key_only}
use Rattle.words.proofs.Numbers.{digit_in, digits_number, no_blank, number_digits, number_read, some_digit}

-- what is read of a number without a sign, and with one
whole_is : (o : Option ℕ) (z : ℤ) → whole o ≡ Some z → (n : ℕ) × (o ≡ Some n) × (pos n ≡ z)
whole_is None z e = absurd (cc)
whole_is (Some n) z e = (n, refl, cc)

below_is : (o : Option ℕ) (z : ℤ) → below_zero o ≡ Some z → (n : ℕ) × (o ≡ Some (suc n)) × (negsuc n ≡ z)
below_is None z e = absurd (cc)
below_is (Some zero) z e = absurd (cc)
below_is (Some (suc n)) z e = (n, refl, cc)

pub signed_read : (w : List ℕ) (z : ℤ) → SignedDigits z w → signed_of w ≡ Some z
signed_read w (pos n) d =
    let none = key_misses (45 ∷ []) w (λ rest e. let front : get_or w 0 0 ≡ 45 = ap (λ l. get_or l 0 0) e in omega (arith, digit_in w n d 0 (some_digit w n d))) in
    ap (signed_by w) none ∙ ap whole (digits_number w n d)
signed_read w (negsuc n) d =
    ap (signed_by w) (key_found (45 ∷ []) w (decimal (suc n)) d.1) ∙ ap below_zero (number_read (decimal (suc n)) (suc n) refl (omega (arith, d.0)))

pub signed_only : (w : List ℕ) (z : ℤ) → signed_of w ≡ Some z → SignedDigits z w
signed_only w z e =
    ⊎_elim
    (λ none. let is = whole_is (number_of w) z (sym (ap (signed_by w) none) ∙ e) in subst (λ y. SignedDigits y w) is.2 (number_digits w is.0 is.1))
    (λ (ds, some). let is = below_is (number_of ds) z (sym (ap (signed_by w) some) ∙ e) in let d = number_digits ds (suc is.0) is.1 in subst (λ y. SignedDigits y w) is.2 (omega (arith, d.0), key_only (45 ∷ []) w ds some ∙ ap (λ l. 45 ∷ l) d.1))
    (either (after_key (45 ∷ []) w))

-- a value follows its key and a blank
pub value_read : (key value line : List ℕ) → KeyAndValue key value line → value_after key line ≡ Some value
value_read key value line (b, is, e) = ap blank_passed (key_found key line (b ∷ value) e) ∙ cond-true (blank b) (Some value) None is

after_only : (t value : List ℕ) → after_blank t ≡ Some value → (b : ℕ) × (blank b ≡ true) × (t ≡ b ∷ value)
after_only [] value e = absurd (cc)
after_only (b ∷ bs) value e =
    ⊎_elim
    (λ is. let same : Some bs ≡ Some value = sym (cond-true (blank b) (Some bs) None is) ∙ e in (b, is, cc))
    (λ no. let none : None ≡ Some value = sym (cond-false (blank b) (Some bs) None no) ∙ e in absurd (cc))
    (cases_Bool (blank b))

pub value_only : (key value line : List ℕ) → value_after key line ≡ Some value → KeyAndValue key value line
value_only key value line e =
    ⊎_elim
    (λ none. let no : None ≡ Some value = sym (ap blank_passed none) ∙ e in absurd (cc))
    (λ (t, some). let after = after_only t value (sym (ap blank_passed some) ∙ e) in (after.0, after.1, key_only key line t some ∙ ap (λ l. key ++ l) after.2))
    (either (after_key key line))

-- no blank stands in a word that is a number
pub digits_solid : (w : List ℕ) (n : ℕ) → Digits n w → (k : ℕ) → k < length w → blank (get_or w k 0) ≡ false
digits_solid w n d k h = no_blank (get_or w k 0) (omega (arith, digit_in w n d k h))

minus_solid : (w : List ℕ) (n : ℕ) → Digits n w → (k : ℕ) → k < length (45 ∷ w) → blank (get_or (45 ∷ w) k 0) ≡ false
minus_solid w n d zero h = refl
minus_solid w n d (suc k) h = digits_solid w n d k (omega arith)

pub signed_solid : (w : List ℕ) (z : ℤ) → SignedDigits z w → (k : ℕ) → k < length w → blank (get_or w k 0) ≡ false
signed_solid w (pos n) d k h = digits_solid w n d k h
signed_solid w (negsuc n) d k h =
    ap (λ l. blank (get_or l k 0)) d.1 ∙ minus_solid (decimal (suc n)) (suc n) (omega (arith, d.0), refl) k (omega (arith, ap length d.1))
