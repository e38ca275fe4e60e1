-- What the first byte tells of passing bytes and of reading a part.
use Rattle.std.proofs.Common.{◌≡◌, ℕ, ◌<◌, Bool, true, false, List, [], ◌∷◌, length, get_or, drop, Some, None, MatchOption, sym, refl, ◌∙◌, ⊎_elim}
use Rattle.std.proofs.lemmas.Bool.{cond-true, cond-false, false≢true, cases_lt}
use Rattle.std.proofs.lemmas.List.{at_drop_more, at_drop_all}
use Rattle.rle.specs.Scans.{past}
use Rattle.reader.specs.Left.{first_of}

-- where a first byte is left, the text goes on there with it
pub first_within : (t : List ℕ) (i b : ℕ) → first_of (drop i t) ≡ Some b → i < length t
first_within t i b e =
    ⊎_elim (λ h. h) (λ h. let z : None ≡ Some b = sym (at_drop_all first_of t i h) ∙ e in cc) (cases_lt i (length t))

pub first_at : (t : List ℕ) (i b : ℕ) → first_of (drop i t) ≡ Some b → get_or t i 0 ≡ b
first_at t i b e = let same : Some (get_or t i 0) ≡ Some b = sym (at_drop_more first_of t i 0 (first_within t i b e)) ∙ e in cc

-- a test of the first byte tells whether more is passed
pub past_on : (test : ℕ → Bool) (t : List ℕ) (r : Bool) → MatchOption (first_of t) (r ≡ false) (λ b. r ≡ test b) → r ≡ true → past test (drop 1 t) ≡ past test t
unfolding past
past_on test [] r h is = absurd (false≢true (sym h ∙ is))
past_on test (b ∷ bs) r h is = sym (cond-true (test b) _ _ (sym h ∙ is))

pub past_off : (test : ℕ → Bool) (t : List ℕ) (r : Bool) → MatchOption (first_of t) (r ≡ false) (λ b. r ≡ test b) → r ≡ false → past test t ≡ t
unfolding past
past_off test [] r h isnt = refl
past_off test (b ∷ bs) r h isnt = cond-false (test b) _ _ (sym h ∙ isnt)
