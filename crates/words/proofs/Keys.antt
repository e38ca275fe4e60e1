-- What follows a key, as the library cuts it off.
use Rattle.std.proofs.Common.{◌≡◌, ℕ, eqb, ◌⊎◌, List, [], ◌∷◌, ◌++◌, Some, None, Option, ◌≢◌, inl, inr, sym, refl, ap, ◌∙◌, ⊎_elim}
use Rattle.std.proofs.lemmas.Bool.{cases_Bool, cond-false, cond-true, eq-eqb, eqb-true}
use Rattle.std.specs.Prelude.{MatchOption}
use Rattle.std.specs.Borrow.{Bor}
use Rattle.words.specs.Words.{after_key, seen}

-- a value is there or not
pub either : {A : Type 0} (o : Option A) → (o ≡ None) ⊎ ((a : A) × (o ≡ Some a))
either None = inl refl
either (Some a) = inr (a, refl)

-- what follows a key
pub key_front : (p rest : List ℕ) → after_key p (p ++ rest) ≡ Some rest
unfolding after_key
key_front [] rest = refl
key_front (k ∷ ks) rest = cond-true (eqb k k) _ _ (eq-eqb k k refl) ∙ key_front ks rest

-- and a line with another front has no such key
pub key_only : (p s rest : List ℕ) → after_key p s ≡ Some rest → s ≡ p ++ rest
unfolding after_key
key_only [] s rest e = cc
key_only (k ∷ ks) [] rest e = absurd (cc)
key_only (k ∷ ks) (b ∷ bs) rest e =
    ⊎_elim
    (λ same. let more = key_only ks bs rest (sym (cond-true (eqb b k) _ _ same) ∙ e) in let first = eqb-true b k same in cc)
    (λ other. let none = sym (cond-false (eqb b k) (after_key ks bs) None other) ∙ e in absurd (cc))
    (cases_Bool (eqb b k))

pub key_misses : (p s : List ℕ) → ((rest : List ℕ) → s ≢ p ++ rest) → after_key p s ≡ None
key_misses p s none = ⊎_elim (λ e. e) (λ (a, e). absurd (none a (key_only p s a e))) (either (after_key p s))

pub key_found : (p s rest : List ℕ) → s ≡ p ++ rest → after_key p s ≡ Some rest
key_found p s rest e = ap (after_key p) e ∙ key_front p rest

-- the same for a cut that is made or not
pub key_told : (s p : List ℕ) (r : Option (Bor (List ℕ))) → MatchOption r ((rest : List ℕ) → s ≢ p ++ rest) (λ x. s ≡ p ++ x.now) → seen r ≡ after_key p s
key_told s p None none = sym (key_misses p s none)
key_told s p (Some x) e = sym (key_found p s x.now e)
