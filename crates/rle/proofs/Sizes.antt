-- Which parts of a text are at no fault for a size, and that a size which is has a number over 32.
use Rattle.std.proofs.Common.{◌≡◌, ℕ, zero, suc, ◌+◌, ◌-◌, ◌*◌, ◌<◌, Bool, true, false, cond, eqb, leb, ◌⊎◌, List, [], ◌∷◌, ◌++◌, sym, refl, ap, ◌∙◌, subst, inl, inr, ⊎_elim}
use Rattle.std.proofs.lemmas.Bool.{cases_Bool, cond-false, leb-true, leb-false}
use Rattle.rle.specs.declared.fault.ReadCause.{ReadCause}
use Rattle.rle.specs.declared.fault.ReadCause.TheVariants.{TooLong, Byte, Size, Outside, Ended}
use Rattle.rle.specs.declared.phase.Step.{Step}
use Rattle.rle.specs.Forms.{Numeral, NoDigit}
use Rattle.rle.specs.Scans.{Scan, good, bad, and_then, this_byte, gap, byte_of, is_loose, digit, digits_on, numeral, in_turn, size, judged}
use Rattle.rle.proofs.Numerals.{leading, numeral_over, see_numeral, size_judged}
use Rattle.rle.proofs.Seen.{Seen, Same}

-- a part that is at no fault for a size, and one after another
abbrev pub NoSize : {A : Type 0} → Scan A → Type 0
NoSize (good a rest) = Unit {0}
NoSize (bad TooLong rest) = Unit {0}
NoSize (bad Byte rest) = Unit {0}
NoSize (bad Size rest) = ⊥
NoSize (bad Outside rest) = Unit {0}
NoSize (bad Ended rest) = Unit {0}

pub no_size : {A : Type 0} (s : Scan A) (at : List ℕ) → NoSize s → s ≡ bad Size at → ⊥
no_size s at h e = subst NoSize e h

pub then_no_size : {A B : Type 0} (s : Scan A) (k : A → List ℕ → Scan B) → NoSize s → ((a : A) (v : List ℕ) → NoSize (k a v)) → NoSize (and_then s k)
then_no_size (good a rest) k h g = g a rest
then_no_size (bad TooLong rest) k h g = tt
then_no_size (bad Byte rest) k h g = tt
then_no_size (bad Size rest) k h g = absurd h
then_no_size (bad Outside rest) k h g = tt
then_no_size (bad Ended rest) k h g = tt

pub if_no_size : {A : Type 0} (x : Bool) (s r : Scan A) → NoSize s → NoSize r → NoSize (cond x s r)
if_no_size true s r h g = h
if_no_size false s r h g = g

pub byte_no_size : (c : ℕ) (t : List ℕ) → NoSize (this_byte c t)
byte_no_size c [] = tt
byte_no_size c (b ∷ t) = if_no_size (eqb b c) (good tt t) (bad Byte (b ∷ t)) tt tt

pub turn_no_size : (ss : List Step) (t : List ℕ) → NoSize (in_turn ss t)
unfolding in_turn
turn_no_size [] t = tt
turn_no_size (s ∷ ss) t = then_no_size (this_byte (byte_of s) t) (λ _ rest. in_turn ss (gap (is_loose s) rest)) (byte_no_size (byte_of s) t) (λ a v. turn_no_size ss (gap (is_loose s) v))

digits_no_size : (m n : ℕ) (t : List ℕ) → NoSize (digits_on m n t)
unfolding digits_on
digits_no_size zero n [] = tt
digits_no_size (suc m) n [] = tt
digits_no_size zero n (b ∷ t) = if_no_size (digit b) (bad Byte (b ∷ t)) (good n (b ∷ t)) tt tt
digits_no_size (suc m) n (b ∷ t) = if_no_size (digit b) (digits_on m (n * 10 + (b - 48)) t) (good n (b ∷ t)) (digits_no_size m (n * 10 + (b - 48)) t) tt

pub numeral_no_size : (t : List ℕ) → NoSize (numeral t)
unfolding numeral
numeral_no_size [] = tt
numeral_no_size (b ∷ t) = if_no_size (leading b) (digits_on 3 (b - 48) t) (bad Byte (b ∷ t)) (digits_no_size 3 (b - 48) t) tt

-- one part after another is at fault where the first or the second is
pub then_bad : {A B : Type 0} (s : Scan A) (k : A → List ℕ → Scan B) (cause : ReadCause) (at : List ℕ) → and_then s k ≡ bad cause at → (s ≡ bad cause at) ⊎ ((a : A) × (v : List ℕ) × (s ≡ good a v) × (k a v ≡ bad cause at))
then_bad (good a v) k cause at e = inr (a, v, refl, e)
then_bad (bad c v) k cause at e = let same : c ≡ cause = cc in let there : v ≡ at = cc in inl (ap (λ x. bad x v) same ∙ ap (λ x. bad cause x) there)

-- a size that is at fault as one is a number over 32
pub large_number : (t at : List ℕ) → size t ≡ bad Size at → (n : ℕ) × (u : List ℕ) × (v : List ℕ) × Numeral n u × NoDigit v × (32 < n) × (at ≡ u ++ v) × (t ≡ at)
unfolding size
large_number t at e =
    ⊎_elim
    (λ f. absurd (no_size (numeral t) at (numeral_no_size t) f))
    (λ a.
    let P : Scan ℕ → Type 0 = Seen Same Numeral numeral t in
    let s = subst P a.2 (see_numeral t) in
    ⊎_elim
    (λ f. let z : good a.0 a.1 ≡ bad Size at = sym (size_judged a.0 t a.1 (leb-true a.0 32 f)) ∙ a.3 in cc)
    (λ f.
    let judged_here : bad Size t ≡ bad Size at = sym (cond-false (leb a.0 32) (good a.0 a.1) (bad Size t) f) ∙ a.3 in
    let there : t ≡ at = cc in
    let split : at ≡ s.0 ++ a.1 = subst (λ x. x ≡ s.0 ++ a.1) there s.2 in
    (a.0, s.0, a.1, s.1, numeral_over t a.0 a.1 a.2, leb-false a.0 32 f, split, there))
    (cases_Bool (leb a.0 32)))
    (then_bad (numeral t) (judged t) Size at e)
