-- What is passed at the front of a text, and what is left.
use Rattle.std.proofs.Common.{◌≡◌, ℕ, Bool, true, false, List, [], ◌∷◌, ◌++◌, sym, refl, ap, ◌∙◌, ⊎_elim}
use Rattle.std.proofs.lemmas.Bool.{cases_Bool, cond-true, cond-false}
use Rattle.lines.specs.Lines.{blank}
use Rattle.rle.specs.Forms.{Each, Gap}
use Rattle.rle.specs.Scans.{past, gap}

-- a byte that passes is passed, and one that does not stays
pub past_on : (test : ℕ → Bool) (b : ℕ) (t : List ℕ) → test b ≡ true → past test (b ∷ t) ≡ past test t
unfolding past
past_on test b t h = cond-true (test b) (past test t) (b ∷ t) h

pub past_stop : (test : ℕ → Bool) (b : ℕ) (t : List ℕ) → test b ≡ false → past test (b ∷ t) ≡ b ∷ t
unfolding past
past_stop test b t h = cond-false (test b) (past test t) (b ∷ t) h

pub past_end : (test : ℕ → Bool) → past test [] ≡ []
unfolding past
past_end test = refl

pub past_over : (test : ℕ → Bool) (bs t : List ℕ) → Each test bs → past test (bs ++ t) ≡ past test t
past_over test [] t h = refl
past_over test (b ∷ bs) t h = past_on test b (bs ++ t) h.0 ∙ past_over test bs t h.1

-- a text is what is passed, and what is left
pub past_split : (test : ℕ → Bool) (t : List ℕ) → (bs : List ℕ) × Each test bs × (t ≡ bs ++ past test t)
unfolding past
past_split test [] = ([], tt, refl)
past_split test (b ∷ t) =
    ⊎_elim
    (λ e. let rest = past_split test t in (b ∷ rest.0, (e, rest.1), ap (λ x. b ∷ x) rest.2 ∙ ap (λ x. b ∷ (rest.0 ++ x)) (sym (past_on test b t e))))
    (λ e. ([], tt, sym (past_stop test b t e)))
    (cases_Bool (test b))

-- what is left begins with a byte that does not pass
pub past_first : (test : ℕ → Bool) (t : List ℕ) (b : ℕ) (r : List ℕ) → past test t ≡ b ∷ r → test b ≡ false
unfolding past
past_first test [] b r e = cc
past_first test (c ∷ t) b r e =
    ⊎_elim
    (λ h. past_first test t b r (sym (past_on test c t h) ∙ e))
    (λ h. let same : c ∷ t ≡ b ∷ r = sym (past_stop test c t h) ∙ e in let first : c ≡ b = cc in rw (← first) h)
    (cases_Bool (test c))

-- so does anything with the same first byte
pub past_stays : (test : ℕ → Bool) (t u : List ℕ) (b : ℕ) (r v : List ℕ) → past test t ≡ u ++ (b ∷ r) → past test (u ++ (b ∷ v)) ≡ u ++ (b ∷ v)
past_stays test t [] b r v e = past_stop test b v (past_first test t b r e)
past_stays test t (c ∷ u) b r v e = past_stop test c (u ++ (b ∷ v)) (past_first test t c (u ++ (b ∷ r)) e)

pub past_past : (test : ℕ → Bool) (t : List ℕ) → past test (past test t) ≡ past test t
unfolding past
past_past test [] = refl
past_past test (b ∷ t) =
    ⊎_elim
    (λ e. ap (past test) (past_on test b t e) ∙ past_past test t ∙ sym (past_on test b t e))
    (λ e. ap (past test) (past_stop test b t e))
    (cases_Bool (test b))

-- the same of the blanks that may follow a byte
pub gap_split : (loose : Bool) (t : List ℕ) → (bs : List ℕ) × Gap loose bs × (t ≡ bs ++ gap loose t)
gap_split true t = past_split blank t
gap_split false t = ([], refl, refl)

pub gap_stays : (loose : Bool) (g t u : List ℕ) (b : ℕ) (r v : List ℕ) → Gap loose g → gap loose t ≡ u ++ (b ∷ r) → gap loose (g ++ (u ++ (b ∷ v))) ≡ u ++ (b ∷ v)
gap_stays true g t u b r v h e = past_over blank g (u ++ (b ∷ v)) h ∙ past_stays blank t u b r v e
gap_stays false g t u b r v h e = ap (λ x. x ++ (u ++ (b ∷ v))) h
