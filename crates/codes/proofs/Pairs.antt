-- What every fitting pair says.
use Rattle.std.proofs.Common.{◌≡◌, ℕ, zero, suc, ◌+◌, ◌<◌, ◌≤◌, Bool, true, false, List, [], ◌∷◌, sym, refl, ap, ◌∙◌, subst, inl, inr, arith}
use Rattle.std.proofs.lemmas.Bool.{and_parts, and_from, cases_eq, both_ways}
use Rattle.codes.specs.declared.value.Value.{Value}
use Rattle.codes.specs.declared.value.Value.TheVariants.{Off, On, Unknown}
use Rattle.codes.specs.Values.{agrees}
use Rattle.codes.specs.Codes.{Parts, Pair, is, is_unknown, fits, keep_if, fitting_of, fitting, is_empty, every}

pub unlike : {A : Type 0} → false ≡ true → A
unlike e = absurd (both_ways false refl e)

pub is_state : (b a : Bool) → is b a ≡ true → a ≡ b
is_state true a e = e
is_state false false e = refl
is_state false true e = unlike e

pub state_is : (b a : Bool) → a ≡ b → is b a ≡ true
state_is true a e = e
state_is false false e = refl
state_is false true e = unlike (sym e)

pub unknown_value : (v : Value) → is_unknown v ≡ true → v ≡ Unknown
unknown_value Off e = unlike e
unknown_value On e = unlike e
unknown_value Unknown e = refl

pub value_unknown : (v : Value) → v ≡ Unknown → is_unknown v ≡ true
value_unknown v e = ap is_unknown e

-- a pair that fits, with a sum that is possible
pub record Fit (rule : Bool → ℕ → Bool) (d : Parts) (p : Pair) : Type 0 where
  pub centre : agrees d.centre p.centre ≡ true
  pub successor : agrees d.successor (rule p.centre p.sum) ≡ true
  pub low : d.on ≤ p.sum
  pub high : p.sum ≤ d.on + d.unknown

-- a pair of a descriptor, by how many unknown neighbours are on
abbrev pair_at : Parts → Bool → ℕ → Pair
pair_at d k n = record { centre = k; sum = d.on + n }

module _ (t : Pair → Bool) where
  first_passes : (b : Bool) (p : Pair) (ps : List Pair) → every t (keep_if b p ps) ≡ true → b ≡ true → t p ≡ true
  first_passes true p ps e h = (and_parts (t p) (every t ps) e).0
  first_passes false p ps e h = unlike h

  rest_passes : (b : Bool) (p : Pair) (ps : List Pair) → every t (keep_if b p ps) ≡ true → every t ps ≡ true
  rest_passes true p ps e = (and_parts (t p) (every t ps) e).1
  rest_passes false p ps e = e

  both_pass : (b : Bool) (p : Pair) (ps : List Pair) → (b ≡ true → t p ≡ true) → every t ps ≡ true → every t (keep_if b p ps) ≡ true
  both_pass true p ps h e = and_from (t p) (every t ps) (h refl) e
  both_pass false p ps h e = e

  module _ (rule : Bool → ℕ → Bool) (d : Parts) where
    passes_at : (n : ℕ) (k : Bool) → every t (fitting_of rule d (suc n)) ≡ true → fits rule d (pair_at d k n) ≡ true → t (pair_at d k n) ≡ true
    passes_at n false e f = first_passes (fits rule d (pair_at d false n)) (pair_at d false n) _ e f
    passes_at n true e f =
        first_passes (fits rule d (pair_at d true n)) (pair_at d true n) (fitting_of rule d n)
        (rest_passes (fits rule d (pair_at d false n)) (pair_at d false n) _ e) f

    passes_below : (n : ℕ) → every t (fitting_of rule d (suc n)) ≡ true → every t (fitting_of rule d n) ≡ true
    passes_below n e =
        rest_passes (fits rule d (pair_at d true n)) (pair_at d true n) (fitting_of rule d n)
        (rest_passes (fits rule d (pair_at d false n)) (pair_at d false n) _ e)

    passes : (n : ℕ) → every t (fitting_of rule d n) ≡ true → (p : Pair) → fits rule d p ≡ true → d.on ≤ p.sum → p.sum < d.on + n → t p ≡ true
    passes zero e p f low high = absurd (omega arith)
    passes (suc n) e p f low high =
        elim (cases_eq p.sum (d.on + n)) [
          | inl q ↦ subst (λ (s : ℕ). fits rule d (record { centre = p.centre; sum = s }) ≡ true → t (record { centre = p.centre; sum = s }) ≡ true) (sym q) (passes_at n p.centre e) f
          | inr q ↦ passes n (passes_below n e) p f low (omega arith)
        ]

    fit_at : (n : ℕ) (k : Bool) → n ≤ d.unknown → fits rule d (pair_at d k n) ≡ true → Fit rule d (pair_at d k n)
    fit_at n k l f =
        let both = and_parts (agrees d.centre k) (agrees d.successor (rule k (d.on + n))) f in
        record { centre = both.0; successor = both.1; low = omega arith; high = omega arith }

    passed : ((p : Pair) → Fit rule d p → t p ≡ true) → (n : ℕ) → n ≤ suc d.unknown → every t (fitting_of rule d n) ≡ true
    passed h zero l = refl
    passed h (suc n) l =
        both_pass (fits rule d (pair_at d false n)) (pair_at d false n) _
        (λ f. h (pair_at d false n) (fit_at n false (omega arith) f))
        (both_pass (fits rule d (pair_at d true n)) (pair_at d true n) (fitting_of rule d n)
        (λ f. h (pair_at d true n) (fit_at n true (omega arith) f)) (passed h n (omega arith)))

    -- a test passes at every pair listed exactly when it passes at every pair that fits
    pub every_fit : every t (fitting rule d) ≡ true → (p : Pair) → Fit rule d p → t p ≡ true
    every_fit e p f = passes (suc d.unknown) e p (and_from (agrees d.centre p.centre) (agrees d.successor (rule p.centre p.sum)) f.centre f.successor) f.low (omega (arith, f.high))

    pub fit_every : ((p : Pair) → Fit rule d p → t p ≡ true) → every t (fitting rule d) ≡ true
    fit_every h = passed h (suc d.unknown) (omega arith)

-- there is none exactly when even the test that never passes does at every one
empty_every : (ps : List Pair) → is_empty ps ≡ every (λ p. false) ps
empty_every [] = refl
empty_every (p ∷ ps) = refl

module _ (rule : Bool → ℕ → Bool) (d : Parts) where
  pub empty_fit : is_empty (fitting rule d) ≡ true → (p : Pair) → Fit rule d p → ⊥
  empty_fit e p f = unlike (every_fit (λ q. false) rule d (sym (empty_every (fitting rule d)) ∙ e) p f)

  pub fit_empty : ((p : Pair) → Fit rule d p → ⊥) → is_empty (fitting rule d) ≡ true
  fit_empty h = empty_every (fitting rule d) ∙ fit_every (λ q. false) rule d (λ p f. absurd (h p f))
