-- The bits of a code.
use Rattle.std.proofs.Common.{◌≡◌, ℕ, ◌+◌, ◌*◌, ◌/◌, ◌%◌, ◌<◌, Bool, true, false, cond, ◌&&◌, eqb, ltb, sym, refl, ap, ◌∙◌, ap₂, inl, inr, arith}
use Rattle.rules.specs.Answers.{holds}
use Rattle.std.proofs.lemmas.Bool.{and_parts, and_from, cases_Bool, eqb-true, cond-true, cond-false}
use Rattle.codes.specs.Codes.{Parts, Pair, fitting, is_empty, every, is_unknown, says_centre, says_successor, says_neighbours, code}
use Rattle.codes.specs.Laws.{centre_bit, successor_bit, neighbour_bit}
use Rattle.codes.proofs.Pairs.{unlike}

-- two tests as a number of two bits, or 0 where a third fails
unfoldable two : Bool → Bool → Bool → ℕ
two false a b = 0
two true false false = 0
two true true false = 1
two true false true = 2
two true true true = 3

two_few : (o a b : Bool) → two o a b < 4
unfolding two
two_few false a b = omega arith
two_few true false false = omega arith
two_few true true false = omega arith
two_few true false true = omega arith
two_few true true true = omega arith

-- each bit is one of the tests
two_bit : (o a b k : Bool) → eqb (cond k (two o a b / 2) (two o a b % 2)) 1 ≡ (o && cond k b a)
unfolding two
two_bit false a b false = refl
two_bit false a b true = refl
two_bit true false false false = refl
two_bit true false false true = refl
two_bit true true false false = refl
two_bit true true false true = refl
two_bit true false true false = refl
two_bit true false true true = refl
two_bit true true true false = refl
two_bit true true true true = refl

-- two tests weighed, the second twice as much as the first
by_weight : (w : ℕ) (o a b : Bool) → cond o (cond a w 0 + cond b (w + w) 0) 0 ≡ w * two o a b
unfolding two
by_weight w false a b = omega arith
by_weight w true false false = omega arith
by_weight w true true false = omega arith
by_weight w true false true = omega arith
by_weight w true true true = omega arith

-- a number made of three numbers of two bits
record Made (n x y z : ℕ) : Type 0 where
  is : n ≡ 2 * x + 8 * y + 32 * z
  few_x : x < 4
  few_y : y < 4
  few_z : z < 4

module _ (n x y z : ℕ) (m : Made n x y z) where
  centre_bit_in : (b : Bool) → holds n (centre_bit b) ≡ eqb (cond b (x / 2) (x % 2)) 1
  centre_bit_in false = let e : n / 2 % 2 ≡ x % 2 = omega arith in ap (λ (k : ℕ). eqb k 1) e
  centre_bit_in true = let e : n / 4 % 2 ≡ x / 2 = omega arith in ap (λ (k : ℕ). eqb k 1) e

  successor_bit_in : (b : Bool) → holds n (successor_bit b) ≡ eqb (cond b (y / 2) (y % 2)) 1
  successor_bit_in false = let e : n / 8 % 2 ≡ y % 2 = omega arith in ap (λ (k : ℕ). eqb k 1) e
  successor_bit_in true = let e : n / 16 % 2 ≡ y / 2 = omega arith in ap (λ (k : ℕ). eqb k 1) e

  neighbour_bit_in : (b : Bool) → holds n (neighbour_bit b) ≡ eqb (cond b (z / 2) (z % 2)) 1
  neighbour_bit_in false = let e : n / 32 % 2 ≡ z % 2 = omega arith in ap (λ (k : ℕ). eqb k 1) e
  neighbour_bit_in true = let e : n / 64 % 2 ≡ z / 2 = omega arith in ap (λ (k : ℕ). eqb k 1) e

-- a bit of a code: it stands exactly where there are pairs, the part is open, and every pair says so
pub record Bit (rule : Bool → ℕ → Bool) (d : Parts) (bit : ℕ) (o : Bool) (t : Pair → Bool) : Type 0 where
  pub opened : holds (code rule d) bit ≡ true → o ≡ true
  pub says : holds (code rule d) bit ≡ true → every t (fitting rule d) ≡ true
  pub stands : is_empty (fitting rule d) ≡ false → o ≡ true → every t (fitting rule d) ≡ true → holds (code rule d) bit ≡ true

module _ (rule : Bool → ℕ → Bool) (d : Parts) where
  made : is_empty (fitting rule d) ≡ false →
      Made (code rule d)
      (two (is_unknown d.centre) (every (says_centre false) (fitting rule d)) (every (says_centre true) (fitting rule d)))
      (two (is_unknown d.successor) (every (says_successor rule false) (fitting rule d)) (every (says_successor rule true) (fitting rule d)))
      (two (ltb 0 d.unknown) (every (says_neighbours d false) (fitting rule d)) (every (says_neighbours d true) (fitting rule d)))
  made e =
      let ps = fitting rule d in
      let p = by_weight 2 (is_unknown d.centre) (every (says_centre false) ps) (every (says_centre true) ps) in
      let q = by_weight 8 (is_unknown d.successor) (every (says_successor rule false) ps) (every (says_successor rule true) ps) in
      let r = by_weight 32 (ltb 0 d.unknown) (every (says_neighbours d false) ps) (every (says_neighbours d true) ps) in
      record {
        is = cond-false (is_empty ps) 1 _ e ∙ ap₂ ◌+◌ (ap₂ ◌+◌ p q) r;
        few_x = two_few (is_unknown d.centre) (every (says_centre false) ps) (every (says_centre true) ps);
        few_y = two_few (is_unknown d.successor) (every (says_successor rule false) ps) (every (says_successor rule true) ps);
        few_z = two_few (ltb 0 d.unknown) (every (says_neighbours d false) ps) (every (says_neighbours d true) ps);
      }

  -- the code of a contradiction
  pub contradicted : is_empty (fitting rule d) ≡ true → code rule d ≡ 1
  contradicted e = cond-true (is_empty (fitting rule d)) 1 _ e

  pub contradiction : code rule d ≡ 1 → is_empty (fitting rule d) ≡ true
  contradiction h = elim (cases_Bool (is_empty (fitting rule d))) [ inl e ↦ e | inr e ↦ let m = made e in absurd (omega (arith, m.is)) ]

  pub lowest : holds (code rule d) 0 ≡ true → code rule d ≡ 1
  lowest h = elim (cases_Bool (is_empty (fitting rule d))) [
    | inl e ↦ contradicted e
    | inr e ↦ let m = made e in let k : code rule d / 1 % 2 ≡ 1 = eqb-true (code rule d / 1 % 2) 1 h in absurd (omega (arith, m.is, k))
  ]

  pub few : code rule d < 128
  few = elim (cases_Bool (is_empty (fitting rule d))) [
    | inl e ↦ let k = contradicted e in omega (arith, k)
    | inr e ↦ let m = made e in omega (arith, m.is, m.few_x, m.few_y, m.few_z)
  ]

  -- a bit from its two ways
  bit_of : (bit : ℕ) (o : Bool) (t : Pair → Bool) → holds 1 bit ≡ false → (is_empty (fitting rule d) ≡ false → holds (code rule d) bit ≡ (o && every t (fitting rule d))) → Bit rule d bit o t
  bit_of bit o t none some =
      let ps = fitting rule d in
      let both : holds (code rule d) bit ≡ true → (o ≡ true) × (every t ps ≡ true) =
      λ h. elim (cases_Bool (is_empty ps)) [
        | inl e ↦ unlike (sym none ∙ ap (λ (n : ℕ). holds n bit) (sym (contradicted e)) ∙ h)
        | inr e ↦ and_parts o (every t ps) (sym (some e) ∙ h)
      ] in
      record {
        opened = λ h. (both h).0;
        says = λ h. (both h).1;
        stands = λ e p q. some e ∙ and_from o (every t ps) p q;
      }

  pick_says : (says : Bool → Pair → Bool) (b : Bool) → cond b (every (says true) (fitting rule d)) (every (says false) (fitting rule d)) ≡ every (says b) (fitting rule d)
  pick_says says false = refl
  pick_says says true = refl

  pub centre_tells : (b : Bool) → Bit rule d (centre_bit b) (is_unknown d.centre) (says_centre b)
  centre_tells b = bit_of (centre_bit b) (is_unknown d.centre) (says_centre b) (none b)
      (λ e. centre_bit_in _ _ _ _ (made e) b ∙ two_bit (is_unknown d.centre) (every (says_centre false) (fitting rule d)) (every (says_centre true) (fitting rule d)) b
      ∙ ap (λ (t : Bool). is_unknown d.centre && t) (pick_says says_centre b))
    where
      none : (k : Bool) → holds 1 (centre_bit k) ≡ false
      none false = refl
      none true = refl

  pub successor_tells : (b : Bool) → Bit rule d (successor_bit b) (is_unknown d.successor) (says_successor rule b)
  successor_tells b = bit_of (successor_bit b) (is_unknown d.successor) (says_successor rule b) (none b)
      (λ e. successor_bit_in _ _ _ _ (made e) b ∙ two_bit (is_unknown d.successor) (every (says_successor rule false) (fitting rule d)) (every (says_successor rule true) (fitting rule d)) b
      ∙ ap (λ (t : Bool). is_unknown d.successor && t) (pick_says (says_successor rule) b))
    where
      none : (k : Bool) → holds 1 (successor_bit k) ≡ false
      none false = refl
      none true = refl

  pub neighbours_tell : (b : Bool) → Bit rule d (neighbour_bit b) (ltb 0 d.unknown) (says_neighbours d b)
  neighbours_tell b = bit_of (neighbour_bit b) (ltb 0 d.unknown) (says_neighbours d b) (none b)
      (λ e. neighbour_bit_in _ _ _ _ (made e) b ∙ two_bit (ltb 0 d.unknown) (every (says_neighbours d false) (fitting rule d)) (every (says_neighbours d true) (fitting rule d)) b
      ∙ ap (λ (t : Bool). ltb 0 d.unknown && t) (pick_says (says_neighbours d) b))
    where
      none : (k : Bool) → holds 1 (neighbour_bit k) ≡ false
      none false = refl
      none true = refl
