-- The law of a code leaves only one number.
use Rattle.std.proofs.Common.{◌≡◌, ℕ, ◌/◌, ◌%◌, ◌^◌, ◌<◌, Bool, true, false, eqb, sym, ◌∙◌, inl, inr, arith}
use Rattle.std.proofs.lemmas.Nat.{mod_below}
use Rattle.std.proofs.lemmas.Bool.{cases_eq, eqb-true, eq-eqb}
use Rattle.codes.specs.Codes.{Parts, code}
use Rattle.codes.specs.Laws.{Completion, Tells, CodeLaw}
use Rattle.codes.proofs.Completions.{code_law}

-- two numbers below 2 that are 1 together
same_digit : (a b : ℕ) → a < 2 → b < 2 → (eqb a 1 ≡ true → eqb b 1 ≡ true) → (eqb b 1 ≡ true → eqb a 1 ≡ true) → a ≡ b
same_digit a b l m f g =
    elim (cases_eq a 1) [
      | inl e ↦ e ∙ sym (eqb-true b 1 (f (eq-eqb a 1 e)))
      | inr e ↦ elim (cases_eq b 1) [
        | inl h ↦ eqb-true a 1 (g (eq-eqb b 1 h)) ∙ sym h
        | inr h ↦ omega arith
      ]
    ]

same_digits : (n m : ℕ) → n < 128 → m < 128 → n / 1 % 2 ≡ m / 1 % 2 → n / 2 % 2 ≡ m / 2 % 2 → n / 4 % 2 ≡ m / 4 % 2 → n / 8 % 2 ≡ m / 8 % 2 → n / 16 % 2 ≡ m / 16 % 2 → n / 32 % 2 ≡ m / 32 % 2 → n / 64 % 2 ≡ m / 64 % 2 → n ≡ m
same_digits n m l k a b c d e f g = omega arith

module _ (rule : Bool → ℕ → Bool) (d : Parts) (n m : ℕ) (u : n ≡ 1 → ⊥) (v : m ≡ 1 → ⊥) where
  same_bit : (bit : ℕ) (NotKnown : Type 0) (Has : Completion → Type 0) → Tells rule d n bit NotKnown Has → Tells rule d m bit NotKnown Has → n / 2 ^ bit % 2 ≡ m / 2 ^ bit % 2
  same_bit bit NotKnown Has t w =
      same_digit (n / 2 ^ bit % 2) (m / 2 ^ bit % 2) (mod_below (n / 2 ^ bit) 2 (omega arith)) (mod_below (m / 2 ^ bit) 2 (omega arith))
      (λ h. w.full v (t.part h) (t.sound h)) (λ h. t.full u (w.part h) (w.sound h))

  same_code : CodeLaw rule d n → CodeLaw rule d m → n ≡ m
  same_code p q =
      same_digits n m p.few q.few
      (same_digit (n / 1 % 2) (m / 1 % 2) (mod_below (n / 1) 2 (omega arith)) (mod_below (m / 1) 2 (omega arith)) (λ h. absurd (u (p.lowest h))) (λ h. absurd (v (q.lowest h))))
      (same_bit 1 _ _ (p.centre false) (q.centre false))
      (same_bit 2 _ _ (p.centre true) (q.centre true))
      (same_bit 3 _ _ (p.successor false) (q.successor false))
      (same_bit 4 _ _ (p.successor true) (q.successor true))
      (same_bit 5 _ _ (p.neighbours false) (q.neighbours false))
      (same_bit 6 _ _ (p.neighbours true) (q.neighbours true))

pub code_only : (rule : Bool → ℕ → Bool) (d : Parts) (n : ℕ) → CodeLaw rule d n → n ≡ code rule d
code_only rule d n p =
    let q = code_law rule d in
    elim (cases_eq n 1) [
      | inl e ↦ e ∙ sym (q.possible (p.impossible e))
      | inr e ↦ elim (cases_eq (code rule d) 1) [
        | inl h ↦ p.possible (q.impossible h) ∙ sym h
        | inr h ↦ same_code rule d n (code rule d) e h p q
      ]
    ]
