-- What is forced stays forced as more is known.
use Rattle.std.proofs.Common.{◌≡◌, ℕ, Bool, true, false, not, ◌⊎◌, sym, refl, ap, ◌∙◌, inl, inr, arith}
use Rattle.rules.specs.Answers.{holds}
use Rattle.std.proofs.lemmas.Bool.{both_ways, not_from_true, cases_Bool, cases_eq, eqb-true, eq-eqb, lt-ltb}
use Rattle.codes.specs.declared.value.Value.{Value}
use Rattle.codes.specs.declared.value.Value.TheVariants.{Off, On, Unknown}
use Rattle.codes.specs.Values.{agrees}
use Rattle.codes.specs.Codes.{Parts, Pair, fitting, is_empty, is_unknown, is, says_centre, says_successor, says_neighbours, edge, code}
use Rattle.codes.specs.Laws.{centre_bit, successor_bit, neighbour_bit, known, KnowsMore, StaysForced}
use Rattle.codes.proofs.Pairs.{Fit, every_fit, fit_every, empty_fit, fit_empty}
use Rattle.codes.proofs.Bits.{Bit, contradicted, contradiction, centre_tells, successor_tells, neighbours_tell}

agrees_less : (v w : Value) (b : Bool) → (v ≡ Unknown) ⊎ (w ≡ v) → agrees w b ≡ true → agrees v b ≡ true
agrees_less v w b (inl e) h = ap (λ (u : Value). agrees u b) e
agrees_less v w b (inr e) h = ap (λ (u : Value). agrees u b) (sym e) ∙ h

-- a value is the one known, unknown, or the other
which : (v : Value) (b : Bool) → (v ≡ known b) ⊎ ((is_unknown v ≡ true) ⊎ (v ≡ known (not b)))
which Off false = inl refl
which Off true = inr (inr refl)
which On false = inr (inr refl)
which On true = inl refl
which Unknown b = inr (inl refl)

clash : (b a : Bool) → agrees (known (not b)) a ≡ true → is b a ≡ true → ⊥
clash false a g h = both_ways (not a) (not_from_true a g) h
clash true a g h = both_ways (not a) (not_from_true a h) g

module _ (rule : Bool → ℕ → Bool) (d e : Parts) (m : KnowsMore d e) where
  pub fit_less : (p : Pair) → Fit rule e p → Fit rule d p
  fit_less p f =
      record {
        centre = agrees_less d.centre e.centre p.centre m.centre f.centre;
        successor = agrees_less d.successor e.successor (rule p.centre p.sum) m.successor f.successor;
        low = omega (arith, m.on, f.low);
        high = omega (arith, m.unknown, f.high);
      }

  -- the centre or the successor, by the state that a pair gives it
  part_stays : (bit : ℕ) (v : Value) (b : Bool) (state : Pair → Bool) → ((p : Pair) → Fit rule e p → agrees v (state p) ≡ true) → ((p : Pair) → Fit rule e p → is b (state p) ≡ true) →
      Bit rule e bit (is_unknown v) (λ p. is b (state p)) → (code rule e ≡ 1) ⊎ ((v ≡ known b) ⊎ (holds (code rule e) bit ≡ true))
  part_stays bit v b state agreed says w =
      elim (cases_Bool (is_empty (fitting rule e))) [
        | inl n ↦ inl (contradicted rule e n)
        | inr n ↦ elim (which v b) [
          | inl k ↦ inr (inl k)
          | inr (inl k) ↦ inr (inr (w.stands n k (fit_every (λ p. is b (state p)) rule e says)))
          | inr (inr k) ↦ inl (contradicted rule e (fit_empty rule e (λ p f. clash b (state p) (ap (λ (u : Value). agrees u (state p)) (sym k) ∙ agreed p f) (says p f))))
        ]
      ]

  pub same_edge : (b : Bool) (p : Pair) → Fit rule e p → p.sum ≡ edge d b → edge e b ≡ edge d b
  same_edge false p f q = omega (arith, m.on, f.low)
  same_edge true p f q = omega (arith, m.unknown, f.high)

  neighbours_stay : (b : Bool) → ((p : Pair) → Fit rule e p → p.sum ≡ edge d b) →
      (code rule e ≡ 1) ⊎ ((edge e b ≡ edge d b) × ((e.unknown ≡ 0) ⊎ (holds (code rule e) (neighbour_bit b) ≡ true)))
  neighbours_stay b says =
      elim (cases_Bool (is_empty (fitting rule e))) [
        | inl n ↦ inl (contradicted rule e n)
        | inr n ↦ elim (cases_eq (edge e b) (edge d b)) [
          | inr k ↦ inl (contradicted rule e (fit_empty rule e (λ p f. k (same_edge b p f (says p f)))))
          | inl k ↦ inr (
            k,
            elim (cases_eq e.unknown 0) [
              | inl z ↦ inl z
              | inr z ↦ inr ((neighbours_tell rule e b).stands n (lt-ltb 0 e.unknown (omega arith))
                  (fit_every (says_neighbours e b) rule e (λ p f. eq-eqb p.sum (edge e b) (says p f ∙ sym k))))
            ],
          )
        ]
      ]

  pub stays_forced : StaysForced rule d e
  stays_forced =
      record {
        contradiction = λ h. contradicted rule e (fit_empty rule e (λ p f. empty_fit rule d (contradiction rule d h) p (fit_less p f)));
        centre = λ b h. part_stays (centre_bit b) e.centre b (λ p. p.centre) (λ p f. f.centre)
            (λ p f. every_fit (says_centre b) rule d ((centre_tells rule d b).says h) p (fit_less p f)) (centre_tells rule e b);
        successor = λ b h. part_stays (successor_bit b) e.successor b (λ p. rule p.centre p.sum) (λ p f. f.successor)
            (λ p f. every_fit (says_successor rule b) rule d ((successor_tells rule d b).says h) p (fit_less p f)) (successor_tells rule e b);
        neighbours = λ b h. neighbours_stay b
            (λ p f. eqb-true p.sum (edge d b) (every_fit (says_neighbours d b) rule d ((neighbours_tell rule d b).says h) p (fit_less p f)));
      }
