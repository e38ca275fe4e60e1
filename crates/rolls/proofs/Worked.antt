-- The worked examples, by computing every instance.
use Rattle.std.proofs.Common.{◌≡◌, ℕ, zero, suc, ◌+◌, ◌<◌, Bool, true, false, not, List, [], ◌∷◌, sym, refl, arith, lit<}
use Rattle.std.proofs.lemmas.Bool.{both_ways}
use Rattle.rules.specs.declared.rule.Rule.{Rule}
use Rattle.rules.specs.Answers.{answer}
use Rattle.rolls.specs.Examples.{RollsWorked, plainly, around_torus, two_by_two, one_cell, down_right, life, crowded, glider, O, top_right, bottom_left, by_row, by_column}
use Rattle.rolls.specs.Rolls.{Surface, InstanceHolds, at, value, total, around, successor, ninth}
use Rattle.rolls.proofs.Below.{all_below, all_below_each}

same : Bool → Bool → Bool
same true b = b
same false b = not b

same_is : (a b : Bool) → same a b ≡ true → a ≡ b
unfolding same
same_is true b e = sym e
same_is false false e = refl
same_is false true e = absurd (both_ways false refl e)

-- whether the instance at a count of columns and rows holds
tested : Surface → Rule → List Bool → ℕ → ℕ → ℕ → Bool
tested s r f t j i = same (successor s f t (ninth i) (ninth j)) (answer r (value s f t (ninth i) (ninth j)) (total s f t (ninth i) (ninth j) around))

all_tested : Surface → Rule → List Bool → Bool
all_tested s r f = all_below s.frame.period (λ t. all_below (s.frame.height + 18) (λ j. all_below (s.frame.width + 18) (λ i. tested s r f t j i)))

all_hold : (s : Surface) (r : Rule) (f : List Bool) → all_tested s r f ≡ true → (t j i : ℕ) → t < s.frame.period → j < s.frame.height + 18 → i < s.frame.width + 18 → InstanceHolds s r f t (ninth i) (ninth j)
unfolding all_tested tested
all_hold s r f e t j i ht hj hi =
    same_is _ _ (all_below_each (s.frame.width + 18) (λ k. tested s r f t j k)
    (all_below_each (s.frame.height + 18) (λ k. all_below (s.frame.width + 18) (λ m. tested s r f t k m))
    (all_below_each s.frame.period (λ k. all_below (s.frame.height + 18) (λ l. all_below (s.frame.width + 18) (λ m. tested s r f k l m))) e t ht) j hj) i hi)

-- below 1 there is only 0
only_first : (P : ℕ → Type 0) → P 0 → (k : ℕ) → k < 1 → P k
only_first P h zero l = h
only_first P h (suc k) l = absurd (omega arith)

pub rolls_worked : RollsWorked
unfolding all_tested tested all_below same
rolls_worked = record {
  goes_round = refl;
  nothing = refl;
  eight_looks = refl;
  taken_away = refl;
  stays = refl;
  dies = λ e. both_ways false refl (sym e);
  alike = refl;
  unlike = λ e. both_ways false refl (sym e);
  earlier = record { place = 1; below = lit< tt; off = refl; on = refl; alike = only_first (λ k. at bottom_left (by_row k) ≡ at top_right (by_row k)) refl };
  later = record { place = 1; below = lit< tt; off = refl; on = refl; alike = only_first (λ k. at top_right (by_column k) ≡ at bottom_left (by_column k)) refl };
  block = record { long = refl; ties = λ row c h l. absurd (omega arith); instances = all_hold (plainly two_by_two) life (O ∷ O ∷ O ∷ O ∷ []) refl };
  asked_off = λ k. both_ways false refl (sym (k.ties 0 0 (lit< tt) (lit< tt)));
  lone = λ k. both_ways false refl (sym (k.instances 0 9 9 (lit< tt) (lit< tt) (lit< tt)));
  flies = record { long = refl; ties = λ row c h l. absurd (omega arith); instances = all_hold (plainly down_right) life glider refl };
  not_back = λ k. both_ways false refl (sym (k.instances 3 8 9 (lit< tt) (lit< tt) (lit< tt)));
  eight = record { long = refl; ties = λ row c h l. absurd (omega arith); instances = all_hold (around_torus one_cell) crowded (O ∷ []) refl };
  no_leap = λ k. both_ways false refl (sym (k.instances 0 9 11 (lit< tt) (lit< tt) (lit< tt)));
}
