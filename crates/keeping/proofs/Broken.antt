-- Asking number by number is asking every instance and every tie.
use Rattle.std.proofs.Common.{◌≡◌, ℕ, ◌+◌, ◌*◌, ◌/◌, ◌%◌, ◌<◌, Bool, true, false, not, ◌⊎◌, List, ℤ, Some, None, Option, inl, inr, sym, refl, ap, ◌∙◌, subst, mul_comm, arith}
use Rattle.std.proofs.lemmas.Bool.{both_ways, cases_order}
use Rattle.std.proofs.Math.Nat.{mul-pos}
use Rattle.std.proofs.lemmas.Nat.{div-mul-add, mod-mul-add, div-add-mod', mul-add-lt, div_below, mod_below}
use Rattle.std.specs.Bool.{beq}
use Rattle.frames.proofs.Cells.{number_below, generation_below, number_back, column_back, row_back, generation_back}
use Rattle.frames.specs.declared.frame.Frame.{Frame}
use Rattle.frames.specs.Frames.{cells}
use Rattle.rules.specs.declared.rule.Rule.{Rule}
use Rattle.planes.specs.declared.tie.Tie.{Tie}
use Rattle.planes.specs.declared.tie.Tie.TheVariants.{Free, Off, On, Same}
use Rattle.rolls.specs.Rolls.{Surface, InstanceHolds, TieHolds, at, ninth}
use Rattle.keeping.specs.Asked.{across, down, instances, instance_at, fails, undone, broken_instance, broken_tie, instance_found, tie_found, tie_at}
use Rattle.keeping.specs.Laws.{AllHold, AskingLaws, FirstInstance, FirstTie, Earlier, Before}
use Rattle.keeping.specs.declared.places.InstanceAt.{InstanceAt}
use Rattle.keeping.specs.declared.places.TieAt.{TieAt}
use Rattle.keeping.proofs.Firsts.{first_misses, none_passes, first_found}

-- two that are not unlike are alike
alike : (a b : Bool) → not (beq a b) ≡ false → a ≡ b
alike true true e = refl
alike false false e = refl
alike true false e = absurd (both_ways true e refl)
alike false true e = absurd (both_ways true e refl)

like : (a b : Bool) → a ≡ b → not (beq a b) ≡ false
like true true e = refl
like false false e = refl
like true false e = absurd (both_ways true e refl)
like false true e = absurd (both_ways true (sym e) refl)

unlike : (a b : Bool) → not (beq a b) ≡ true → a ≡ b → ⊥
unlike a b e same = both_ways _ (like a b same) e

on_kept : (a : Bool) → not a ≡ false → a ≡ true
on_kept true e = refl
on_kept false e = absurd (both_ways true e refl)

-- a tie that is not undone holds, and one that holds is not undone
tie_kept : (f : List Bool) (c : ℕ) (t : Tie) → undone f c t ≡ false → TieHolds f c t
tie_kept f c Free e = tt
tie_kept f c Off e = e
tie_kept f c On e = on_kept (at f c) e
tie_kept f c (Same d) e = alike _ _ e

tie_holds : (f : List Bool) (c : ℕ) (t : Tie) → TieHolds f c t → undone f c t ≡ false
tie_holds f c Free e = refl
tie_holds f c Off e = e
tie_holds f c On e = ap not e
tie_holds f c (Same d) e = like _ _ e

-- whether something was found
none_instance : (f : Frame) (o : Option ℕ) → instance_found f o ≡ None → o ≡ None
none_instance f None e = refl
none_instance f (Some n) e = cc

some_instance : (f : Frame) (o : Option ℕ) (b : InstanceAt) → instance_found f o ≡ Some b → (n : ℕ) × (o ≡ Some n) × (b ≡ instance_at f n)
some_instance f None b e = cc
some_instance f (Some n) b e = (n, refl, cc)

none_tie : (z : ℕ) (o : Option ℕ) → tie_found z o ≡ None → o ≡ None
none_tie z None e = refl
none_tie z (Some n) e = cc

some_tie : (z : ℕ) (o : Option ℕ) (b : TieAt) → tie_found z o ≡ Some b → (n : ℕ) × (o ≡ Some n) × (b ≡ tie_at z n)
some_tie z None b e = cc
some_tie z (Some n) b e = (n, refl, cc)

-- what comes before has the lower number
lower : (a b c d w : ℕ) → b < w → Before a b c d → a * w + b < c * w + d
lower a b c d w h (inl less) = omega (arith, mul-add-lt a w b c less h, mul_comm w c)
lower a b c d w h (inr same) = omega (arith, ap (λ n. n * w) same.0, same.1)

earlier_lower : (t j i u l k h w : ℕ) → j < h → i < w → Earlier t j i u l k → (t * h + j) * w + i < (u * h + l) * w + k
earlier_lower t j i u l k h w hj hi (inl less) = lower (t * h + j) i (u * h + l) k w hi (inl (lower t j u l h hj (inl less)))
earlier_lower t j i u l k h w hj hi (inr (same, inl less)) = lower (t * h + j) i (u * h + l) k w hi (inl (lower t j u l h hj (inr (same, less))))
earlier_lower t j i u l k h w hj hi (inr (same, inr (row, less))) = lower (t * h + j) i (u * h + l) k w hi (inr ((λ m. same m * h + row m), less))

-- of two pairs one comes before the other, or they are one
either : (a b c d : ℕ) → Before a b c d ⊎ (Before c d a b ⊎ ((a ≡ c) × (b ≡ d)))
either a b c d =
    elim (cases_order a c) [
      | inl same ↦
          elim (cases_order b d) [
            | inl e ↦ inr (inr (same, e))
            | inr (inl less) ↦ inl (inr (same, less))
            | inr (inr more) ↦ inr (inl (inr (sym same, more)))
          ]
      | inr (inl less) ↦ inl (inl less)
      | inr (inr more) ↦ inr (inl (inl more))
    ]

-- and of two instances
either_instance : (t j i u l k : ℕ) → Earlier t j i u l k ⊎ (Earlier u l k t j i ⊎ ((t ≡ u) × (j ≡ l) × (i ≡ k)))
either_instance t j i u l k =
    elim (cases_order t u) [
      | inl same ↦
          elim (either j i l k) [
            | inl before ↦ inl (inr (same, before))
            | inr (inl after) ↦ inr (inl (inr (sym same, after)))
            | inr (inr both) ↦ inr (inr (same, both.0, both.1))
          ]
      | inr (inl less) ↦ inl (inl less)
      | inr (inr more) ↦ inr (inl (inl more))
    ]

module _ (s : Surface) (r : Rule) (f : List Bool) where
  asks : ℕ → Bool
  asks n = fails s r f (instance_at s.frame n)

  number : ℕ → ℕ → ℕ → ℕ
  number t j i = (t * down s.frame + j) * across s.frame + i

  number_in : (t j i : ℕ) → t < s.frame.period → j < s.frame.height + 18 → i < s.frame.width + 18 → number t j i < instances s.frame
  unfolding number
  number_in t j i ht hj hi = number_below (across s.frame) (down s.frame) s.frame.period i j t hi hj ht

  placed : (t j i : ℕ) → j < s.frame.height + 18 → i < s.frame.width + 18 → instance_at s.frame (number t j i) ≡ record { t = t; y = ninth j; x = ninth i }
  unfolding number
  placed t j i hj hi =
      let w = across s.frame in
      let h = down s.frame in
      (λ k. record { t = generation_back w h i j t hi hj k; y = ninth (row_back w h i j t hi hj k); x = ninth (column_back w h i j t hi hj k) })

  holds_at : (t j i : ℕ) → j < s.frame.height + 18 → i < s.frame.width + 18 → asks (number t j i) ≡ false → InstanceHolds s r f t (ninth i) (ninth j)
  unfolding asks
  holds_at t j i hj hi e = alike _ _ (sym (ap (fails s r f) (placed t j i hj hi)) ∙ e)

  all_hold : broken_instance s r f ≡ None → AllHold s r f
  unfolding asks
  all_hold e t j i ht hj hi = holds_at t j i hj hi (first_misses asks (instances s.frame) (none_instance s.frame _ e) (number t j i) (number_in t j i ht hj hi))

  none_broken : AllHold s r f → broken_instance s r f ≡ None
  unfolding asks
  none_broken all =
      let w = across s.frame in
      let h = down s.frame in
      ap (instance_found s.frame) (none_passes asks (instances s.frame) (λ n less.
      like _ _ (all (n / w / h) (n / w % h) (n % w) (generation_below w h s.frame.period n (omega arith) (omega arith) less) (mod_below (n / w) h (omega arith)) (mod_below n w (omega arith)))))

  first_at : (n : ℕ) → n < instances s.frame → asks n ≡ true → ((k : ℕ) → k < n → asks k ≡ false) → FirstInstance s r f (instance_at s.frame n)
  unfolding asks number
  first_at n less hit before =
      let w = across s.frame in
      let h = down s.frame in record {
        row = n / w % h;
        column = n % w;
        lasting = generation_below w h s.frame.period n (omega arith) (omega arith) less;
        low = mod_below (n / w) h (omega arith);
        narrow = mod_below n w (omega arith);
        y = refl;
        x = refl;
        fails = unlike _ _ hit;
        first = λ t j i ht hj hi earlier.
            let sooner : number t j i < n = subst (λ m. number t j i < m) (number_back w h n) (earlier_lower t j i (n / w / h) (n / w % h) (n % w) h w hj hi earlier) in
            holds_at t j i hj hi (before (number t j i) sooner);
      }

  first_instance : (broken : InstanceAt) → broken_instance s r f ≡ Some broken → FirstInstance s r f broken
  unfolding asks
  first_instance broken e =
      let w = some_instance s.frame _ broken e in
      let found = first_found asks (instances s.frame) w.0 w.1 in
      subst (FirstInstance s r f) (sym w.2) (first_at w.0 found.0 found.1 found.2)

  -- one that does not hold does not come before the first
  not_before : (a b : InstanceAt) (p : FirstInstance s r f a) (q : FirstInstance s r f b) → Earlier a.t p.row p.column b.t q.row q.column → ⊥
  not_before a b p q sooner =
      let P : ℤ → ℤ → Type 0 = λ x y. InstanceHolds s r f a.t x y in
      p.fails (subst (λ x. P x a.y) (sym p.x) (subst (λ y. P (ninth p.column) y) (sym p.y) (q.first a.t p.row p.column p.lasting p.low p.narrow sooner)))

  -- so that the first is one
  same_instance : (a b : InstanceAt) → FirstInstance s r f a → FirstInstance s r f b → a ≡ b
  same_instance a b p q =
      elim (either_instance a.t p.row p.column b.t q.row q.column) [
        | inl before ↦ absurd (not_before a b p q before)
        | inr (inl after) ↦ absurd (not_before b a q p after)
        | inr (inr same) ↦ (λ i. record { t = same.0 i; y = (p.y ∙ ap ninth same.1 ∙ sym q.y) i; x = (p.x ∙ ap ninth same.2 ∙ sym q.x) i })
      ]

  one_instance : (o : Option InstanceAt) → broken_instance s r f ≡ o → (a : InstanceAt) → FirstInstance s r f a → broken_instance s r f ≡ Some a
  one_instance None e a p =
      let P : ℤ → ℤ → Type 0 = λ x y. InstanceHolds s r f a.t x y in
      absurd (p.fails (subst (λ x. P x a.y) (sym p.x) (subst (λ y. P (ninth p.column) y) (sym p.y) (all_hold e a.t p.row p.column p.lasting p.low p.narrow))))
  one_instance (Some b) e a p = e ∙ ap Some (same_instance b a (first_instance b e) p)

module _ (s : Surface) (f : List Bool) where
  asks_tie : ℕ → Bool
  asks_tie n = undone f (n % cells s.frame) (s.tie (n / cells s.frame) (n % cells s.frame))

  some : 0 < cells s.frame
  some = mul-pos (mul-pos s.frame.wide s.frame.tall) s.frame.lasting

  holds_tie : (row c : ℕ) → c < cells s.frame → asks_tie (row * cells s.frame + c) ≡ false → TieHolds f c (s.tie row c)
  unfolding asks_tie
  holds_tie row c hc e =
      let z = cells s.frame in
      tie_kept f c (s.tie row c) (sym ((λ k. undone f (mod-mul-add row z c hc k) (s.tie (div-mul-add row z c hc k) (mod-mul-add row z c hc k)))) ∙ e)

  ties_hold : broken_tie s f ≡ None → (row c : ℕ) → row < s.rows → c < cells s.frame → TieHolds f c (s.tie row c)
  unfolding asks_tie
  ties_hold e row c hr hc =
      let z = cells s.frame in
      holds_tie row c hc (first_misses asks_tie (s.rows * z) (none_tie z _ e) (row * z + c) (omega (arith, mul-add-lt row z c s.rows hr hc, mul_comm z s.rows)))

  none_undone : ((row c : ℕ) → row < s.rows → c < cells s.frame → TieHolds f c (s.tie row c)) → broken_tie s f ≡ None
  unfolding asks_tie
  none_undone h =
      let z = cells s.frame in
      ap (tie_found z) (none_passes asks_tie (s.rows * z) (λ n less. tie_holds f (n % z) _ (h (n / z) (n % z) (div_below n z s.rows some less) (mod_below n z some))))

  first_tie_at : (n : ℕ) → n < s.rows * cells s.frame → asks_tie n ≡ true → ((k : ℕ) → k < n → asks_tie k ≡ false) → FirstTie s f (tie_at (cells s.frame) n)
  unfolding asks_tie
  first_tie_at n less hit before =
      let z = cells s.frame in record {
        row = div_below n z s.rows some less;
        cell = mod_below n z some;
        fails = λ holds. both_ways _ (tie_holds f (n % z) _ holds) hit;
        first = λ row c hr hc earlier.
            let sooner : row * z + c < n = subst (λ m. row * z + c < m) (div-add-mod' n z) (lower row c (n / z) (n % z) z hc earlier) in
            holds_tie row c hc (before (row * z + c) sooner);
      }

  first_tie : (broken : TieAt) → broken_tie s f ≡ Some broken → FirstTie s f broken
  unfolding asks_tie
  first_tie broken e =
      let w = some_tie (cells s.frame) _ broken e in
      let found = first_found asks_tie (s.rows * cells s.frame) w.0 w.1 in
      subst (FirstTie s f) (sym w.2) (first_tie_at w.0 found.0 found.1 found.2)

module _ (s : Surface) (f : List Bool) where
  same_tie : (a b : TieAt) → FirstTie s f a → FirstTie s f b → a ≡ b
  same_tie a b p q =
      elim (either a.row a.cell b.row b.cell) [
        | inl before ↦ absurd (p.fails (q.first a.row a.cell p.row p.cell before))
        | inr (inl after) ↦ absurd (q.fails (p.first b.row b.cell q.row q.cell after))
        | inr (inr same) ↦ (λ i. record { row = same.0 i; cell = same.1 i })
      ]

  one_tie : (o : Option TieAt) → broken_tie s f ≡ o → (a : TieAt) → FirstTie s f a → broken_tie s f ≡ Some a
  one_tie None e a p = absurd (p.fails (ties_hold s f e a.row a.cell p.row p.cell))
  one_tie (Some b) e a p = e ∙ ap Some (same_tie b a (first_tie s f b e) p)

pub asking_right : AskingLaws
asking_right = record {
  kept = λ s r f long none_i none_t. record { long = long; ties = ties_hold s f none_t; instances = all_hold s r f none_i };
  unbroken = λ s r f k. (none_broken s r f k.instances, none_undone s f k.ties);
  instance_first = first_instance;
  tie_first = first_tie;
  holding = λ s r f. (all_hold s r f, none_broken s r f);
  one_instance = λ s r f broken first. one_instance s r f (broken_instance s r f) refl broken first;
  one_tie = λ s f broken first. one_tie s f (broken_tie s f) refl broken first;
}
