-- Numbering the labels gives each class one number, in the sequence of the lowest cells.
use Rattle.std.proofs.Common.{◌≡◌, ℕ, zero, suc, ◌+◌, ◌<◌, ◌≤◌, true, false, eqb, List, [], ◌∷◌, ◌++◌, length, get_or, take, sym, refl, ap, ◌∙◌, subst, inl, inr, add-one, arith}
use Rattle.std.proofs.lemmas.List.{length_push, get_or_push, get_or_append_left, take_all}
use Rattle.std.proofs.lemmas.Bool.{cases_eq, cases_order, eq-eqb, ne_eqb, cond-true, cond-false}
use Rattle.frames.specs.Frames.{cells}
use Rattle.rolls.specs.Rolls.{Surface}
use Rattle.classes.specs.Classed.{numbers_in, class_of, lowest_of, ClassesStand}
use Rattle.classes.specs.Joins.{TiesInside, label_of}
use Rattle.classes.specs.Labels.{joined_labels, Low}
use Rattle.classes.specs.Numbers.{Numbers, next_class, next_lowest, numbered_too, numbered_from, numbers_of}
use Rattle.classes.proofs.Joining.{labels_right, labels_low, labels_long}
use Rattle.classes.proofs.Numbered.{numbers_more}

-- the first m cells with these labels are numbered
record Right (labels : List ℕ) (m : ℕ) (n : Numbers) : Type 0 where
  long : length n.classes ≡ m
  within : (a : ℕ) → a < m → get_or n.classes a 0 < length n.lowest
  lowest : (a : ℕ) → a < m → get_or n.lowest (get_or n.classes a 0) 0 ≡ get_or labels a 0
  early : (j : ℕ) → j < length n.lowest → get_or n.lowest j 0 < m
  begun : (j : ℕ) → j < length n.lowest → get_or n.classes (get_or n.lowest j 0) 0 ≡ j
  rising : (j k : ℕ) → j < k → k < length n.lowest → get_or n.lowest j 0 < get_or n.lowest k 0

-- a place of a list that has one more at its end
old_place : (xs : List ℕ) (x a : ℕ) → a < length xs → get_or (xs ++ x ∷ []) a 0 ≡ get_or xs a 0
old_place xs x a h = get_or_append_left xs (x ∷ []) 0 a h

new_place : (xs : List ℕ) (x a : ℕ) → length xs ≡ a → get_or (xs ++ x ∷ []) a 0 ≡ x
new_place xs x a e = get_or_push xs x 0 a e

-- below or at the last
module _ {P : ℕ → Type 0} (m : ℕ) where
  below_or_at : ((a : ℕ) → a < m → P a) → P m → (a : ℕ) → a < m + 1 → P a
  below_or_at old here a h = elim (cases_order a m) [ inl same ↦ subst P (sym same) here | inr (inl less) ↦ old a less | inr (inr more) ↦ absurd (omega arith) ]

module _ (labels : List ℕ) (m : ℕ) (n : Numbers) (k : Right labels m n) where
  -- the next cell begins a class
  begins : get_or labels m 0 ≡ m → Right labels (m + 1) (record { classes = n.classes ++ length n.lowest ∷ []; lowest = n.lowest ++ m ∷ [] })
  begins own =
      let c : ℕ = length n.lowest in
      let cs : List ℕ = n.classes ++ c ∷ [] in
      let ls : List ℕ = n.lowest ++ m ∷ [] in
      let longer : length ls ≡ c + 1 = length_push n.lowest m in
      let class-old : (a : ℕ) → a < m → get_or cs a 0 ≡ get_or n.classes a 0 = (λ a h. old_place n.classes c a (omega (arith, k.long))) in
      let class-new : get_or cs m 0 ≡ c = new_place n.classes c m k.long in
      let low-old : (j : ℕ) → j < c → get_or ls j 0 ≡ get_or n.lowest j 0 = (λ j h. old_place n.lowest m j h) in
      let low-new : get_or ls c 0 ≡ m = new_place n.lowest m c refl in
      record {
        long = length_push n.classes c ∙ ap (λ x. x + 1) k.long;
        within = below_or_at {P = λ a. get_or cs a 0 < length ls} m (λ a h. omega (arith, class-old a h, k.within a h, longer)) (omega (arith, class-new, longer));
        lowest = below_or_at {P = λ a. get_or ls (get_or cs a 0) 0 ≡ get_or labels a 0} m
            (λ a h. ap (λ x. get_or ls x 0) (class-old a h) ∙ low-old (get_or n.classes a 0) (k.within a h) ∙ k.lowest a h)
            (ap (λ x. get_or ls x 0) class-new ∙ low-new ∙ sym own);
        early = λ j h. below_or_at {P = λ j. get_or ls j 0 < m + 1} c (λ j l. omega (arith, low-old j l, k.early j l)) (omega (arith, low-new)) j (omega (arith, longer));
        begun = λ j h. below_or_at {P = λ j. get_or cs (get_or ls j 0) 0 ≡ j} c
            (λ j l. ap (λ x. get_or cs x 0) (low-old j l) ∙ class-old (get_or n.lowest j 0) (k.early j l) ∙ k.begun j l)
            (ap (λ x. get_or cs x 0) low-new ∙ class-new) j (omega (arith, longer));
        rising = λ i j less h. below_or_at {P = λ j. i < j → get_or ls i 0 < get_or ls j 0} c
            (λ j l i<j. omega (arith, low-old i (omega arith), low-old j l, k.rising i j i<j l))
            (λ i<c. omega (arith, low-old i i<c, low-new, k.early i i<c)) j (omega (arith, longer)) less;
      }

  -- the next cell joins a class
  joins_one : get_or labels m 0 < m → get_or labels (get_or labels m 0) 0 ≡ get_or labels m 0 → Right labels (m + 1) (record { classes = n.classes ++ get_or n.classes (get_or labels m 0) 0 ∷ []; lowest = n.lowest })
  joins_one less root =
      let l : ℕ = get_or labels m 0 in
      let c : ℕ = get_or n.classes l 0 in
      let cs : List ℕ = n.classes ++ c ∷ [] in
      let class-old : (a : ℕ) → a < m → get_or cs a 0 ≡ get_or n.classes a 0 = (λ a h. old_place n.classes c a (omega (arith, k.long))) in
      let class-new : get_or cs m 0 ≡ c = new_place n.classes c m k.long in
      record {
        long = length_push n.classes c ∙ ap (λ x. x + 1) k.long;
        within = below_or_at {P = λ a. get_or cs a 0 < length n.lowest} m (λ a h. omega (arith, class-old a h, k.within a h)) (omega (arith, class-new, k.within l less));
        lowest = below_or_at {P = λ a. get_or n.lowest (get_or cs a 0) 0 ≡ get_or labels a 0} m
            (λ a h. ap (λ x. get_or n.lowest x 0) (class-old a h) ∙ k.lowest a h)
            (ap (λ x. get_or n.lowest x 0) class-new ∙ k.lowest l less ∙ root);
        early = λ j h. omega (arith, k.early j h);
        begun = λ j h. class-old (get_or n.lowest j 0) (k.early j h) ∙ k.begun j h;
        rising = k.rising;
      }

  -- either way, as `numbered_too` has it
  next_right : Low labels → m < length labels → get_or labels (get_or labels m 0) 0 ≡ get_or labels m 0 → Right labels (m + 1) (numbered_too n (get_or labels m 0))
  next_right low inside root =
      let l : ℕ = get_or labels m 0 in
      elim (cases_eq l m) [
        | inl same ↦
            (let own : eqb l (length n.classes) ≡ true = eq-eqb l (length n.classes) (same ∙ sym k.long) in
            let class : length n.lowest ≡ next_class n l = sym (cond-true _ _ _ own) in
            let low' : n.lowest ++ m ∷ [] ≡ next_lowest n l = sym (cond-true _ _ _ own ∙ ap (λ x. n.lowest ++ x ∷ []) k.long) in
            subst (Right labels (m + 1)) (λ i. record { classes = n.classes ++ class i ∷ []; lowest = low' i }) (begins same))
        | inr other ↦
            (let less : l < m = omega (arith, low m inside, other) in
            let joins : eqb l (length n.classes) ≡ false = ne_eqb l (length n.classes) (λ e. other (e ∙ k.long)) in
            let class : get_or n.classes l 0 ≡ next_class n l = sym (cond-false _ _ _ joins) in
            let low' : n.lowest ≡ next_lowest n l = sym (cond-false _ _ _ joins) in
            subst (Right labels (m + 1)) (λ i. record { classes = n.classes ++ class i ∷ []; lowest = low' i }) (joins_one less root))
      ]

-- no cell is numbered yet
none_right : (labels : List ℕ) → Right labels 0 (record { classes = []; lowest = [] })
none_right labels = record {
  long = refl;
  within = λ a h. absurd (omega arith);
  lowest = λ a h. absurd (omega arith);
  early = λ j h. absurd (omega arith);
  begun = λ j h. absurd (omega arith);
  rising = λ j k l h. absurd (omega arith);
}

module _ (s : Surface) (inside : TiesInside s) where
  abbrev found : List ℕ
  found = joined_labels s.frame s.rows s.tie

  root : (a : ℕ) → a < cells s.frame → get_or found (get_or found a 0) 0 ≡ get_or found a 0
  root a h = sym ((labels_right s inside).joins a (label_of s a) ((labels_right s inside).own a h))

  right_after : (m : ℕ) → m ≤ cells s.frame → Right found m (numbers_of (take m found))
  unfolding numbered_from
  right_after zero h = none_right found
  right_after (suc m) h =
      let here : m < length found = omega (arith, labels_long s inside) in
      let before : Right found m (numbers_of (take m found)) = right_after m (omega arith) in
      let after : Right found (m + 1) (numbered_too (numbers_of (take m found)) (get_or found m 0)) = next_right found m (numbers_of (take m found)) before (labels_low s inside) here (root m (omega arith)) in
      let more : numbered_too (numbers_of (take m found)) (get_or found m 0) ≡ numbers_of (take (m + 1) found) = numbers_more found m (numbers_of (take m found)) (numbered_too (numbers_of (take m found)) (get_or found m 0)) here refl refl in
      subst (λ j. Right found j (numbers_of (take j found))) (add-one m) (subst (Right found (m + 1)) more after)

  whole : Right found (cells s.frame) (numbers_in s)
  whole = subst (Right found (cells s.frame)) (ap numbers_of (take_all (cells s.frame) found (omega (arith, labels_long s inside)))) (right_after (cells s.frame) (omega arith))

  -- a cell has the class of its label
  class_of_label : (a : ℕ) → a < cells s.frame → class_of s (label_of s a) ≡ class_of s a
  class_of_label a h = sym (ap (class_of s) (whole.lowest a h)) ∙ whole.begun (class_of s a) (whole.within a h)

pub classes_right : ClassesStand
classes_right s inside = record {
  long = (whole s inside).long;
  within = (whole s inside).within;
  joins = λ a b ha hb j. sym (class_of_label s inside a ha) ∙ ap (class_of s) ((labels_right s inside).joins a b j) ∙ class_of_label s inside b hb;
  joined = λ a b ha hb e. (labels_right s inside).joined a b ha hb (sym ((whole s inside).lowest a ha) ∙ ap (lowest_of s) e ∙ (whole s inside).lowest b hb);
  lowest = (whole s inside).lowest;
  in_box = (whole s inside).early;
  begun = (whole s inside).begun;
  rising = (whole s inside).rising;
}
