-- The classes that are counted as free are those of which no row asks anything.
use Rattle.std.proofs.Common.{◌≡◌, ℕ, zero, suc, ◌+◌, ◌<◌, ◌≤◌, Bool, true, false, cond, not, ◌||◌, List, [], ◌∷◌, length, get_or, count_by, sym, refl, ap, ◌∙◌, subst, arith}
use Rattle.std.proofs.lemmas.Bool.{both_ways}
use Rattle.std.proofs.lemmas.List.Sums.{sum_by-cons}
use Rattle.frames.specs.Frames.{cells}
use Rattle.rolls.specs.Joined.{alone}
use Rattle.rolls.specs.Rolls.{Surface}
use Rattle.classes.specs.declared.classes.Musts.{Musts}
use Rattle.classes.specs.Asked.{asks, unasked}
use Rattle.classes.specs.Classed.{class_count, class_of, lowest_of, ClassesRight}
use Rattle.classes.specs.Free.{FreeStands, Leads}
use Rattle.classes.specs.Joins.{TiesInside, LabelsRight, label_of}
use Rattle.classes.specs.Needed.{musts_in, MustsRight}
use Rattle.classes.proofs.Classing.{classes_right}
use Rattle.classes.proofs.Joining.{labels_right}
use Rattle.classes.proofs.Needing.{musts_right}

-- the numbers `low i` of those places i of a list that pass a test
module _ {X : Type 0} (p : X → Bool) (d : X) where
  record Picked (xs : List X) (low : ℕ → ℕ) : Type 0 where
    picks : List ℕ
    many : count_by p xs ≡ length picks
    each : (k : ℕ) → k < length picks → (i : ℕ) × (i < length xs) × (p (get_or xs i d) ≡ true) × (get_or picks k 0 ≡ low i)
    all : (i : ℕ) → i < length xs → p (get_or xs i d) ≡ true → (k : ℕ) × (k < length picks) × (get_or picks k 0 ≡ low i)
    rising : (j k : ℕ) → j < k → k < length picks → get_or picks j 0 < get_or picks k 0

  -- the numbers rise with the places
  abbrev Rises : List X → (ℕ → ℕ) → Type 0
  Rises xs low = (i j : ℕ) → i < j → j < length xs → low i < low j

  module _ (x : X) (xs : List X) (low : ℕ → ℕ) (up : Rises (x ∷ xs) low) (k : Picked xs (λ i. low (suc i))) where
    each_yes : p x ≡ true → (n : ℕ) → n < suc (length k.picks) → (i : ℕ) × (i < suc (length xs)) × (p (get_or (x ∷ xs) i d) ≡ true) × (get_or (low 0 ∷ k.picks) n 0 ≡ low i)
    each_yes e zero h = (0, omega arith, e, refl)
    each_yes e (suc n) h = let w = k.each n (omega arith) in (suc w.0, omega (arith, w.1), w.2, w.3)

    each_no : (n : ℕ) → n < length k.picks → (i : ℕ) × (i < suc (length xs)) × (p (get_or (x ∷ xs) i d) ≡ true) × (get_or k.picks n 0 ≡ low i)
    each_no n h = let w = k.each n h in (suc w.0, omega (arith, w.1), w.2, w.3)

    all_yes : (i : ℕ) → i < suc (length xs) → p (get_or (x ∷ xs) i d) ≡ true → (n : ℕ) × (n < suc (length k.picks)) × (get_or (low 0 ∷ k.picks) n 0 ≡ low i)
    all_yes zero h e = (0, omega arith, refl)
    all_yes (suc i) h e = let w = k.all i (omega arith) e in (suc w.0, omega (arith, w.1), w.2)

    all_no : p x ≡ false → (i : ℕ) → i < suc (length xs) → p (get_or (x ∷ xs) i d) ≡ true → (n : ℕ) × (n < length k.picks) × (get_or k.picks n 0 ≡ low i)
    all_no out zero h e = absurd (both_ways (p x) out e)
    all_no out (suc i) h e = k.all i (omega arith) e

    rising_yes : (i j : ℕ) → i < j → j < suc (length k.picks) → get_or (low 0 ∷ k.picks) i 0 < get_or (low 0 ∷ k.picks) j 0
    rising_yes zero zero l h = absurd (omega arith)
    rising_yes zero (suc j) l h = let w = k.each j (omega arith) in let more : low 0 < low (suc w.0) = up 0 (suc w.0) (omega arith) (omega (arith, w.1)) in omega (arith, w.3)
    rising_yes (suc i) zero l h = absurd (omega arith)
    rising_yes (suc i) (suc j) l h = k.rising i j (omega arith) (omega arith)

    one_more : (b : Bool) → p x ≡ b → Picked (x ∷ xs) low
    one_more true e = record {
      picks = low 0 ∷ k.picks;
      many = sum_by-cons (λ y. cond (p y) 1 0) x xs ∙ ap (λ b. cond b 1 0 + count_by p xs) e ∙ omega (arith, k.many);
      each = each_yes e;
      all = all_yes;
      rising = rising_yes;
    }
    one_more false e = record {
      picks = k.picks;
      many = sum_by-cons (λ y. cond (p y) 1 0) x xs ∙ ap (λ b. cond b 1 0 + count_by p xs) e ∙ omega (arith, k.many);
      each = each_no;
      all = all_no e;
      rising = k.rising;
    }

  picked : (xs : List X) (low : ℕ → ℕ) → Rises xs low → Picked xs low
  picked [] low up = record { picks = []; many = refl; each = λ k h. absurd (omega arith); all = λ i h. absurd (omega arith); rising = λ j k l h. absurd (omega arith) }
  picked (x ∷ xs) low up = one_more x xs low up (picked xs (λ i. low (suc i)) (λ i j l h. up (suc i) (suc j) (omega arith) (omega arith))) (p x) refl

-- nothing is asked exactly where neither off nor on is
busy : (off on b : Bool) → not (off || on) ≡ true → asks b (record { off = off; on = on }) ≡ true → ⊥
busy true on b e a = both_ways false refl e
busy false true b e a = both_ways false refl e
busy false false false e a = both_ways false refl a
busy false false true e a = both_ways false refl a

idle : (off on : Bool) → ((b : Bool) → asks b (record { off = off; on = on }) ≡ true → ⊥) → not (off || on) ≡ true
idle true on h = absurd (h false refl)
idle false true h = absurd (h true refl)
idle false false h = refl

module _ (s : Surface) (inside : TiesInside s) where
  abbrev free : Musts → Bool
  free m = not (m.off || m.on)

  abbrev of_class : ℕ → Musts
  of_class j = get_or (musts_in s) j unasked

  labels : LabelsRight s
  labels = labels_right s inside

  classes : ClassesRight s
  classes = classes_right s inside

  musts : MustsRight s
  musts = musts_right s inside

  -- the lowest cell of a class that is free stands for it
  leads_at : (j : ℕ) → j < class_count s → free (of_class j) ≡ true → Leads s (lowest_of s j)
  leads_at j h e =
      let c : ℕ = lowest_of s j in
      let in_box : c < cells s.frame = classes.in_box j h in
      let own : label_of s c ≡ c = sym (classes.lowest c in_box) ∙ ap (lowest_of s) (classes.begun j h) in
      record {
        in_box = in_box;
        lowest = λ d hd join. omega (arith, labels.lowest c d hd join, own);
        unasked = λ row d b hr hd join t. busy (of_class j).off (of_class j).on b e (musts.asked j b (record { row = row; cell = d; in_row = hr; in_box = hd; in_class = sym (classes.joins c d in_box hd join) ∙ classes.begun j h; tie = t }));
      }

  -- and a cell that stands for a class is its lowest, and the class is free
  module _ (c : ℕ) (l : Leads s c) where
    never : (b : Bool) → asks b (of_class (class_of s c)) ≡ true → ⊥
    never b e = let a = musts.only (class_of s c) b e in l.unasked a.row a.cell b a.in_row a.in_box (classes.joined c a.cell l.in_box a.in_box (sym a.in_class)) a.tie

    is_free : free (of_class (class_of s c)) ≡ true
    is_free = idle (of_class (class_of s c)).off (of_class (class_of s c)).on never

    is_lowest : lowest_of s (class_of s c) ≡ c
    is_lowest =
        let found : lowest_of s (class_of s c) ≡ label_of s c = classes.lowest c l.in_box in
        let box : lowest_of s (class_of s c) < cells s.frame = classes.in_box (class_of s c) (classes.within c l.in_box) in
        let below : c ≤ label_of s c = l.lowest (label_of s c) (omega arith) (labels.own c l.in_box) in
        let above : label_of s c ≤ c = labels.lowest c c l.in_box alone in
        omega arith

  found : Picked free unasked (musts_in s) (lowest_of s)
  found = picked free unasked (musts_in s) (lowest_of s) (λ i j l h. classes.rising i j l (omega (arith, musts.long)))

pub free_right : FreeStands
free_right s inside =
    let k = found s inside in
    record {
      leads = k.picks;
      rising = k.rising;
      each = λ n h. (let w = k.each n h in subst (Leads s) (sym w.3) (leads_at s inside w.0 (omega (arith, w.1, (musts s inside).long)) w.2));
      all = λ c l. (let w = k.all (class_of s c) (omega (arith, (musts s inside).long, (classes s inside).within c l.in_box)) (is_free s inside c l) in (w.0, w.1, w.2 ∙ is_lowest s inside c l));
      as_many = k.many;
    }
