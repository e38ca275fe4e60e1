-- Cells have one label exactly when chains of ties join them.
use Rattle.std.proofs.Common.{◌≡◌, ℕ, zero, suc, ◌+◌, ◌*◌, ◌/◌, ◌%◌, ◌<◌, ◌≤◌, min, max, List, length, get_or, sym, refl, ap, ◌∙◌, subst, inl, inr, mul_comm, mul-pos, arith}
use lib.ListN.{length-map}
use Rattle.std.proofs.lemmas.Nat.{mod_below, div_below, div-mul-add, mod-mul-add, mul-add-lt}
use Rattle.std.proofs.lemmas.List.FromFn.{length-range_with_len, get_or-range_with_len}
use Rattle.std.proofs.lemmas.List.{get_or-map}
use Rattle.std.proofs.lemmas.Bool.{cases_eq, cases_lt, cases_order, eq-eqb, ne_eqb, cond-true, cond-false}
use Rattle.std.specs.List.{range_with_len}
use Rattle.frames.specs.Frames.{cells}
use Rattle.planes.specs.declared.tie.Tie.{Tie}
use Rattle.planes.specs.declared.tie.Tie.TheVariants.{Free, Off, On, Same}
use Rattle.planes.specs.Ties.{Within}
use Rattle.rolls.specs.Joined.{Joined, alone, tied, turned, chained}
use Rattle.rolls.specs.Rolls.{Surface}
use Rattle.classes.specs.Joins.{label_of, TiesInside, LabelsRight, LabelsStand}
use Rattle.classes.specs.Labels.{renamed, united, joined_by, labels_after, joined_labels, Low}
use Rattle.classes.proofs.United.{united_lower, low_lowered, counting_low}

-- both labels become the lower of the two
first_low : (x y : ℕ) → renamed (min x y) (max x y) x ≡ min x y
first_low x y =
    elim (cases_eq x (max x y)) [
      | inl e ↦ cond-true _ (min x y) x (eq-eqb x (max x y) e)
      | inr ne ↦ cond-false _ (min x y) x (ne_eqb x (max x y) ne) ∙ omega arith
    ]

second_low : (x y : ℕ) → renamed (min x y) (max x y) y ≡ min x y
second_low x y =
    elim (cases_eq y (max x y)) [
      | inl e ↦ cond-true _ (min x y) y (eq-eqb y (max x y) e)
      | inr ne ↦ cond-false _ (min x y) y (ne_eqb y (max x y) ne) ∙ omega arith
    ]

-- the labels once the first n ties have been taken
record Taken (s : Surface) (n : ℕ) (labels : List ℕ) : Type 0 where
  long : length labels ≡ cells s.frame
  low : Low labels
  own : (a : ℕ) → a < cells s.frame → Joined s a (get_or labels a 0)
  taken : (t d : ℕ) → t < n → s.tie (t / cells s.frame) (t % cells s.frame) ≡ Same d → get_or labels (t % cells s.frame) 0 ≡ get_or labels d 0

module _ (s : Surface) (inside : TiesInside s) (some : 0 < cells s.frame) where
  none_taken : Taken s 0 (range_with_len 0 (cells s.frame))
  none_taken = record {
    long = length-range_with_len 0 (cells s.frame);
    low = counting_low (cells s.frame);
    own = λ a h. let e : a ≡ get_or (range_with_len 0 (cells s.frame)) a 0 = omega (arith, get_or-range_with_len 0 (cells s.frame) a 0 h) in subst (λ c. Joined s a c) e alone;
    taken = λ t d h e. absurd (omega arith);
  }

  -- a tie below all of them stands in a row and names a cell that exists
  named : (t d : ℕ) → t < s.rows * cells s.frame → s.tie (t / cells s.frame) (t % cells s.frame) ≡ Same d → d < cells s.frame
  named t d h e = subst (Within (cells s.frame)) e (inside (t / cells s.frame) (t % cells s.frame) (div_below t (cells s.frame) s.rows some h) (mod_below t (cells s.frame) some))

  -- a tie that names no cell leaves the labels
  idle : (n : ℕ) (labels : List ℕ) → Taken s n labels → ((d : ℕ) → s.tie (n / cells s.frame) (n % cells s.frame) ≡ Same d → ⊥) → Taken s (suc n) labels
  idle n labels k never = record {
    long = k.long;
    low = k.low;
    own = k.own;
    taken = λ t d h e. elim (cases_order t n) [ inl same ↦ absurd (never d (subst (λ m. s.tie (m / cells s.frame) (m % cells s.frame) ≡ Same d) same e)) | inr (inl less) ↦ k.taken t d less e | inr (inr more) ↦ absurd (omega arith) ];
  }

  module _ (n d : ℕ) (labels : List ℕ) (k : Taken s n labels) (below : n < s.rows * cells s.frame) (e : s.tie (n / cells s.frame) (n % cells s.frame) ≡ Same d) where
    abbrev cell : ℕ
    cell = n % cells s.frame

    abbrev one : ℕ
    one = get_or labels cell 0

    abbrev other : ℕ
    other = get_or labels d 0

    at_map : (a : ℕ) → a < cells s.frame → get_or (united labels cell d) a 0 ≡ renamed (min one other) (max one other) (get_or labels a 0)
    at_map a h = get_or-map (renamed (min one other) (max one other)) labels a 0 0 (omega (arith, k.long))

    cell_in : cell < cells s.frame
    cell_in = mod_below n (cells s.frame) some

    d_in : d < cells s.frame
    d_in = named n d below e

    labels_joined : Joined s one other
    labels_joined = chained (turned (k.own cell cell_in)) (chained (tied (div_below n (cells s.frame) s.rows some below) cell_in e) (k.own d d_in))

    high_low : Joined s (max one other) (min one other)
    high_low =
        elim (cases_lt one other) [
          | inl less ↦ (let a : other ≡ max one other = omega arith in let b : one ≡ min one other = omega arith in subst (λ x. Joined s x (min one other)) a (subst (λ x. Joined s other x) b (turned labels_joined)))
          | inr more ↦ (let a : one ≡ max one other = omega arith in let b : other ≡ min one other = omega arith in subst (λ x. Joined s x (min one other)) a (subst (λ x. Joined s one x) b labels_joined))
        ]

    own_more : (a : ℕ) → a < cells s.frame → Joined s a (get_or (united labels cell d) a 0)
    own_more a h =
        elim (cases_eq (get_or labels a 0) (max one other)) [
          | inl high ↦ subst (λ x. Joined s a x) (sym (at_map a h ∙ cond-true _ (min one other) (get_or labels a 0) (eq-eqb _ _ high))) (chained (subst (λ x. Joined s a x) high (k.own a h)) high_low)
          | inr other-label ↦ subst (λ x. Joined s a x) (sym (at_map a h ∙ cond-false _ (min one other) (get_or labels a 0) (ne_eqb _ _ other-label))) (k.own a h)
        ]

    joins : Taken s (suc n) (united labels cell d)
    joins = record {
      long = length-map labels (renamed (min one other) (max one other)) ∙ k.long;
      low = low_lowered labels (united labels cell d) k.low (united_lower labels cell d);
      own = own_more;
      taken = λ t c h q. elim (cases_order t n) [
        | inl same ↦
            (let now : s.tie (n / cells s.frame) (n % cells s.frame) ≡ Same c = subst (λ m. s.tie (m / cells s.frame) (m % cells s.frame) ≡ Same c) same q in
            let is : c ≡ d = cc in
            let here : get_or (united labels cell d) cell 0 ≡ get_or (united labels cell d) c 0 = at_map cell cell_in ∙ first_low one other ∙ sym (ap (λ x. get_or (united labels cell d) x 0) is ∙ at_map d d_in ∙ second_low one other) in
            subst (λ m. get_or (united labels cell d) (m % cells s.frame) 0 ≡ get_or (united labels cell d) c 0) (sym same) here)
        | inr (inl less) ↦ at_map (t % cells s.frame) (mod_below t (cells s.frame) some) ∙ ap (renamed (min one other) (max one other)) (k.taken t c less q) ∙ sym (at_map c (named t c (omega arith) q))
        | inr (inr more) ↦ absurd (omega arith)
      ];
    }

  -- one tie more, whatever it asks
  step : (n : ℕ) (labels : List ℕ) → Taken s n labels → n < s.rows * cells s.frame → (t : Tie) → s.tie (n / cells s.frame) (n % cells s.frame) ≡ t → Taken s (suc n) (joined_by labels (n % cells s.frame) t)
  step n labels k h Free e = idle n labels k (λ d q. let z : ◌≡◌ {A = ℕ} 0 1 = cc in omega arith)
  step n labels k h Off e = idle n labels k (λ d q. let z : ◌≡◌ {A = ℕ} 0 1 = cc in omega arith)
  step n labels k h On e = idle n labels k (λ d q. let z : ◌≡◌ {A = ℕ} 0 1 = cc in omega arith)
  step n labels k h (Same d) e = joins n d labels k h e

  all_taken : (n : ℕ) → n ≤ s.rows * cells s.frame → Taken s n (labels_after s.tie (cells s.frame) n)
  unfolding labels_after
  all_taken zero h = none_taken
  all_taken (suc n) h = step n (labels_after s.tie (cells s.frame) n) (all_taken n (omega arith)) (omega arith) (s.tie (n / cells s.frame) (n % cells s.frame)) refl

  every : Taken s (s.rows * cells s.frame) (labels_after s.tie (cells s.frame) (s.rows * cells s.frame))
  every = all_taken (s.rows * cells s.frame) (omega arith)

  -- joined cells have one label
  alike : {a b : ℕ} → Joined s a b → label_of s a ≡ label_of s b
  alike alone = refl
  alike (tied {a = a} {b = b} {row = row} h l e) =
      let size = cells s.frame in
      let up : (row * size + a) / size ≡ row = div-mul-add row size a l in
      let over : (row * size + a) % size ≡ a = mod-mul-add row size a l in
      let here : s.tie ((row * size + a) / size) ((row * size + a) % size) ≡ Same b = (λ i. s.tie (up i) (over i)) ∙ e in
      let less : row * size + a < s.rows * size = omega (arith, mul-add-lt row size a s.rows h l, mul_comm size s.rows) in
      subst (λ c. label_of s c ≡ label_of s b) over (every.taken (row * size + a) b less here)
  alike (turned j) = sym (alike j)
  alike (chained i j) = alike i ∙ alike j

  right : LabelsRight s
  right = record {
    joins = λ a b j. alike j;
    joined = λ a b ha hb e. chained (every.own a ha) (turned (subst (λ c. Joined s b c) (sym e) (every.own b hb)));
    own = every.own;
    lowest = λ a b hb j. subst (λ c. c ≤ b) (sym (alike j)) (every.low b (omega (arith, every.long)));
  }

-- a frame has cells
pub some_cells : (s : Surface) → 0 < cells s.frame
some_cells s = mul-pos (mul-pos s.frame.wide s.frame.tall) s.frame.lasting

pub labels_right : LabelsStand
labels_right s inside = right s inside (some_cells s)

-- as many labels as cells, none above its cell
pub labels_long : (s : Surface) → TiesInside s → length (joined_labels s.frame s.rows s.tie) ≡ cells s.frame
labels_long s inside = (every s inside (some_cells s)).long

pub labels_low : (s : Surface) → TiesInside s → Low (joined_labels s.frame s.rows s.tie)
labels_low s inside = (every s inside (some_cells s)).low
