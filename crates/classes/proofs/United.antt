-- Labels as cells are united: what the loops come to, and that no label rises.
use Rattle.std.proofs.Common.{◌≡◌, ℕ, ◌+◌, ◌*◌, ◌/◌, ◌%◌, ◌<◌, ◌≤◌, min, max, List, ◌++◌, map, length, get_or, take, drop, sym, ap, ◌∙◌, subst, inl, inr, append-nil, add-one, mul_comm, arith}
use lib.ListN.{length-map}
use Rattle.std.proofs.lemmas.Nat.{div-mul-add, mod-mul-add, mul-add-lt}
use Rattle.std.proofs.lemmas.List.{take_all, drop_all, get_or-map}
use Rattle.std.proofs.lemmas.List.FromFn.{get_or-range_with_len, length-range_with_len}
use Rattle.std.specs.List.{range_with_len}
use Rattle.std.proofs.lemmas.Bool.{cases_eq, eq-eqb, ne_eqb, cond-true, cond-false}
use Rattle.classes.specs.Labels.{renamed, united, joined_by, labels_after, Low, Lowered}
use Rattle.planes.specs.Ties.{Within}
use Rattle.planes.specs.declared.tie.Tie.{Tie}

-- a loop that has gone over the whole list
pub gone_over : {X : Type 0} (f : X → X) (xs ys : List X) (i : ℕ) → length xs ≤ i → ys ≡ map f (take i xs) ++ drop i xs → ys ≡ map f xs
gone_over f xs ys i h e = e ∙ ap (λ l. map f l ++ drop i xs) (take_all i xs h) ∙ ap (λ l. map f xs ++ l) (drop_all i xs h) ∙ append-nil (map f xs)

renamed_le : (low high l : ℕ) → low ≤ high → renamed low high l ≤ l
renamed_le low high l h =
    elim (cases_eq l high) [
      | inl e ↦ subst (λ n. n ≤ l) (sym (cond-true _ low l (eq-eqb l high e))) (omega arith)
      | inr ne ↦ subst (λ n. n ≤ l) (sym (cond-false _ low l (ne_eqb l high ne))) (omega arith)
    ]

pub united_lower : (xs : List ℕ) (a b : ℕ) → Lowered xs (united xs a b)
united_lower xs a b =
    let low = min (get_or xs a 0) (get_or xs b 0) in
    let high = max (get_or xs a 0) (get_or xs b 0) in
    record {
      as_long = length-map xs (renamed low high);
      lower = λ k h. subst (λ n. n ≤ get_or xs k 0) (sym (get_or-map (renamed low high) xs k 0 0 h)) (renamed_le low high (get_or xs k 0) (omega arith));
    }

pub counting_low : (n : ℕ) → Low (range_with_len 0 n)
counting_low n k h = subst (λ m. m ≤ k) (sym (get_or-range_with_len 0 n k 0 (omega (arith, length-range_with_len 0 n)))) (omega arith)

pub low_lowered : (old new : List ℕ) → Low old → Lowered old new → Low new
low_lowered old new low l k h = omega (arith, low k (omega (arith, l.as_long)), l.lower k (omega (arith, l.as_long)))

-- the labels before the first tie, and after one more
module _ (tie : ℕ → ℕ → Tie) (size : ℕ) where
  pub after_none : (n : ℕ) (labels : List ℕ) → n ≡ 0 → labels ≡ range_with_len 0 size → labels ≡ labels_after tie size n
  unfolding labels_after
  after_none n labels first e = e ∙ sym (ap (labels_after tie size) first)

  pub after_more : (n after cell : ℕ) (old new : List ℕ) (t : Tie) → old ≡ labels_after tie size n → after ≡ n + 1 → cell ≡ n % size → t ≡ tie (n / size) (n % size) → new ≡ joined_by old cell t → new ≡ labels_after tie size after
  unfolding labels_after
  after_more n after cell old new t e onward c tied joined = joined ∙ (λ i. joined_by (e i) (c i) (tied i)) ∙ sym (ap (labels_after tie size) (onward ∙ add-one n))

-- what holds of every tie by its number holds of each row and cell
pub each_row : (tie : ℕ → ℕ → Tie) (size rows : ℕ) → ((k : ℕ) → k < rows * size → Within size (tie (k / size) (k % size))) → (row c : ℕ) → row < rows → c < size → Within size (tie row c)
each_row tie size rows h row c inside here =
    let at : row * size + c < size * rows = mul-add-lt row size c rows inside here in
    let within = h (row * size + c) (omega (arith, at, mul_comm size rows)) in
    subst (λ r. Within size (tie r c)) (div-mul-add row size c here)
    (subst (λ x. Within size (tie ((row * size + c) / size) x)) (mod-mul-add row size c here) within)
