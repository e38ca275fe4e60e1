-- What is asked of classes, tie by tie.
use Rattle.std.proofs.Common.{◌≡◌, ℕ, ◌+◌, ◌/◌, ◌%◌, List, get_or, replicate, sym, ap, ◌∙◌, add-one}
use Rattle.planes.specs.declared.tie.Tie.{Tie}
use Rattle.classes.specs.Asked.{unasked, asked_by, asked_after}
use Rattle.classes.specs.declared.classes.Musts.{Musts}

module _ (tie : ℕ → ℕ → Tie) (size : ℕ) (classes : List ℕ) (count : ℕ) where
  pub asked_none : (n : ℕ) (musts : List Musts) → n ≡ 0 → musts ≡ replicate count unasked → musts ≡ asked_after tie size classes count n
  unfolding asked_after
  asked_none n musts first e = e ∙ sym (ap (asked_after tie size classes count) first)

  pub asked_more : (n after cell : ℕ) (old new : List Musts) (t : Tie) → old ≡ asked_after tie size classes count n → after ≡ n + 1 → cell ≡ n % size → t ≡ tie (n / size) (n % size) → new ≡ asked_by old (get_or classes cell 0) t → new ≡ asked_after tie size classes count after
  unfolding asked_after
  asked_more n after cell old new t e onward c tied asks = asks ∙ (λ i. asked_by (e i) (get_or classes (c i) 0) (tied i)) ∙ sym (ap (asked_after tie size classes count) (onward ∙ add-one n))
