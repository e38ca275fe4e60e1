-- Classes numbered in the sequence of their lowest cells.
use Rattle.std.specs.Prelude.{ℕ, ◌≤◌, cond, List, [], ◌∷◌, ◌++◌, length, ◌==◌, slice_index}
use Rattle.classes.specs.Labels.{Numbered}

-- the class of each cell so far, and the lowest cell of each class so far
pub record Numbers : Type 0 where
  pub classes : List ℕ
  pub lowest : List ℕ

-- so many classes of so many cells: no more, and each cell has one of them
pub record Fit (count cells : ℕ) (classes : List ℕ) : Type 0 where
  pub fewer : count ≤ cells
  pub below : Numbered count classes

-- the next cell: it begins a class where its label is its own number, else it joins that of the cell that the label names
abbrev pub next_class : Numbers → ℕ → ℕ
next_class n label = cond (label == length n.classes) (length n.lowest) (slice_index n.classes label)

abbrev pub next_lowest : Numbers → ℕ → List ℕ
next_lowest n label = cond (label == length n.classes) (n.lowest ++ length n.classes ∷ []) n.lowest

abbrev pub numbered_too : Numbers → ℕ → Numbers
numbered_too n label = record { classes = n.classes ++ next_class n label ∷ []; lowest = next_lowest n label }

-- the classes of cells with these labels, after some that are numbered
unfoldable pub numbered_from : Numbers → List ℕ → Numbers
numbered_from n [] = n
numbered_from n (label ∷ labels) = numbered_from (numbered_too n label) labels

-- the classes of cells with these labels
abbrev pub numbers_of : List ℕ → Numbers
numbers_of labels = numbered_from (record { classes = []; lowest = [] }) labels
