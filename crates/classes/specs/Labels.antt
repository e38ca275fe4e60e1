-- Labels of cells, while classes are being found: each is the number of a cell of the same class.
use Rattle.std.specs.Prelude.{◌≡◌, ℕ, zero, suc, ◌*◌, ◌/◌, ◌%◌, ◌<◌, ◌≤◌, min, max, cond, List, map, length, ◌==◌, slice_index}
use Rattle.std.specs.List.{range_with_len}
use Rattle.frames.specs.declared.frame.Frame.{Frame}
use Rattle.frames.specs.Frames.{cells}
use Rattle.planes.specs.declared.tie.Tie.{Tie}
use Rattle.planes.specs.declared.tie.Tie.TheVariants.{Free, Off, On, Same}

-- no cell has a label above its own number
abbrev pub Low : List ℕ → Type 0
Low labels = (k : ℕ) → k < length labels → slice_index labels k ≤ k

-- as many labels, none higher than before
pub record Lowered (old new : List ℕ) : Type 0 where
  pub as_long : length new ≡ length old
  pub lower : (k : ℕ) → k < length old → slice_index new k ≤ slice_index old k

-- the class of each cell has a number below n
abbrev pub Numbered : ℕ → List ℕ → Type 0
Numbered n classes = (k : ℕ) → k < length classes → slice_index classes k < n

-- a label, with the high one of two made the low one
abbrev pub renamed : ℕ → ℕ → ℕ → ℕ
renamed low high label = cond (label == high) low label

-- the labels once two cells, and all that had their labels, have the lower of the two
abbrev pub united : List ℕ → ℕ → ℕ → List ℕ
united labels a b = map (renamed (min (slice_index labels a) (slice_index labels b)) (max (slice_index labels a) (slice_index labels b))) labels

-- the same for a cell and the one that a tie names
abbrev pub joined_by : List ℕ → ℕ → Tie → List ℕ
joined_by labels cell Free = labels
joined_by labels cell Off = labels
joined_by labels cell On = labels
joined_by labels cell (Same other) = united labels cell other

-- the labels once the first n ties, row by row, have been taken: at first each cell has its own
unfoldable pub labels_after : (ℕ → ℕ → Tie) → ℕ → ℕ → List ℕ
labels_after tie size zero = range_with_len 0 size
labels_after tie size (suc n) = joined_by (labels_after tie size n) (n % size) (tie (n / size) (n % size))

-- the labels once every tie has been taken
abbrev pub joined_labels : Frame → ℕ → (ℕ → ℕ → Tie) → List ℕ
joined_labels f rows tie = labels_after tie (cells f) (rows * cells f)
