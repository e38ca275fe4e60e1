-- What the ties ask of each class, and how many classes nothing is asked of.
use Rattle.std.specs.Prelude.{ℕ, zero, suc, ◌/◌, ◌%◌, Bool, true, false, ◌&&◌, ◌||◌, not, List, count_by, replicate, slice_index, slice_index_or, slice_set}
use Rattle.std.specs.List.{list_any}
use Rattle.planes.specs.declared.tie.Tie.{Tie}
use Rattle.planes.specs.declared.tie.Tie.TheVariants.{Free, Off, On, Same}
use Rattle.classes.specs.declared.classes.Musts.{Musts}

-- nothing is asked
abbrev pub unasked : Musts
unasked = record { off = false; on = false }

-- what is asked of the classes, with a tie of a cell of one class more
abbrev pub asked_by : List Musts → ℕ → Tie → List Musts
asked_by musts class Free = musts
asked_by musts class Off = slice_set musts class (record { off = true; on = (slice_index_or musts class unasked).on })
asked_by musts class On = slice_set musts class (record { off = (slice_index_or musts class unasked).off; on = true })
asked_by musts class (Same other) = musts

-- what is asked of so many classes once the first n ties, row by row, have been taken
unfoldable pub asked_after : (ℕ → ℕ → Tie) → ℕ → List ℕ → ℕ → ℕ → List Musts
asked_after tie size classes count zero = replicate count unasked
asked_after tie size classes count (suc n) = asked_by (asked_after tie size classes count n) (slice_index classes (n % size)) (tie (n / size) (n % size))

-- how many classes nothing is asked of
abbrev pub free_among : List Musts → ℕ
free_among ms = count_by (λ m. not (m.off || m.on)) ms

-- whether something is asked to be off and on at once
abbrev pub torn_among : List Musts → Bool
torn_among ms = list_any (λ m. m.off && m.on) ms

-- whether off, for false, or on, for true, is asked
abbrev pub asks : Bool → Musts → Bool
asks false m = m.off
asks true m = m.on

-- the tie that asks so
abbrev pub must : Bool → Tie
must false = Off
must true = On
