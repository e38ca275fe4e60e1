-- The cell of each rank and the rank of each cell, in the supplied orders.
use Rattle.std.specs.Prelude.{ℕ, ◌+◌, ◌*◌, ◌/◌, ◌%◌, Bool, true, false, cond, nat_lt}
use Rattle.frames.specs.declared.frame.Frame.{Frame}
use Rattle.frames.specs.Frames.{cells, cell_number, cell_at}

-- what is asked for below the number of cells, and that number past it
abbrev pub bounded : Frame → (ℕ → ℕ) → ℕ → ℕ
bounded f of i = cond (nat_lt i (cells f)) (of i) (cells f)

-- by row, then by column, then by generation
abbrev pub rows_rank : Frame → ℕ → ℕ
rows_rank f cell = ((cell_at f cell).y * f.width + (cell_at f cell).x) * f.period + (cell_at f cell).t

abbrev pub rows_cell : Frame → ℕ → ℕ
rows_cell f rank = cell_number f (rank / f.period % f.width) (rank / f.period / f.width) (rank % f.period)

-- by column, then by row, then by generation
abbrev pub columns_rank : Frame → ℕ → ℕ
columns_rank f cell = ((cell_at f cell).x * f.height + (cell_at f cell).y) * f.period + (cell_at f cell).t

abbrev pub columns_cell : Frame → ℕ → ℕ
columns_cell f rank = cell_number f (rank / f.period / f.height) (rank / f.period % f.height) (rank % f.period)

-- the two by what comes first: the column (true) or the row (false)
abbrev pub places_rank : Bool → Frame → ℕ → ℕ
places_rank true = columns_rank
places_rank false = rows_rank

abbrev pub places_cell : Bool → Frame → ℕ → ℕ
places_cell true = columns_cell
places_cell false = rows_cell
