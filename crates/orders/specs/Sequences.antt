-- In which sequence the supplied orders take the cells, in the words of columns, rows and generations.
use Rattle.std.specs.Prelude.{◌≡◌, ℕ, ◌<◌, ◌⊎◌}
use Rattle.frames.specs.declared.frame.Frame.{Frame}
use Rattle.frames.specs.Frames.{cells, cell_at}
use Rattle.orders.specs.Orders.{rows_rank, columns_rank}

-- three numbers come before three others: the first in which they differ decides
abbrev pub Sooner : ℕ → ℕ → ℕ → ℕ → ℕ → ℕ → Type 0
Sooner a b c d e f = (a < d) ⊎ ((a ≡ d) × ((b < e) ⊎ ((b ≡ e) × (c < f))))

-- of two cells the one of the lower row has the lower rank, in one row that of the lower column, and in one place that of the earlier generation
abbrev pub RowsRise : Type 0
RowsRise = (f : Frame) (m n : ℕ) → m < cells f → n < cells f → Sooner (cell_at f m).y (cell_at f m).x (cell_at f m).t (cell_at f n).y (cell_at f n).x (cell_at f n).t → rows_rank f m < rows_rank f n

-- by column, then by row, then by generation
abbrev pub ColumnsRise : Type 0
ColumnsRise = (f : Frame) (m n : ℕ) → m < cells f → n < cells f → Sooner (cell_at f m).x (cell_at f m).y (cell_at f m).t (cell_at f n).x (cell_at f n).y (cell_at f n).t → columns_rank f m < columns_rank f n

-- by generation, then by row, then by column: this is how cells are numbered
abbrev pub GenerationsRise : Type 0
GenerationsRise = (f : Frame) (m n : ℕ) → m < cells f → n < cells f → Sooner (cell_at f m).t (cell_at f m).y (cell_at f m).x (cell_at f n).t (cell_at f n).y (cell_at f n).x → m < n
