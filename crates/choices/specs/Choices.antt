-- What an order that is chosen at run time means.
use Rattle.std.specs.Prelude.{ℕ}
use Rattle.frames.specs.declared.frame.Frame.{Frame}
use Rattle.orders.specs.Orders.{rows_cell, rows_rank, columns_cell, columns_rank}
use Rattle.choices.specs.declared.any_order.AnyOrder.{AnyOrder}
use Rattle.choices.specs.declared.any_order.AnyOrder.TheVariants.{Rows, Columns, Generations}

-- the cell of a rank in the order that was chosen
abbrev pub chosen_cell : AnyOrder → Frame → ℕ → ℕ
chosen_cell Rows f rank = rows_cell f rank
chosen_cell Columns f rank = columns_cell f rank
chosen_cell Generations f rank = rank

-- the rank of a cell in the order that was chosen
abbrev pub chosen_rank : AnyOrder → Frame → ℕ → ℕ
chosen_rank Rows f cell = rows_rank f cell
chosen_rank Columns f cell = columns_rank f cell
chosen_rank Generations f cell = cell
