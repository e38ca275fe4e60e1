use Rattle.std.proofs.Common.{◌≡◌, ℕ, ◌<◌, false, length, slice_index_or}
use Rattle.search.specs.Opening.{found_cells}
use Rattle.search.proofs.record.Record.write.Given as goal

abbrev pub invariant-loop-cell : goal.invariant-loop-cell
invariant-loop-cell l = record { long : length l.pattern ≡ 1024; asked : (k : ℕ) → k < l.cell → slice_index_or l.pattern k false ≡ slice_index_or (found_cells l.self) k false }
