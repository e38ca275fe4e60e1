-- The number of each refusal of a search's calls.
use Rattle.std.specs.Prelude.{ℕ, Some, None, Option}
use Rattle.pages.specs.Faults.{number_of}
use Rattle.search.specs.declared.fault.OpenFault.{OpenFault}
use Rattle.search.specs.declared.fault.OpenFault.TheVariants as opening
use Rattle.search.specs.declared.fault.GoFault.{GoFault}
use Rattle.search.specs.declared.fault.GoFault.TheVariants as going
use Rattle.search.specs.declared.fault.CellFault.{CellFault}
use Rattle.search.specs.declared.fault.CellFault.TheVariants as reading
use Rattle.search.specs.declared.fault.WriteFault.{WriteFault}
use Rattle.search.specs.declared.fault.WriteFault.TheVariants as writing
use Rattle.search.specs.declared.fault.TallyFault.{TallyFault}
use Rattle.search.specs.declared.fault.TallyFault.TheVariants as tallying

abbrev pub open_number : OpenFault → Option ℕ
open_number opening.NotBlank = Some 10
open_number opening.TieRows = Some 11
open_number opening.Memory = None

abbrev pub go_number : GoFault → ℕ
go_number going.Blank = 12
go_number going.Steps = 13

abbrev pub read_number : CellFault → ℕ
read_number reading.Blank = 12
read_number reading.NoFind = 14
read_number reading.NoCell = 7

abbrev pub write_number : WriteFault → ℕ
write_number writing.Blank = 12
write_number writing.NoFind = 14
write_number (writing.Page fault) = number_of fault

abbrev pub tally_number : TallyFault → ℕ
tally_number tallying.Blank = 12
