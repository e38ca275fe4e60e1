-- The number of each refusal of a call.
use Rattle.std.specs.Prelude.{ℕ, Some, Option}
use Rattle.calls.specs.declared.fault.CallFault.{CallFault}
use Rattle.calls.specs.declared.fault.CallFault.TheVariants as calling
use Rattle.search.specs.Faults.{open_number, go_number, read_number, write_number, tally_number}

abbrev pub number_of : CallFault → Option ℕ
number_of (calling.Open fault) = open_number fault
number_of (calling.Go fault) = Some (go_number fault)
number_of (calling.Cell fault) = Some (read_number fault)
number_of (calling.Write fault) = Some (write_number fault)
number_of (calling.Tally fault) = Some (tally_number fault)
