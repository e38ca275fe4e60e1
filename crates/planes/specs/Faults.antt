-- The number of each refusal to fix a cell.
use Rattle.std.specs.Prelude.{ℕ}
use Rattle.planes.specs.declared.fault.FixFault.{FixFault}
use Rattle.planes.specs.declared.fault.FixFault.TheVariants.{NoCell, Held, Full}

abbrev pub number_of : FixFault → ℕ
number_of NoCell = 7
number_of Held = 8
number_of Full = 9
