-- The number of each fault of a text.
use Rattle.std.specs.Prelude.{ℕ}
use Rattle.rle.specs.declared.fault.ReadCause.{ReadCause}
use Rattle.rle.specs.declared.fault.ReadCause.TheVariants.{TooLong, Byte, Size, Outside, Ended}

abbrev pub number_of : ReadCause → ℕ
number_of TooLong = 18
number_of Byte = 19
number_of Size = 20
number_of Outside = 21
number_of Ended = 22
