-- The number of each refusal of a frame.
use Rattle.std.specs.Prelude.{ℕ}
use Rattle.frames.specs.declared.fault.FrameFault.{FrameFault}
use Rattle.frames.specs.declared.fault.FrameFault.TheVariants.{Size, Period, Cells, Drift}

abbrev pub number_of : FrameFault → ℕ
number_of Size = 1
number_of Period = 2
number_of Cells = 3
number_of Drift = 4
