-- A pattern in a box: which cells its runs cover.
use Rattle.std.specs.Prelude.{◌*◌, ◌/◌, ◌%◌, Bool, List, map}
use Rattle.std.specs.List.{range_with_len}
use Rattle.frames.specs.declared.frame.Frame.{Frame}
use Rattle.rle.specs.Runs.{covers}
use Rattle.rle.specs.declared.mark.Run.{Run}

-- the first generation of a box with a pattern's corner at its own: a cell is on where an `o` run covers it
abbrev pub laid : Frame → List Run → List Bool
laid f runs = map (λ c. covers 0 0 runs (c % f.width) (c / f.width)) (range_with_len 0 (f.width * f.height))
