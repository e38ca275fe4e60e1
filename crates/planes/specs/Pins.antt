-- What the fixed layer asks.
use Rattle.std.specs.Prelude.{ℕ, Bool, cond, List, [], ◌∷◌, ◌++◌, length, Some, None, Ok, Err, Option, Result, ◌==◌, nat_lt}
use Rattle.std.specs.List.{find}
use Rattle.planes.specs.declared.pins.Pin.{Pin}
use Rattle.planes.specs.declared.tie.Tie.{Tie}
use Rattle.planes.specs.declared.tie.Tie.TheVariants.{Free, Off, On, Same}
use Rattle.frames.specs.declared.frame.Frame.{Frame}
use Rattle.frames.specs.Frames.{cells, number_at}
use Rattle.planes.specs.declared.fault.FixFault.{FixFault}
use Rattle.planes.specs.declared.fault.FixFault.TheVariants.{NoCell, Held, Full}
use Rattle.planes.specs.Layers.{must}

-- what a pin asks; nothing where there is none
abbrev pub asked_by : Option Pin → Tie
asked_by None = Free
asked_by (Some p) = must p.on

-- what the first pin of a cell asks of it; nothing where it has none
abbrev pub pinned : List Pin → ℕ → Tie
pinned ps cell = asked_by (find (λ p. p.cell == cell) ps)

-- the same over a frame: nothing is asked where there is no such cell
abbrev pub own_tie : Frame → List Pin → ℕ → Tie
own_tie f pins cell = cond (nat_lt cell (cells f)) (pinned pins cell) Free

-- one pin more, or why not: the cell is not free already, or 64 are held
abbrev pub pinned_too : List Pin → ℕ → Bool → Tie → Result (List Pin) FixFault
pinned_too pins cell on Free = cond (nat_lt (length pins) 64) (Ok (pins ++ record { cell = cell; on = on } ∷ [])) (Err Full)
pinned_too pins cell on Off = Err Held
pinned_too pins cell on On = Err Held
pinned_too pins cell on (Same other) = Err Held

-- the same for a cell by its number, where the box has it
abbrev pub fixed_number : List Pin → Bool → Option ℕ → Result (List Pin) FixFault
fixed_number pins on None = Err NoCell
fixed_number pins on (Some cell) = pinned_too pins cell on (pinned pins cell)

-- the pins after a fix, or why it is refused: 7, 8 and 9 are tried in this order
abbrev pub fixed_cell : Frame → List Pin → ℕ → ℕ → ℕ → Bool → Result (List Pin) FixFault
fixed_cell f pins x y t on = fixed_number pins on (number_at f (record { x = x; y = y; t = t }))

-- an answer, with the pins that the layer then holds
abbrev pub holding : List Pin → Result (Unit {0}) FixFault → Result (List Pin) FixFault
holding pins (Ok u) = Ok pins
holding pins (Err e) = Err e
