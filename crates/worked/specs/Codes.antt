-- Worked examples of the codes of B3/S23.
use Rattle.std.specs.Prelude.{◌≡◌, ℕ}
use Rattle.rules.specs.Answers.{answer}
use Rattle.codes.specs.Codes.{Parts, code}
use Rattle.codes.specs.Tables.{index, code_at, code_in}
use Rattle.codes.specs.declared.table.Table.{Table}
use Rattle.codes.specs.declared.value.Value.{Value}
use Rattle.codes.specs.declared.value.Value.TheVariants.{Off, On, Unknown}
use Rattle.rolls.specs.Examples.{life}

-- a descriptor: centre, neighbours on, neighbours unknown, successor
abbrev pub parts : Value → ℕ → ℕ → Value → Parts
parts centre on unknown successor = record { centre = centre; on = on; unknown = unknown; successor = successor }

-- what `Table::of` promises of its answer for B3/S23, which is the constant table
abbrev pub OfLife : Table → Type 0
OfLife t = (i : ℕ) → code_in t i ≡ code_at (answer life) i

-- a descriptor has this index and, under B3/S23, this code; and that is what the program's table holds there
pub record Coded (d : Parts) (place number : ℕ) : Type 0 where
  pub at : index d ≡ place
  pub is : code (answer life) d ≡ number
  pub held : (t : Table) → OfLife t → code_in t place ≡ number

-- five codes of B3/S23, with the index of each
pub record CodesWorked : Type 0 where
  -- three neighbours are needed, so all unknown ones are on
  pub neighbours_on : Coded (parts Off 0 3 On) 10 64
  -- a cell with four neighbours on does not stay on: a contradiction
  pub contradiction : Coded (parts On 4 0 On) 352 1
  -- at most two neighbours are on, so the successor is off
  pub successor_off : Coded (parts Off 0 2 Unknown) 8 8
  -- no birth among two neighbours, so the centre is on
  pub centre_on : Coded (parts Unknown 2 0 On) 541 4
  -- no birth among four neighbours, so the unknown one is off
  pub neighbours_off : Coded (parts Off 3 1 On) 85 32
