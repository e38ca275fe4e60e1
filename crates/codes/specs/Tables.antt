-- The table of a rule's codes.
use Rattle.std.specs.Prelude.{ℕ, ◌+◌, ◌*◌, ◌/◌, ◌%◌, Bool, cond, ◌&&◌, nat_le, nat_lt, slice_index}
use Rattle.codes.specs.declared.table.Table.{Table}
use Rattle.codes.specs.Values.{number_of, value_of}
use Rattle.codes.specs.Codes.{Parts, code}

-- the place of a descriptor's code in a table
abbrev pub index : Parts → ℕ
index d = ((number_of d.centre * 9 + d.on) * 9 + d.unknown) * 3 + number_of d.successor

-- the descriptor whose code stands at a place
abbrev pub parts_at : ℕ → Parts
parts_at i = record { centre = value_of (i / 243); on = i / 27 % 9; unknown = i / 3 % 9; successor = value_of (i % 3) }

-- the code at a place: 0 where more than 8 neighbours are on or unknown, and past the last of the 729 places
abbrev pub code_at : (Bool → ℕ → Bool) → ℕ → ℕ
code_at rule i = cond (nat_lt i 729 && nat_le ((parts_at i).on + (parts_at i).unknown) 8) (code rule (parts_at i)) 0

-- what a table holds at a place, and 0 past the last
abbrev pub code_in : Table → ℕ → ℕ
code_in t i = cond (nat_lt i 729) (slice_index t.codes i) 0
