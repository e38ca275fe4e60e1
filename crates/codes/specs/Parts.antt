-- What a code says of one part of a descriptor.
use Rattle.std.specs.Prelude.{ℕ, Bool, cond, not, ◌==◌, Option, Some, None, bit_and, bit_or}
use Rattle.codes.specs.declared.part.Part.{Part}

-- nothing where the code has neither summand of the part; otherwise whether it has that for on
abbrev pub said_of : Part → ℕ → Option Bool
said_of p code = cond (bit_and code (bit_or p.off p.on) == 0) None (Some (not (bit_and code p.on == 0)))
