-- What a rule answers.
use Rattle.std.specs.Prelude.{ℕ, ◌/◌, ◌%◌, ◌^◌, Bool, cond, ◌==◌}
use Rattle.rules.specs.declared.rule.Rule.{Rule}

-- whether a set of bits holds a digit
abbrev pub holds : ℕ → ℕ → Bool
holds set digit = (set / 2 ^ digit % 2) == 1

-- whether the centre is on in the next generation, from whether it is on and how many neighbours are
abbrev pub answer : Rule → Bool → ℕ → Bool
answer r centre sum = cond centre (holds r.survivals sum) (holds r.births sum)
