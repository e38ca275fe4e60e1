-- How many classes are unknown.
use Rattle.std.specs.Prelude.{ℕ, ◌+◌, cond, List, [], ◌∷◌}
use Rattle.codes.specs.declared.value.Value.{Value}
use Rattle.codes.specs.Codes.{is_unknown}

abbrev pub unknowns : List Value → ℕ
unknowns [] = 0
unknowns (v ∷ vs) = cond (is_unknown v) 1 0 + unknowns vs
