-- B3/S23, and worked examples of its codes.
use Rattle.std.specs.Prelude.{◌≡◌, ℕ, Bool, ◌&&◌, ◌||◌, ◌==◌}
use Rattle.codes.specs.Tables.{code_at}

-- its answers: on with 3 neighbours on, and for a centre that is on with 2
abbrev pub life_answer : Bool → ℕ → Bool
life_answer centre sum = sum == 3 || (centre && sum == 2)

-- codes worked out by hand
pub record WorkedCodes : Type 0 where
  -- off, 0 on and 3 unknown, successor on: three are needed, so all unknown neighbours are on
  pub neighbours_on : code_at life_answer 10 ≡ 64
  -- on, 4 on and none unknown, successor on: a contradiction
  pub contradiction : code_at life_answer 352 ≡ 1
  -- off, 0 on and 2 unknown, successor unknown: at most 2 are on, so the successor is off
  pub successor_off : code_at life_answer 8 ≡ 8
  -- unknown, 2 on and none unknown, successor on: no birth among 2, so the centre is on
  pub centre_on : code_at life_answer 541 ≡ 4
  -- off, 3 on and 1 unknown, successor on: no birth among 4, so the unknown neighbour is off
  pub neighbours_off : code_at life_answer 85 ≡ 32
