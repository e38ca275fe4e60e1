-- The worked codes, by computing them.
use Rattle.std.proofs.Common.{◌≡◌, ℕ, refl, ◌∙◌}
use Rattle.rules.specs.Answers.{answer}
use Rattle.codes.specs.Codes.{Parts, code}
use Rattle.codes.specs.Tables.{index, code_at}
use Rattle.rolls.specs.Examples.{life}
use Rattle.worked.specs.Codes.{Coded, CodesWorked}

coded : {d : Parts} {place number : ℕ} → index d ≡ place → code (answer life) d ≡ number → code_at (answer life) place ≡ number → Coded d place number
coded {place = place} at is held = record { at = at; is = is; held = λ t of_life. of_life place ∙ held }

pub codes_worked : CodesWorked
codes_worked = record {
  neighbours_on = coded refl refl refl;
  contradiction = coded refl refl refl;
  successor_off = coded refl refl refl;
  centre_on = coded refl refl refl;
  neighbours_off = coded refl refl refl;
}
