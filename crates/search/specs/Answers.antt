-- The steps that each answer of a go carries.
use Rattle.std.specs.Prelude.{ℕ}
use Rattle.search.specs.declared.answer.Answer.{Answer}
use Rattle.search.specs.declared.answer.Answer.TheVariants.{Found, Done, Paused}

abbrev pub steps_of : Answer → ℕ
steps_of (Found n) = n
steps_of (Done n) = n
steps_of (Paused n) = n
