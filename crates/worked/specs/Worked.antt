-- The worked examples of the product's rules, all of them.
use Rattle.std.specs.Prelude.{◌≡◌, Some, pos}
use Rattle.rolls.specs.Examples.{plainly, life}
use Rattle.histories.specs.Examples.{SearchesWorked}
use Rattle.checking.specs.Checked.{checked}
use Rattle.checking.specs.Examples.{ChecksWorked, once, blinker_text}
use Rattle.verdicts.specs.Verdicts.{verdict_of}
use Rattle.verdicts.specs.declared.verdict.Place.TheVariants.{Instance}
use Rattle.verdicts.specs.declared.verdict.Verdict.{Verdict}
use Rattle.verdicts.specs.declared.verdict.Verdict.TheVariants.{Refused}
use Rattle.worked.specs.Block.{BlockWorked}
use Rattle.worked.specs.Codes.{CodesWorked}

-- refused 25, an instance, at generation 0, row 0 and column 1
abbrev pub not_still : Verdict
not_still = Refused (record { number = 25; place = Instance (record { t = 0; y = pos 0; x = pos 1 }) })

pub record WorkedList : Type 0 where
  -- the codes of B3/S23 at 10, 352, 8, 541 and 85: 64, 1, 8, 4 and 32
  pub codes : CodesWorked
  -- the problem of the block, from its bytes on: what it says, what a search over that answers, and what is printed
  pub block : BlockWorked
  -- searches: one cell on a torus tells one find under B3/S23 and two under B3/S8; under B/S nothing leaps, and only the empty filling is told
  pub searches : SearchesWorked
  -- texts: the blinker is accepted at period 2 and not at period 1, and the glider is accepted
  pub checks : ChecksWorked
  -- at period 1 the blinker is refused for an instance
  pub refused : verdict_of (checked (plainly once) life blinker_text) ≡ Some not_still
