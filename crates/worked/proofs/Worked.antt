-- The list of worked examples, put together.
use Rattle.std.proofs.Common.{◌∙◌, ap, refl}
use Rattle.histories.proofs.Worked.{searches_worked}
use Rattle.checking.proofs.Worked.{checks_worked}
use Rattle.verdicts.specs.Verdicts.{verdict_of}
use Rattle.worked.specs.Worked.{WorkedList}
use Rattle.worked.proofs.Block.{block_worked}
use Rattle.worked.proofs.Codes.{codes_worked}

pub worked_list : WorkedList
worked_list = record {
  codes = codes_worked;
  block = block_worked;
  searches = searches_worked;
  checks = checks_worked;
  refused = ap verdict_of checks_worked.blinks ∙ refl;
}
