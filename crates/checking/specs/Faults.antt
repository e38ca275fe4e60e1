-- The number of each refusal of a text.
use Rattle.std.specs.Prelude.{ℕ, Some, None, Option}
use Rattle.checking.specs.declared.fault.CheckFault.{CheckFault}
use Rattle.checking.specs.declared.fault.CheckFault.TheVariants.{Rows, Read, Rule, OtherRule, Size, Instance, Tie, Memory}
use Rattle.rle.specs.Faults.{number_of as read_number}
use Rattle.rules.specs.Faults.{number_of as rule_number}

-- 18 to 22 and 5, 6 from below; no number where memory is wanting
abbrev pub number_of : CheckFault → Option ℕ
number_of Rows = Some 11
number_of (Read fault) = Some (read_number fault.cause)
number_of (Rule fault) = Some (rule_number fault.cause)
number_of OtherRule = Some 23
number_of Size = Some 24
number_of (Instance at) = Some 25
number_of (Tie at) = Some 26
number_of (Memory e) = None
