-- The number of each refusal of a rule's text.
use Rattle.std.specs.Prelude.{ℕ}
use Rattle.rules.specs.declared.fault.RuleFault.{RuleFault}
use Rattle.rules.specs.declared.fault.RuleFault.TheVariants.{Form, BirthZero}

abbrev pub number_of : RuleFault → ℕ
number_of Form = 5
number_of BirthZero = 6
