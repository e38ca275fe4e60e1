use Rattle.std.proofs.Common.{◌≡◌}
use Rattle.rules.specs.Answers.{answer}
use Rattle.codes.specs.Codes.{parts_of, fitting_of}
use Rattle.codes.specs.Commons.{common_of}
use Rattle.codes.proofs.common.Common.of.Given as goal

abbrev pub invariant-loop-more : goal.invariant-loop-more
invariant-loop-more l = l.common ≡ common_of (answer l.rule) (parts_of l.descriptor) (fitting_of (answer l.rule) (parts_of l.descriptor) l.more)
