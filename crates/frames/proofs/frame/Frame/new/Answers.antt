use Rattle.std.proofs.Common.{rules}
use Rattle.frames.proofs.frame.Frame.new.Goals as goal

pub invariant_of-result-clause-wide : goal.invariant_of-result-clause-wide
invariant_of-result-clause-wide c = search rules
