use Rattle.std.proofs.Common.{◌-◌}
use Rattle.patterns.proofs.Telling.{Reading}
use Rattle.patterns.proofs.pattern.Pattern.read.Given as goal

-- what is told so far, and what the items that are still to come tell after it
abbrev pub invariant-loop : goal.invariant-loop
invariant-loop l = Reading (l.end - l.counter) l.text l.reader l.pattern
