use Rattle.std.proofs.Common.{◌-◌, vec_items}
use Rattle.patterns.proofs.Telling.{Gathering}
use Rattle.patterns.proofs.pattern.Pattern.runs.Given as goal

-- the runs so far, and what the items that are still to come tell after them
abbrev pub invariant-loop : goal.invariant-loop
invariant-loop l = Gathering (l.end - l.counter) l.self.text.now l.reader (vec_items l.runs)
