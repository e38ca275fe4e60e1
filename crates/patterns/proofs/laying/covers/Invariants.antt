use Rattle.patterns.proofs.Covering.{Reached}
use Rattle.patterns.proofs.laying.covers.Given as goal

abbrev pub invariant-loop-run : goal.invariant-loop-run
invariant-loop-run l = Reached l.runs l.column l.row l.run-index l.x l.y
