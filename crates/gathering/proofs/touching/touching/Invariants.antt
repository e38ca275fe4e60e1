use Rattle.std.proofs.Common.{vec_items}
use Rattle.gathering.proofs.Noting.{Begun}
use Rattle.gathering.proofs.touching.touching.Given as goal

abbrev pub invariant-loop-number : goal.invariant-loop-number
invariant-loop-number l = Begun l.instances l.class l.number (vec_items l.numbers)
