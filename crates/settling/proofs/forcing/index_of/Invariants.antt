use Rattle.std.proofs.Common.{◌≡◌, ◌+◌, ◌*◌, ◌≤◌, take}
use Rattle.settling.proofs.Indexed.{counted}
use Rattle.settling.proofs.forcing.index_of.Given as goal

abbrev pub invariant-loop-class : goal.invariant-loop-class
invariant-loop-class l = record {
  few : l.index ≤ 488 + 27 * l.class-index;
  sum : l.index ≡ counted l.values l.instance (take l.class-index l.instance.neighbours);
}
