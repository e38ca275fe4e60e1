use Rattle.std.proofs.Common.{◌≡◌, drop}
use Rattle.codes.specs.Laws.{known}
use Rattle.systems.specs.Trails.{hold_each}
use Rattle.settling.specs.Knowing.{Grown, held}
use Rattle.settling.proofs.known.Known.set_neighbours.Given as goal

abbrev pub invariant-loop-class : goal.invariant-loop-class
invariant-loop-class l = record {
  grown : Grown l.initial.self l.self;
  set : hold_each (known l.on) (drop l.class-index l.instance.neighbours) (held l.self) ≡ hold_each (known l.on) l.instance.neighbours (held l.initial.self);
}
