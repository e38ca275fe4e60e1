use Rattle.systems.specs.Systems.{Sys}
use Rattle.settling.specs.Boards.{Serves, held_of}
use Rattle.settling.specs.Knowing.{Grown, held}
use Rattle.settling.proofs.Going.{Seen, numbered}
use Rattle.settling.proofs.board.Board.examine_all.Given as goal

abbrev pub invariant-loop-instance : goal.invariant-loop-instance
invariant-loop-instance l = record {
  grown : Grown l.fn.self.known l.known;
  seen : (S : Sys) → Serves l.fn.self S → Seen S (numbered l.instance-items) l.instance-index (held_of l.fn.self) (held l.known);
}
