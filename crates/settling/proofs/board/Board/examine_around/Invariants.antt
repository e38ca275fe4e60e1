use Rattle.systems.specs.Systems.{Sys}
use Rattle.settling.specs.Boards.{Serves, held_of}
use Rattle.settling.specs.Knowing.{Grown, held}
use Rattle.settling.proofs.Going.{Seen, picked}
use Rattle.settling.proofs.board.Board.examine_around.Given as goal

abbrev pub invariant-loop-number : goal.invariant-loop-number
invariant-loop-number l = record {
  grown : Grown l.fn.self.known l.known;
  seen : (S : Sys) → Serves l.fn.self S → Seen S (picked l.instances l.number-items) l.number-index (held_of l.fn.self) (held l.known);
}
