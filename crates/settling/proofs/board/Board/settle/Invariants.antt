use Rattle.std.proofs.Common.{◌-◌, ◌≤◌, vec_len}
use Rattle.systems.specs.Systems.{Sys, at}
use Rattle.systems.specs.Settling.{Steps}
use Rattle.systems.specs.Trails.{Grows, QuietBut}
use Rattle.settling.specs.Boards.{Kept, Serves, held_of, settled_len, trail_len, unsettled_of, values_of}
use Rattle.settling.proofs.board.Board.settle.Given as goal

abbrev pub invariant-loop-class : goal.invariant-loop-class
invariant-loop-class l = record {
  kept : Kept l.initial.self l.self;
  longer : trail_len l.initial.self ≤ trail_len l.self;
  grows : Grows (held_of l.initial.self) (held_of l.self);
  onward : settled_len l.initial.self ≤ settled_len l.self;
  steps : (S : Sys) → Serves l.initial.self S → Steps S (values_of l.initial.self) (values_of l.self);
  quiet : (S : Sys) → Serves l.initial.self S → QuietBut S (at (values_of l.initial.self)) (unsettled_of l.initial.self) → QuietBut S (at (values_of l.self)) (unsettled_of l.self);
}

abbrev pub decreases-loop-class : goal.decreases-loop-class
decreases-loop-class l = vec_len l.self.known.values - l.self.known.settled
