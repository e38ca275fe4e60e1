use Rattle.std.proofs.Common.{◌≡◌, ◌+◌, ◌≤◌, false}
use Rattle.systems.specs.Systems.{Sys}
use Rattle.search.specs.Moves.{reached}
use Rattle.search.specs.Records.{AsOpened}
use Rattle.search.specs.Standings.{Follows, state_of}
use Rattle.search.proofs.Walks.{Walked}
use Rattle.search.proofs.record.Record.go.Given as goal

abbrev pub invariant-loop-taken : goal.invariant-loop-taken
invariant-loop-taken l =
    record {
      same : AsOpened l.fn.self l.self;
      found : l.self.found ≡ false;
      tally : l.self.tally ≡ l.fn.self.tally;
      onward : reached l.fn.self + l.taken ≤ reached l.self;
      walked : (S : Sys) → Follows l.fn.self S → Follows l.self S × Walked S l.taken (state_of l.fn.self) (state_of l.self);
    }
