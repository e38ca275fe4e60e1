use Rattle.std.proofs.Common.{◌≡◌, ℕ, ◌<◌, ◌≤◌, false}
use Rattle.codes.specs.Codes.{is_unknown}
use Rattle.systems.specs.Systems.{at}
use Rattle.settling.specs.Boards.{values_of}
use Rattle.search.specs.Stacks.{ranked}
use Rattle.search.proofs.record.Record.next_unknown.Given as goal

abbrev pub invariant-loop-rank : goal.invariant-loop-rank
invariant-loop-rank l = record { within : l.from ≤ l.rank; passed : (k : ℕ) → l.from ≤ k → k < l.rank → is_unknown (at (values_of l.self.board) (ranked l.self.ranks.items k)) ≡ false }
