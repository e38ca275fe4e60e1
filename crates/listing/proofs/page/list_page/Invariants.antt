use Rattle.std.proofs.Common.{ℕ, List}
use Rattle.search.specs.Calls.{left_in}
use Rattle.calls.specs.Histories.{Stands}
use Rattle.calls.specs.Ledgers.{Granted, Ledger}
use Rattle.listing.specs.Handing.{BegunBy, Handed}
use Rattle.listing.proofs.page.list_page.Given as goal

abbrev pub invariant-loop-next : goal.invariant-loop-next
invariant-loop-next g l = record {
  granted : Granted l.left;
  handed : (texts : List (List ℕ)) × Handed g.S.Sink.takes g.S.Sink.rests l.fn.sink texts l.sink;
  begun : (ledger : Ledger) → Stands ledger l.fn.search → BegunBy g.S.Sink.takes g.S.Sink.rests ledger l.fn.page l.fn.sink l.search l.page l.sink;
}

abbrev pub decreases-loop-next : goal.decreases-loop-next
decreases-loop-next g l = left_in l.search
