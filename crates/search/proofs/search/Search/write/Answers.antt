use Rattle.search.proofs.Finds.{opened_reads}
use Rattle.search.proofs.search.Search.write.Goals as goal

pub returns-then-not-record-clause-back : goal.returns-then-not-record-clause-back
returns-then-not-record-clause-back c = opened_reads c.args.self.now
