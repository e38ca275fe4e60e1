use Rattle.search.proofs.Settled.{may_serve, at_choice, at_find, met_dead}
use Rattle.search.proofs.record.Record.settle.Goals as goal

pub returns-in-Err-clause-stands : goal.returns-in-Err-clause-stands
returns-in-Err-clause-stands c S may = met_dead (c.in-Err.ensures.meets S (may_serve S _ _ may))

pub returns-in-Some-clause-stands : goal.returns-in-Some-clause-stands
returns-in-Some-clause-stands c S may = at_choice S _ _ may _ (c.in-Ok.ensures.settles S (may_serve S _ _ may) may.quiet) c.in-Some.rank c.in-Some.ensures

pub returns-in-None-clause-stands : goal.returns-in-None-clause-stands
returns-in-None-clause-stands c S may = at_find S _ _ may _ (c.in-Ok.ensures.settles S (may_serve S _ _ may) may.quiet) c.in-None.ensures
