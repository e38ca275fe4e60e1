use Rattle.std.proofs.Common.{rules}
use Rattle.texts.proofs.Leads.{Leads, lead_is}
use Rattle.texts.proofs.runs.leading.Goals as goal

pub returns-clause-lead : goal.returns-clause-lead
returns-clause-lead c =
    let found : Leads c.args.value c.args.cells.now c.unwrap_or.result = search rules in
    lead_is c.args.value c.args.cells.now c.unwrap_or.result found
