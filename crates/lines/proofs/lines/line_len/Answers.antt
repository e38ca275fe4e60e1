use Rattle.std.proofs.Common.{rules}
use Rattle.lines.specs.Ends.{LineEnd}
use Rattle.lines.proofs.Ends.{line_is}
use Rattle.lines.proofs.lines.line_len.Goals as goal

pub returns-clause-value : goal.returns-clause-value
returns-clause-value c =
    let ends : LineEnd c.args.text.now 0 c.unwrap_or.result = search rules in
    line_is c.args.text.now c.unwrap_or.result ends
