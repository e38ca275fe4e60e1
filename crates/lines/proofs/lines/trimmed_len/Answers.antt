use Rattle.std.proofs.Common.{rules}
use Rattle.lines.specs.Ends.{Trimmed}
use Rattle.lines.proofs.Ends.{trimmed_is}
use Rattle.lines.proofs.lines.trimmed_len.Goals as goal

pub returns-clause-value : goal.returns-clause-value
returns-clause-value c =
    let kept : Trimmed c.args.line.now c.map_or.result = search rules in
    trimmed_is c.args.line.now c.map_or.result kept
