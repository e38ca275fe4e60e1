use Rattle.std.proofs.Common.{arith}
use Rattle.rules.specs.Answers.{answer}
use Rattle.codes.proofs.Tables.{table_right}
use Rattle.codes.proofs.tabling.worked_out.Goals as goal

pub returns : goal.returns
returns c = table_right (answer c.args.rule.now) c.loop-place.code-items (λ k h. c.loop-place.invariant k (omega arith))
