use Rattle.std.proofs.Common.{◌≡◌, ℕ, ◌<◌, get_or}
use Rattle.rules.specs.Answers.{answer}
use Rattle.codes.specs.Tables.{code_at}
use Rattle.codes.proofs.tabling.worked_out.Given as goal

abbrev pub invariant-loop-place : goal.invariant-loop-place
invariant-loop-place l = (k : ℕ) → k < l.place → get_or l.code-items k 0 ≡ code_at (answer l.rule) k
