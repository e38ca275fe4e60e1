use Rattle.std.proofs.Common.{◌∙◌, subst}
use Rattle.std.proofs.lemmas.Result.{err_from_is_err_and}
use Rattle.verdicts.specs.Verdicts.{words}
use Rattle.running.specs.Written.{LineWritten}
use Rattle.running.proofs.JudgingLemmas.{first_piece, second_piece}
use Rattle.running.proofs.judging.write_verdict.Goals as goal

pub returns-in_err-write_line : goal.returns-in_err-write_line
returns-in_err-write_line g c =
    let p = err_from_is_err_and c.from_residual.result c.from_residual.ensures.1 in
    rw (p.1, p.2) (first_piece c.args.name.now (words c.args.verdict) (g.W.Write.contents c.args.output.now) (g.W.Write.contents c.write_line.new.output) c.in_err-write_line.field-0.0 c.in_err-write_line.ensures)

pub returns : goal.returns
returns g c =
    second_piece c.args.name.now (words c.args.verdict) (g.W.Write.contents c.args.output.now) (g.W.Write.contents c.write_line.new.output) (g.W.Write.contents c.write_line-2.new.output) c.write_line-2.result c.in_ok-write_line.ensures
    (subst (λ line. LineWritten line (g.W.Write.contents c.write_line.new.output) c.write_line-2.result (g.W.Write.contents c.write_line-2.new.output)) (c.as_bytes.ensures.value ∙ c.as_str.ensures.value ∙ c.words_of.ensures) c.write_line-2.ensures)
