use Rattle.std.proofs.Common.{subst}
use Rattle.std.specs.Io.KnownBytes.{Appends}
use Rattle.std.proofs.lemmas.Result.{err_from_is_err_and, on_err_weaker, on_ok_weaker}
use Rattle.running.specs.Written.{AppendsPart}
use Rattle.running.proofs.Parts.{part_after, part_before, took_passed}
use Rattle.running.proofs.printer.PrinterSink.take.Goals as goal

pub returns-in_err-print-clause-failed : goal.returns-in_err-print-clause-failed
returns-in_err-print-clause-failed g c =
    let part = subst (AppendsPart _ _) c.in-Err.ensures.items c.in_err-print.ensures.part in
    let p = err_from_is_err_and c.from_residual.result c.from_residual.ensures.1 in
    rw p.1 (c.in_err-print.ensures.same_writer, part_before _ _ _ c.args.text.now part)

pub returns-clause-taken : goal.returns-clause-taken
returns-clause-taken g c =
    let printed = subst (Appends _ _) c.in-Err.ensures.items c.in_ok-print.ensures.whole in
    on_ok_weaker c.pass_on.result (λ appended. (c.in_ok-print.ensures.same_writer, took_passed _ _ _ _ _ _ printed appended c.in_ok-print.ensures.empty)) c.pass_on.ensures.whole

pub returns-clause-failed : goal.returns-clause-failed
returns-clause-failed g c =
    let printed = subst (Appends _ _) c.in-Err.ensures.items c.in_ok-print.ensures.whole in
    on_err_weaker c.pass_on.result (λ part. (c.in_ok-print.ensures.same_writer, part_after _ _ _ _ _ printed part)) c.pass_on.ensures.part
