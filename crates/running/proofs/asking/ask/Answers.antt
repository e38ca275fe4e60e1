use Rattle.std.proofs.Common.{ap, sym, ◌∙◌}
use Rattle.std.proofs.lemmas.Result.{err_from_is_err_and}
use Rattle.problem.specs.Reading.{problem_in}
use Rattle.running.proofs.AskingLemmas.{found, refused, unfinished, unread}
use Rattle.running.proofs.asking.ask.Goals as goal

pub returns-in_err-text : goal.returns-in_err-text
returns-in_err-text g c =
    let p = err_from_is_err_and c.from_residual.result c.from_residual.ensures.1 in
    rw (p.1, p.2) (unread (g.R.Read.remaining c.args.input.now) (g.W.Write.contents c.args.output.now) c.in_err-text.field-0.0 c.in_err-text.ensures.fault)

pub returns-in-Ok : goal.returns-in-Ok
returns-in-Ok g c =
    found (g.R.Read.remaining c.args.input.now) (g.W.Write.contents c.args.output.now) c.in_ok-text.text.items c.in_ok-text.ensures.text c.in-Ok.problem
    (ap problem_in (sym c.as_slice.ensures.value) ∙ sym c.in-Ok.ensures.value)

pub returns-in_err-write_line-in-Err : goal.returns-in_err-write_line-in-Err
returns-in_err-write_line-in-Err g c =
    let p = err_from_is_err_and c.from_residual-in_err-write_line-in-Err.result c.from_residual-in_err-write_line-in-Err.ensures.1 in
    rw (p.1, p.2)
    (unfinished (g.R.Read.remaining c.args.input.now) (g.W.Write.contents c.args.output.now) _ c.in_ok-text.text.items c.as_bytes.result.now c.in_ok-text.ensures.text c.in-Err.fault
    (ap problem_in (sym c.as_slice.ensures.value) ∙ sym c.in-Err.ensures.value) (c.as_bytes.ensures.value ∙ c.as_str.ensures.value ∙ c.refusal_of.ensures) c.in_err-write_line-in-Err.field-0.0 c.in_err-write_line-in-Err.ensures)

pub returns : goal.returns
returns g c =
    refused (g.R.Read.remaining c.args.input.now) (g.W.Write.contents c.args.output.now) _ c.in_ok-text.text.items c.as_bytes.result.now c.in_ok-text.ensures.text c.in-Err.fault
    (ap problem_in (sym c.as_slice.ensures.value) ∙ sym c.in-Err.ensures.value) (c.as_bytes.ensures.value ∙ c.as_str.ensures.value ∙ c.refusal_of.ensures) c.in_ok-write_line-in-Err.ensures
