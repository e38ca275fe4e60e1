use Rattle.std.proofs.lemmas.Result.{err_from_is_err_and}
use Rattle.running.proofs.RunLemmas.{listed, unlisted}
use Rattle.running.proofs.lister.run.Goals as goal

pub returns-in_err-list_to : goal.returns-in_err-list_to
returns-in_err-list_to g c =
    let p = err_from_is_err_and c.from_residual-in_err-list_to.result c.from_residual-in_err-list_to.ensures.1 in
    rw (p.1, p.2) (unlisted (g.X.Spaces.made c.args.spaces.now) (g.R.Read.remaining c.args.input.now) (g.W.Write.contents c.args.output.now) _ _ c.in-Some.problem _ c.space-space.ensures c.in_ok-problem.field-0 c.in_ok-problem.ensures c.in-Some.is c.in_err-list_to.field-0.0 c.in_err-list_to.ensures)

pub returns : goal.returns
returns g c =
    listed (g.X.Spaces.made c.args.spaces.now) (g.R.Read.remaining c.args.input.now) (g.W.Write.contents c.args.output.now) _ _ c.in-Some.problem _ c.space-space.ensures c.in_ok-problem.field-0 c.in_ok-problem.ensures c.in-Some.is c.in_ok-list_to.ensures
