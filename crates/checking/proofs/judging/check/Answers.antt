-- What is answered as computed is the verdict.
use Rattle.std.proofs.Common.{rules, Err}
use Rattle.rolls.specs.Rolls.{surface}
use Rattle.checking.specs.declared.fault.CheckFault.TheVariants.{Rows}
use Rattle.checking.proofs.Verdicts.{answered_stands}
use Rattle.checking.proofs.judging.check.Goals as goal

pub returns-then-rows-gt-MOST_ROWS-clause-verdict : goal.returns-then-rows-gt-MOST_ROWS-clause-verdict
returns-then-rows-gt-MOST_ROWS-clause-verdict g c = answered_stands (surface (g.S.Plane.means c.args.space.now) (g.S.Space.count c.args.space.now) (g.S.Space.tied c.args.space.now)) c.args.rule.now c.args.text.now (Err Rows) (search rules)

pub returns-in_err-pattern-clause-verdict : goal.returns-in_err-pattern-clause-verdict
returns-in_err-pattern-clause-verdict g c = answered_stands (surface (g.S.Plane.means c.args.space.now) (g.S.Space.count c.args.space.now) (g.S.Space.tied c.args.space.now)) c.args.rule.now c.args.text.now c.from_residual.result (search rules)

pub returns-in_err-names-clause-verdict : goal.returns-in_err-names-clause-verdict
returns-in_err-names-clause-verdict g c = answered_stands (surface (g.S.Plane.means c.args.space.now) (g.S.Space.count c.args.space.now) (g.S.Space.tied c.args.space.now)) c.args.rule.now c.args.text.now c.from_residual-in_err-names.result (search rules)

pub returns-in_err-fits-clause-verdict : goal.returns-in_err-fits-clause-verdict
returns-in_err-fits-clause-verdict g c = answered_stands (surface (g.S.Plane.means c.args.space.now) (g.S.Space.count c.args.space.now) (g.S.Space.tied c.args.space.now)) c.args.rule.now c.args.text.now c.from_residual-in_err-fits.result (search rules)

pub returns-in_err-runs-clause-verdict : goal.returns-in_err-runs-clause-verdict
returns-in_err-runs-clause-verdict g c = answered_stands (surface (g.S.Plane.means c.args.space.now) (g.S.Space.count c.args.space.now) (g.S.Space.tied c.args.space.now)) c.args.rule.now c.args.text.now c.from_residual-in_err-runs.result (search rules)

pub returns-in_err-first-clause-verdict : goal.returns-in_err-first-clause-verdict
returns-in_err-first-clause-verdict g c = answered_stands (surface (g.S.Plane.means c.args.space.now) (g.S.Space.count c.args.space.now) (g.S.Space.tied c.args.space.now)) c.args.rule.now c.args.text.now c.from_residual-in_err-first.result (search rules)

pub returns-clause-verdict : goal.returns-clause-verdict
returns-clause-verdict g c = answered_stands (surface (g.S.Plane.means c.args.space.now) (g.S.Space.count c.args.space.now) (g.S.Space.tied c.args.space.now)) c.args.rule.now c.args.text.now c.kept.result (search rules)
