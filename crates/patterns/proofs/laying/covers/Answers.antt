-- Run by run, until one covers the cell or none is left.
use Rattle.patterns.proofs.Covering.{start, found, passed}
use Rattle.patterns.proofs.laying.covers.Goals as goal

pub loop-run-init : goal.loop-run-init
loop-run-init c = start _ _ _

pub loop-run-preserved : goal.loop-run-preserved
loop-run-preserved c = passed c.args.runs.now c.args.column c.args.row c.loop-run.run-index c.loop-run.x c.loop-run.y _ c.loop-run.invariant c.loop-run-test.true c.requires.column c.requires.row c.is_over.result c.past.result.0 c.past.result.1 c.is_over.ensures c.if-is_over.false c.past.ensures.column c.past.ensures.row

pub returns-then-is_over : goal.returns-then-is_over
returns-then-is_over c = found c.args.runs.now c.args.column c.args.row c.loop-run.run-index c.loop-run.x c.loop-run.y _ c.loop-run.invariant c.loop-run-test.true c.requires.column c.requires.row c.is_over.result c.is_over.ensures c.if-is_over.true
