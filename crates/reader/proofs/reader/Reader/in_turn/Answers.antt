use Rattle.std.proofs.Common.{◌∙◌}
use Rattle.reader.specs.Left.{left}
use Rattle.reader.proofs.Parts.{broken, turn_more, turn_fails, turn_ends}
use Rattle.reader.proofs.reader.Reader.in_turn.Goals as goal

pub returns-in_err-step : goal.returns-in_err-step
returns-in_err-step c =
    let told = c.in_err-step.ensures in
    let so_far = c.loop-step.invariant in
    broken _ _ _ _ _ _ c.from_residual.ensures.1 (told.text ∙ so_far.0) (turn_fails c.args.steps.now c.loop-step.step-index _ _ _ c.loop-step-test.true told.told ∙ so_far.1)

pub loop-step-preserved : goal.loop-step-preserved
loop-step-preserved c =
    let told = c.in_ok-step.ensures in
    let so_far = c.loop-step.invariant in
    (told.text ∙ so_far.0, turn_more c.args.steps.now c.loop-step.step-index (left c.loop-step.self) (left c.step.new.self) _ c.loop-step-test.true told.told ∙ so_far.1)

pub returns : goal.returns
returns c =
    let so_far = c.loop-step.invariant in
    record { text = so_far.0; told = turn_ends c.args.steps.now c.loop-step.step-index (left c.loop-step.self) c.loop-step-test.false ∙ so_far.1 }
