use Rattle.std.proofs.Common.{arith}
use Rattle.texts.proofs.Groups.{shorter}
use Rattle.texts.proofs.Rows.{gives_off, gives_on}
use Rattle.texts.proofs.runs.RunsIterator.next.Goals as goal

pub returns-then-off-gt0 : goal.returns-then-off-gt0
returns-then-off-gt0 c =
    let me = c.args.self.now in
    let told = gives_off me.width c.leading-off.result me.line.now me.below.now c.leading-off.ensures.lead c.if-off-gt0.true (omega arith) in
    record { steps = told; goes = record { on = λ _. (tt, tt, shorter _ _ _ _ told.0 told.1); keeps = tt; rests = λ _. tt } }

pub returns : goal.returns
returns c =
    let me = c.args.self.now in
    let told = gives_on me.width c.leading-on.result me.line.now me.below.now c.leading-on.ensures.lead (omega arith) (omega arith) in
    record { steps = told; goes = record { on = λ _. (tt, tt, shorter _ _ _ _ told.0 told.1); keeps = tt; rests = λ _. tt } }
