use Rattle.std.proofs.Common.{◌*◌, ◌/◌, ◌∙◌, arith}
use Rattle.std.proofs.lemmas.List.{take_rest}
use Rattle.texts.proofs.Leads.{row_off}
use Rattle.texts.proofs.Rows.{no_marks, gives_down}
use Rattle.texts.proofs.mark.Runs.next_row.Goals as goal

pub returns-then-gap-self : goal.returns-then-gap-self
returns-then-gap-self c =
    let me = c.args.self.now in
    row_off me.width me.line.now me.below.now c.requires ∙ no_marks me.width 0 me.below.now (omega arith)

pub returns : goal.returns
returns c =
    let me = c.args.self.now in
    let gap = c.leading-gap.result in
    let cut = c.split_at.ensures in
    gives_down me.width gap c.min.result me.line.now me.below.now _ c.split_at.result.0.now c.split_at.result.1.now me.wide c.requires c.leading-gap.ensures.lead (omega arith) (take_rest me.below.now (gap / me.width * me.width)) c.min.ensures cut.front cut.back
