use Rattle.std.proofs.Common.{◌*◌, refl, ap, ◌∙◌}
use Rattle.rle.specs.Marks.{pattern_marks}
use Rattle.texts.proofs.Rows.{first_cut}
use Rattle.texts.proofs.mark.Runs.new.Goals as goal

pub returns : goal.returns
returns c =
    let cells = c.args.pattern.now in
    let w = c.width-width.result in
    let h = c.height.result in
    let cut = c.split_at.ensures in
    first_cut w (w * h) c.min.result c.min-2.result cells _ c.split_at.result.0.now c.split_at.result.1.now c.min.ensures refl c.min-2.ensures cut.front cut.back
    ∙ ap (λ v. pattern_marks v h cells) c.width-width.ensures
    ∙ ap (λ g. pattern_marks c.args.frame.now.width g cells) c.height.ensures
