use Rattle.std.proofs.Common.{◌∙◌}
use Rattle.texts.proofs.Puts.{heading_placed}
use Rattle.texts.proofs.heading.write_heading.Goals as goal

pub returns : goal.returns
returns c =
    let width = c.from.ensures ∙ c.width.ensures in
    let height = c.from-2.ensures ∙ c.height.ensures in
    let name = c.as_slice.ensures.bytes ∙ c.text.ensures.bytes in
    heading_placed _ _ _ _ _ _ _ _ _ _ _ _ _ _ _ _ _ _ _ _ _ width height name c.requires
    c.put-after_x.ensures c.put_number-after_width.ensures
    c.put-after_y.ensures c.put_number-after_height.ensures
    c.put-after_key.ensures c.put-after_rule.ensures c.put.ensures
