use Rattle.rules.specs.Forms.{written}
use Rattle.rle.specs.Texts.{heading_text}
use Rattle.texts.proofs.Puts.{placed_both}
use Rattle.texts.proofs.writing.write_parts.Goals as goal

pub returns : goal.returns
returns c =
    let frame = c.args.frame.now in
    let rule = c.args.rule.now in
    let head = heading_text frame.width frame.height (written rule.births rule.survivals) in
    let both = placed_both c.args.tail.now c.write_heading-headed.new.tail c.write_body.new.tail head _ c.write_heading-headed.result c.write_body.result c.write_heading-headed.ensures c.write_body.ensures in
    rw c.new.ensures at both
