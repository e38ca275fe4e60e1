-- The name is put first, and the words after it.
use Rattle.std.proofs.Common.{◌≡◌, ◌+◌, ◌≤◌, ◌++◌, length, ap, subst, rules, arith, length-append}
use Rattle.pages.specs.Pages.{Placed, PlacedIfFits}
use Rattle.texts.proofs.Puts.{put_next}
use Rattle.verdicts.specs.Verdicts.{words}
use Rattle.verdicts.proofs.writing.write_verdict.Goals as goal

pub returns : goal.returns
returns c =
    let old = c.args.page.now in
    let file = c.args.file.now in
    let told : c.as_bytes-words.result.now ≡ words c.args.verdict = search rules in
    let both = length-append file (words c.args.verdict) in
    let fits : c.args.at + length (file ++ words c.args.verdict) ≤ length old = omega (arith, both, ap length told, c.if-at-page.false, c.if-page-at.false) in
    let first : Placed old c.args.at file c.put-after_file.new.page c.put-after_file.result = c.put-after_file.ensures.fits (omega (arith, both, fits)) in
    let next : PlacedIfFits c.put-after_file.new.page c.put-after_file.result (words c.args.verdict) c.put.new.page c.put.result = subst (λ t. PlacedIfFits c.put-after_file.new.page c.put-after_file.result t c.put.new.page c.put.result) told c.put.ensures in
    let all = put_next old c.put-after_file.new.page c.put.new.page file (words c.args.verdict) c.args.at c.put-after_file.result c.put.result fits first next in
    (omega (arith, all.0, fits), all)
