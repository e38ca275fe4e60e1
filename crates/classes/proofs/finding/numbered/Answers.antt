use Rattle.std.proofs.Common.{◌+◌, length, ap, ◌∙◌}
use Rattle.std.proofs.lemmas.List.{length_push}
use Rattle.classes.specs.Numbers.{Numbers}
use Rattle.classes.proofs.Numbered.{numbers_none, numbers_more}
use Rattle.classes.proofs.finding.numbered.Goals as goal

pub loop-label-init : goal.loop-label-init
loop-label-init c =
    let new = c.new-numbering.ensures in
    record { len = ap (λ (n : Numbers). length n.classes) new; value = new ∙ numbers_none c.args.joined.now }

pub loop-label-preserved : goal.loop-label-preserved
loop-label-preserved c =
    let inv = c.loop-label.invariant in
    let told = c.in_ok-add.ensures in
    record {
      len = ap (λ (n : Numbers). length n.classes) told ∙ length_push c.loop-label.numbering.classes _ ∙ ap (λ n. n + 1) inv.len;
      value = numbers_more c.args.joined.now c.loop-label.label-index _ _ c.loop-label-test.true inv.value told;
    }
