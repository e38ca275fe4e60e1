use Rattle.std.proofs.Common.{◌≡◌, map, get_or, set, sym, ap, ◌∙◌, subst, rules}
use Rattle.std.proofs.lemmas.List.Edits.{map_over_more}
use Rattle.std.proofs.lemmas.List.{get_or_read}
use Rattle.classes.specs.Labels.{renamed, united, Lowered}
use Rattle.classes.proofs.United.{gone_over, united_lower}
use Rattle.classes.proofs.uniting.unite.Goals as goal

pub loop-label-preserved : goal.loop-label-preserved
loop-label-preserved c =
    let xs = c.args.labels.now in
    let ys = c.loop-label.labels in
    let i = c.loop-label.label-index in
    let f = renamed c.min-low.result c.max-high.result in
    let here : get_or ys i 0 ≡ get_or ys i (get_or ys i 0) = search (rules, get_or_read) in
    ap (set ys i) c.renamed_label.ensures ∙ map_over_more f xs ys i (get_or ys i 0) c.loop-label-test.true c.loop-label.invariant here

pub returns : goal.returns
returns c =
    let xs = c.args.labels.now in
    let ys = c.loop-label.labels in
    let whole = gone_over (renamed c.min-low.result c.max-high.result) xs ys c.loop-label.label-index c.loop-label-test.false c.loop-label.invariant in
    let value : ys ≡ united xs c.args.a c.args.b = whole ∙ (λ i. map (renamed (c.min-low.ensures i) (c.max-high.ensures i)) xs) in
    record { value = value; lower = subst (Lowered xs) (sym value) (united_lower xs c.args.a c.args.b) }
