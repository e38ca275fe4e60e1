use Rattle.std.proofs.Common.{◌≡◌, length, sym, ap, ◌∙◌, subst, rules}
use Rattle.std.proofs.lemmas.List.FromFn.{length-range_with_len}
use Rattle.std.proofs.lemmas.List.{take_at}
use Rattle.frames.specs.Frames.{cells}
use Rattle.classes.specs.Labels.{Low}
use Rattle.classes.proofs.finding.joined_labels.Goals as goal

pub returns : goal.returns
returns g c =
    let labels = c.in_ok-labels.labels in
    let own = c.in_ok-labels.ensures in
    let long : length c.join_all.new.labels ≡ labels.len = search rules in
    let whole = take_at c.join_all.new.labels _ labels.len long in
    let size : c.cells.result ≡ cells (g.S.Plane.means c.args.space.now).frame = c.cells.ensures ∙ ap cells c.frame.ensures in
    record {
      value = whole ∙ c.join_all.ensures.value;
      len = labels.ok.0 ∙ ap length own ∙ length-range_with_len 0 _ ∙ size;
      low = subst Low (sym whole) c.join_all.ensures.low;
      inside = c.join_all.ensures.inside;
    }
