use Rattle.std.proofs.Common.{◌≡◌, vec_items, vec_len, ap, ◌∙◌, subst, sym}
use Rattle.frames.specs.Frames.{cells}
use Rattle.classes.specs.Asked.{free_among}
use Rattle.classes.specs.Needed.{musts_in}
use Rattle.classes.specs.Numbers.{Numbers}
use Rattle.classes.specs.declared.classes.Classes.{Classes}
use Rattle.rolls.specs.Rolls.{Surface, surface}
use Rattle.systems.specs.Spaces.{all_instances}
use Rattle.gathering.specs.Rendering.{Classed, SameInstances, bare, kept}
use Rattle.gathering.proofs.Keeping.{tieless}
use Rattle.gathering.proofs.Tied.{musts_found}
use Rattle.gathering.proofs.system.System.of.Goals as goal

pub returns : goal.returns
returns g c =
    let ground = c.of.result in
    let plane = c.of.ensures.plane in
    let means = g.S.Plane.means in
    let s : Surface = surface (means c.args.space.now) (g.S.Space.count c.args.space.now) (g.S.Space.tied c.args.space.now) in
    let found = c.in_ok-classes.ensures in
    let fits : Classed ground.frame ground.classes.now =
    ap (λ (k : Classes). vec_len k.labels) c.of.ensures.classes ∙ found.len ∙ sym (ap cells (ground.framed ∙ (λ h. (means (plane h)).frame))) in
    let is = vec_items c.in_ok-instances.instances in
    let same = (λ h. all_instances (bare (means (plane h))) (kept (c.of.ensures.classes h))) ∙ tieless (means c.args.space.now) s.rows s.tie (kept c.in_ok-classes.classes)
    ∙ ap (λ (n : Numbers). all_instances s n) found.numbers in
    let asked : c.in_ok-classes.classes.musts.items ≡ musts_in s = musts_found s (kept c.in_ok-classes.classes) _ _ found.numbers c.in_ok-classes.classes.lowest.ok.0 found.musts in
    record {
      inside = found.inside;
      classed = found.len;
      classes = found.numbers;
      musts = asked;
      free = found.free ∙ ap free_among asked;
      instances = subst (SameInstances is) same (c.in_ok-instances.ensures.rendered fits);
    }
