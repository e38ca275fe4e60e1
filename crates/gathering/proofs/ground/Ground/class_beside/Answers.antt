use Rattle.std.proofs.Common.{◌∙◌, ap₂}
use Rattle.systems.specs.Spaces.{class_look}
use Rattle.gathering.specs.Rendering.{bare, kept}
use Rattle.gathering.proofs.Spots.{near_sum}
use Rattle.gathering.proofs.ground.Ground.class_beside.Goals as goal

pub returns-clause-value : goal.returns-clause-value
returns-clause-value g c = λ whole early near.
    let me = c.args.self.now in
    let spot = c.args.spot in
    c.class_at.ensures.value whole early
    ∙ ap₂ (class_look (bare (g.P.Plane.means me.plane.now)) (kept me.classes.now) spot.t)
    (near_sum spot.x c.args.by.dx spot.left spot.right near.0 near.1)
    (near_sum spot.y c.args.by.dy spot.up spot.down near.2 near.3)
