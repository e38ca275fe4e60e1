use Rattle.std.proofs.Common.{◌≡◌, ◌<◌, Some, ◌∙◌, arith, rules, length, vec_items, vec_len}
use Rattle.std.proofs.lemmas.Grind.{common_steps}
use Rattle.frames.specs.Frames.{number_at}
use Rattle.planes.specs.declared.place.Place.{Place}
use Rattle.gathering.specs.Rendering.{bare, kept}
use Rattle.gathering.proofs.Spots.{looked}
use Rattle.gathering.proofs.ground.Ground.class_at.Goals as goal

pub returns-clause-value : goal.returns-clause-value
returns-clause-value g c = λ whole early.
    let me = c.args.self.now in
    let s = bare (g.P.Plane.means me.plane.now) in
    let p : Place = record { x = c.in-Some.x; y = c.in-Some.y } in
    let look : s.look c.args.x c.args.y ≡ Some p = search rules in
    let number : number_at s.frame (record { x = p.x; y = p.y; t = c.args.t }) ≡ Some c.in-Some-number_of.cell = grind (arith, common_steps) in
    let long : vec_len me.classes.now.labels ≡ length (vec_items me.classes.now.labels) = search rules in
    let few : c.in-Some-number_of.cell < vec_len me.classes.now.labels = omega (arith, whole, c.in-Some-number_of.ensures.bound) in
    let nothing : c.count-nothing.result ≡ length (vec_items me.classes.now.lowest) = search rules in
    c.unwrap_or.ensures ∙ looked s (kept me.classes.now) c.args.t c.args.x c.args.y p _ c.in-Some-number_of.cell _ _ c.class_of.result look number long few nothing c.class_of.ensures
