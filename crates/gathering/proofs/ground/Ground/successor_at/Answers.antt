use Rattle.std.proofs.Common.{◌≡◌, ◌≤◌, ◌+◌, ◌-ℤ◌, ◌∙◌, ap, ap₂, arith, to_z, of_z, w32}
use Rattle.std.proofs.lemmas.Int.{ints}
use Rattle.frames.specs.declared.frame.Frame.{Frame}
use Rattle.systems.specs.Spaces.{class_look}
use Rattle.gathering.specs.Rendering.{bare, kept}
use Rattle.gathering.proofs.Spots.{next_last}
use Rattle.gathering.proofs.ground.Ground.successor_at.Goals as goal

pub returns-else-t-period-clause-value : goal.returns-else-t-period-clause-value
returns-else-t-period-clause-value g c = λ whole.
    let me = c.args.self.now in
    let s = bare (g.P.Plane.means me.plane.now) in
    let n = kept me.classes.now in
    let spot = c.args.spot in
    let step = c.class_at-else-t-period.ensures.value whole (omega arith) in
    let across : to_z w32 (of_z w32 (to_z w32 (of_z w32 spot.x) -ℤ to_z w32 (of_z w32 c.dx.result))) ≡ spot.x -ℤ c.dx.result = omega (arith, ints) in
    let down : to_z w32 (of_z w32 (to_z w32 (of_z w32 spot.y) -ℤ to_z w32 (of_z w32 c.dy.result))) ≡ spot.y -ℤ c.dy.result = omega (arith, ints) in
    let dx : c.dx.result ≡ s.frame.dx = c.dx.ensures ∙ ap (λ (f : Frame). f.dx) me.framed in
    let dy : c.dy.result ≡ s.frame.dy = c.dy.ensures ∙ ap (λ (f : Frame). f.dy) me.framed in
    let long : s.frame.period ≤ spot.t + 1 = omega (arith, c.period.ensures, ap (λ (f : Frame). f.period) me.framed) in
    step ∙ ap₂ (class_look s n 0) (across ∙ ap (λ z. spot.x -ℤ z) dx) (down ∙ ap (λ z. spot.y -ℤ z) dy) ∙ next_last s n spot.t spot.x spot.y long
