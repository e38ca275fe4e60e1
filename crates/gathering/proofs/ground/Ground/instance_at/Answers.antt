use Rattle.std.proofs.Common.{◌≡◌, ◌+◌, ◌<◌, vec_len, ◌+ℤ◌, ◌∙◌, ap₂, arith, rules, to_z, of_z, w32}
use Rattle.std.proofs.lemmas.Int.{ints}
use Rattle.planes.specs.declared.neighbours.Offset.{Offset}
use Rattle.systems.specs.Spaces.{class_look}
use Rattle.gathering.specs.Rendering.{bare, kept}
use Rattle.gathering.proofs.Spots.{around_each, around_mapped, instance_is}
use Rattle.gathering.proofs.ground.Ground.instance_at.Goals as goal

pub returns-clause-value : goal.returns-clause-value
returns-clause-value g c = λ whole.
    let me = c.args.self.now in
    let s = bare (g.P.Plane.means me.plane.now) in
    let n = kept me.classes.now in
    let spot = c.args.spot in
    let x : to_z w32 (of_z w32 spot.x) ≡ spot.x = omega (arith, ints) in
    let y : to_z w32 (of_z w32 spot.y) ≡ spot.y = omega (arith, ints) in
    let at = c.class_at.ensures.value whole c.requires ∙ ap₂ (class_look s n spot.t) x y in
    let h = λ (o : Offset). class_look s n spot.t (spot.x +ℤ o.dx) (spot.y +ℤ o.dy) in
    instance_is s n spot.t spot.x spot.y c.class_at.result c.successor_at.result c.map.result at (c.successor_at.ensures.value whole)
    (around_mapped _ _ h (λ x r q k. (search rules, λ near. search (rules, whole, near, c.requires, k))) c.map.result c.map.ensures.items.long c.map.ensures.items.each)

pub returns-clause-named : goal.returns-clause-named
returns-clause-named g c =
    let n = vec_len c.args.self.now.classes.now.lowest + 1 in
    (search rules, search rules, around_each _ _ (λ r. r < n) (λ x r q k. (search rules, search (rules, k))) c.map.result c.map.ensures.items.each)
