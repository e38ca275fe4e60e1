-- Each look is counted where it is on.
use Rattle.std.proofs.Common.{◌≡◌, ◌+◌, ◌≤◌, ◌+ℤ◌, pos, cond, arith, get_or, ◌∙◌, to_z, of_z, w32}
use Rattle.std.proofs.lemmas.Int.{ints}
use Rattle.planes.specs.declared.neighbours.Offset.{Offset}
use Rattle.rolls.specs.Rolls.{around, surface, value}
use Rattle.keeping.proofs.Looks.{beside, counted_more, on_step, off_step}
use Rattle.keeping.proofs.filled.Filled.total.Goals as goal
use Rattle.keeping.proofs.filled.Filled.total.Goals.{then-seen, else-seen}

pub loop-by-preserved : goal.loop-by-preserved
loop-by-preserved g c =
    let space = c.args.self.now.space.now in
    let s = surface (g.S.Plane.means space) (g.S.Space.count space) (g.S.Space.tied space) in
    let step : c.if-seen.sum ≡ cond c.seen.result 1 0 + c.loop-by.sum =
    elim c.if-seen.branch [
      | then-seen w ↦ on_step _ _ _ w.if-seen.true w.sum-is
      | else-seen w ↦ off_step _ _ _ w.if-seen.false w.sum-is
    ] in
    let few : c.if-seen.sum ≤ c.loop-by.by-index + 1 =
    elim c.if-seen.branch [
      | then-seen w ↦ omega (arith, w.sum-is)
      | else-seen w ↦ omega (arith, w.sum-is)
    ] in
    let d : Offset = record { dx = pos 0; dy = pos 0 } in
    let i = c.loop-by.by-index in
    let near = beside i in
    let x0 = to_z w32 (of_z w32 c.args.x) in
    let y0 = to_z w32 (of_z w32 c.args.y) in
    let x : to_z w32 (of_z w32 (x0 +ℤ to_z w32 (of_z w32 (get_or around i d).dx))) ≡ x0 +ℤ (get_or around i d).dx = omega (arith, ints, c.requires.column.0, c.requires.column.1, near.0, near.1) in
    let y : to_z w32 (of_z w32 (y0 +ℤ to_z w32 (of_z w32 (get_or around i d).dy))) ≡ y0 +ℤ (get_or around i d).dy = omega (arith, ints, c.requires.row.0, c.requires.row.1, near.2, near.3) in
    let told : c.seen.result ≡ value s c.args.self.now.cells.now c.args.t (x0 +ℤ (get_or around i d).dx) (y0 +ℤ (get_or around i d).dy) = c.seen.ensures ∙ (λ k. value s c.args.self.now.cells.now c.args.t (x k) (y k)) in
    record { few = few; counted = counted_more s c.args.self.now.cells.now c.args.t x0 y0 around d i c.loop-by.sum c.if-seen.sum _ c.seen.result c.loop-by-test.true told step c.loop-by.invariant.counted }
