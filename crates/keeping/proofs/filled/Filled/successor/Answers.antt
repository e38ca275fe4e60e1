-- After the last generation comes the first, with the drift taken away.
use Rattle.std.proofs.Common.{◌≡◌, ◌+◌, ◌≤◌, ◌-ℤ◌, arith, nat_lt, ap, sym, ◌∙◌, to_z, of_z, w32}
use Rattle.std.proofs.lemmas.Bool.{cond-false, le-ltb}
use Rattle.std.proofs.lemmas.Int.{ints}
use Rattle.frames.specs.declared.frame.Frame.{Frame}
use Rattle.rolls.specs.Rolls.{surface, value}
use Rattle.keeping.proofs.filled.Filled.successor.Goals as goal

pub returns-else-t-period : goal.returns-else-t-period
returns-else-t-period g c =
    let space = c.args.self.now.space.now in
    let s = surface (g.S.Plane.means space) (g.S.Space.count space) (g.S.Space.tied space) in
    let f = c.args.self.now.cells.now in
    let last : s.frame.period ≤ c.args.t + 1 = omega (arith, ap (λ (k : Frame). k.period) c.frame-frame.ensures, c.period.ensures, c.if-t-period.false) in
    let dx : c.dx.result ≡ s.frame.dx = c.dx.ensures ∙ ap (λ (k : Frame). k.dx) c.frame-frame.ensures in
    let dy : c.dy.result ≡ s.frame.dy = c.dy.ensures ∙ ap (λ (k : Frame). k.dy) c.frame-frame.ensures in
    let x : to_z w32 (of_z w32 (to_z w32 (of_z w32 c.args.x) -ℤ to_z w32 (of_z w32 c.dx.result))) ≡ c.args.x -ℤ s.frame.dx = omega (arith, ints, c.requires.column.0, c.requires.column.1, dx, s.frame.left, s.frame.right) in
    let y : to_z w32 (of_z w32 (to_z w32 (of_z w32 c.args.y) -ℤ to_z w32 (of_z w32 c.dy.result))) ≡ c.args.y -ℤ s.frame.dy = omega (arith, ints, c.requires.row.0, c.requires.row.1, dy, s.frame.up, s.frame.down) in
    c.seen-else-t-period.ensures ∙ (λ i. value s f 0 (x i) (y i)) ∙ sym (cond-false (nat_lt (c.args.t + 1) s.frame.period) (value s f (c.args.t + 1) c.args.x c.args.y) (value s f 0 (c.args.x -ℤ s.frame.dx) (c.args.y -ℤ s.frame.dy)) (le-ltb (c.args.t + 1) s.frame.period last))
