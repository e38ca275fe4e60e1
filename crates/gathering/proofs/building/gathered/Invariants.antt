use Rattle.std.proofs.Common.{◌+◌, ◌≤◌, vec_items, vec_len}
use Rattle.gathering.specs.Bounds.{EachNames}
use Rattle.gathering.specs.Rendering.{Classed, bare, kept}
use Rattle.gathering.proofs.Keeping.{Kept, Known}
use Rattle.gathering.proofs.building.gathered.Given as goal

abbrev pub invariant-loop-number : goal.invariant-loop-number
invariant-loop-number g l = record {
  named : EachNames (vec_len l.ground.classes.now.lowest + 1) (vec_items l.instances);
  few : vec_len l.instances ≤ l.number;
  known : Known l.known.keys (vec_items l.instances);
  spots : Classed l.ground.frame l.ground.classes.now → Kept (bare (g.P.Plane.means l.ground.plane.now)) (kept l.ground.classes.now) l.number (vec_items l.instances);
}
