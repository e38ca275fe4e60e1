use Rattle.std.proofs.Common.{◌≡◌, length, vec_items}
use Rattle.gathering.specs.Bounds.{EachUnder}
use Rattle.gathering.specs.Rendering.{EachNoted}
use Rattle.gathering.proofs.touching.touching_each.Given as goal

abbrev pub invariant-loop-class : goal.invariant-loop-class
invariant-loop-class l = record {
  within : EachUnder (length l.instances) (vec_items l.each);
  noted : EachNoted l.instances (vec_items l.each);
  len : length (vec_items l.each) ≡ l.class;
}
