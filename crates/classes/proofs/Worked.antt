-- The worked examples of classes, by computing every label and every must.
use Rattle.std.proofs.Common.{refl}
use Rattle.classes.specs.Asked.{asked_after}
use Rattle.classes.specs.Examples.{ClassesWorked}
use Rattle.classes.specs.Labels.{labels_after}
use Rattle.classes.specs.Numbers.{numbered_from}

pub classes_worked : ClassesWorked
unfolding asked_after labels_after numbered_from
classes_worked = record {
  alone = refl;
  all_free = refl;
  across = refl;
  across_free = refl;
  diagonal = refl;
  diagonal_free = refl;
  turned = refl;
  turned_free = refl;
  known = refl;
  two_free = refl;
  whole = refl;
  torn = refl;
  still_two = refl;
}
