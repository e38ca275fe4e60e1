use Rattle.std.proofs.Common.{◌≡◌, ◌++◌, map, take, drop}
use Rattle.classes.specs.Labels.{renamed}
use Rattle.classes.proofs.uniting.unite.Given as goal

abbrev pub invariant-loop-label : goal.invariant-loop-label
invariant-loop-label l = l.labels ≡ map (renamed l.low l.high) (take l.label-index l.initial.labels) ++ drop l.label-index l.initial.labels
