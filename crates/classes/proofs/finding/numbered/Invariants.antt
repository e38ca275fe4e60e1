use Rattle.std.proofs.Common.{◌≡◌, length, take}
use Rattle.classes.specs.Numbers.{numbers_of}
use Rattle.classes.proofs.finding.numbered.Given as goal

abbrev pub invariant-loop-label : goal.invariant-loop-label
invariant-loop-label l = record {
  len : length l.numbering.classes ≡ l.label-index;
  value : l.numbering ≡ numbers_of (take l.label-index l.joined);
}
