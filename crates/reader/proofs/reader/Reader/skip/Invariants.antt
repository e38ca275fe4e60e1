use Rattle.std.proofs.Common.{◌≡◌, length}
use Rattle.rle.specs.Scans.{past}
use Rattle.reader.specs.Left.{left, filler}
use Rattle.reader.proofs.reader.Reader.skip.Given as goal

abbrev pub invariant-loop-gap : goal.invariant-loop-gap
invariant-loop-gap l = (l.self.text.now ≡ l.initial.self.text.now) × (past (filler l.gap) (left l.self) ≡ past (filler l.gap) (left l.initial.self))

abbrev pub decreases-loop-gap : goal.decreases-loop-gap
decreases-loop-gap l = length (left l.self)
