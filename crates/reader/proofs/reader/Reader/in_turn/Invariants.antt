use Rattle.std.proofs.Common.{◌≡◌, drop}
use Rattle.rle.specs.Scans.{in_turn}
use Rattle.reader.specs.Left.{left}
use Rattle.reader.proofs.reader.Reader.in_turn.Given as goal

abbrev pub invariant-loop-step : goal.invariant-loop-step
invariant-loop-step l = (l.self.text.now ≡ l.initial.self.text.now) × (in_turn (drop l.step-index l.steps) (left l.self) ≡ in_turn l.steps (left l.initial.self))
