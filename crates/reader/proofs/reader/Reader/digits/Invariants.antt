use Rattle.std.proofs.Common.{◌≡◌, ◌-◌, ◌^◌, ◌<◌}
use Rattle.rle.specs.Scans.{digits_on}
use Rattle.reader.specs.Left.{left}
use Rattle.reader.proofs.reader.Reader.digits.Given as goal

-- what may follow the digits so far
abbrev pub invariant-loop : goal.invariant-loop
invariant-loop l =
    (l.self.text.now ≡ l.initial.self.text.now)
    × (digits_on (4 - l.counter) l.number (left l.self) ≡ digits_on 4 0 (left l.initial.self))
    × (l.number < 10 ^ l.counter)
