use Rattle.std.proofs.Common.{◌≡◌, ◌-◌, ◌^◌, ◌<◌, ◌≤◌, length}
use Rattle.rules.specs.Forms.{rising}
use Rattle.rules.proofs.reading.rising_digits.Given as goal

-- what is left gives the row, from the digits read so far
abbrev pub invariant-loop-rest : goal.invariant-loop-rest
invariant-loop-rest l = record {
  low : 48 ≤ l.least;
  high : l.least ≤ 57;
  few : l.set < 2 ^ (l.least - 48);
  row : rising (l.least - 48) l.set l.rest ≡ rising 0 0 l.text;
}

abbrev pub decreases-loop-rest : goal.decreases-loop-rest
decreases-loop-rest l = length l.rest
