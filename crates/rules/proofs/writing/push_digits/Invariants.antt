use Rattle.std.proofs.Common.{◌≡◌, ◌+◌, ◌≤◌, ◌++◌, length}
use Rattle.rules.specs.Forms.{digits_below}
use Rattle.rules.proofs.writing.push_digits.Given as goal

-- the digits of the set below this one are written
abbrev pub invariant-loop-digit : goal.invariant-loop-digit
invariant-loop-digit l = record {
  digits : l.text.bytes ≡ l.initial.text.bytes ++ digits_below l.digit l.set;
  len : length l.text.bytes ≤ length l.initial.text.bytes + l.digit;
}
