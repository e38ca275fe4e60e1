use Rattle.std.proofs.Common.{◌≡◌, ◌+◌, ◌≤◌, length}
use Rattle.problem.specs.Lines.{lines_in}
use Rattle.problem.specs.Reading.{from_fixes, space_said}
use Rattle.problem.proofs.reading.fix_all.Given as goal

-- what is left gives the answer, from the cells fixed so far; and each line takes a byte at least
abbrev pub invariant-loop-line : goal.invariant-loop-line
invariant-loop-line l = record {
  low : 6 ≤ l.place;
  few : l.place + length l.lines.rest.now ≤ 65542;
  told : from_fixes l.place (space_said l.space) (lines_in l.lines.rest.now) ≡ from_fixes 6 (space_said l.initial.space) (lines_in l.initial.lines.rest.now);
}

abbrev pub decreases-loop-line : goal.decreases-loop-line
decreases-loop-line l = length l.lines.rest.now
