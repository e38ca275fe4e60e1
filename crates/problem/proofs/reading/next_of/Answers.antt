use Rattle.problem.proofs.Lines.{handed_out}
use Rattle.problem.proofs.reading.next_of.Goals as goal

pub returns-clause-line : goal.returns-clause-line
returns-clause-line c = (handed_out _ _ _ c.next_line.ensures.given c.next_line.ensures.less).0

pub returns-clause-left : goal.returns-clause-left
returns-clause-left c = (handed_out _ _ _ c.next_line.ensures.given c.next_line.ensures.less).1
