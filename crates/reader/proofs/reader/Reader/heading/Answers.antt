use Rattle.std.proofs.Common.{rules}
use Rattle.lines.specs.Lines.{first_line}
use Rattle.rle.specs.Items.{heading}
use Rattle.reader.specs.Left.{left}
use Rattle.reader.proofs.reader.Reader.heading.Goals as goal

pub returns-in_err-rule : goal.returns-in_err-rule
unfolding heading
returns-in_err-rule c = let tail = c.tailed.ensures (first_line (left c.args.self.now)) c.in_ok-width.width c.in_ok-height.height in search rules

pub returns : goal.returns
unfolding heading
returns c = let tail = c.tailed.ensures (first_line (left c.args.self.now)) c.in_ok-width.width c.in_ok-height.height in search rules
