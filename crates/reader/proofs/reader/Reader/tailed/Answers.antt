use Rattle.std.proofs.Common.{rules}
use Rattle.reader.proofs.reader.Reader.tailed.Goals as goal

pub returns-in-44 : goal.returns-in-44
returns-in-44 c line w h = let tail = c.ruled.ensures line w h in search rules

pub returns-in_default : goal.returns-in_default
returns-in_default c line w h = let tail = c.unruled.ensures line w h in search rules
