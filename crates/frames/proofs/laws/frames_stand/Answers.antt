use Rattle.frames.proofs.Limits.{frames_right}
use Rattle.frames.proofs.laws.frames_stand.Goals as goal

pub returns : goal.returns
returns c = frames_right
