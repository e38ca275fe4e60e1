use Rattle.planes.proofs.Fixing.{fixes_right}
use Rattle.planes.proofs.laws.fixes_stand.Goals as goal

pub returns : goal.returns
returns c = fixes_right
