use Rattle.planes.proofs.Worked.{planes_worked}
use Rattle.planes.proofs.laws.worked_planes_stand.Goals as goal

pub returns : goal.returns
returns c = planes_worked
