use Rattle.systems.proofs.Trails.{trail_laws}
use Rattle.systems.proofs.laws.trails_stand.Goals as goal

pub returns : goal.returns
returns c = trail_laws
