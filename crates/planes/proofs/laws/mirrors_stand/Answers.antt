use Rattle.std.proofs.Common.{refl}
use Rattle.planes.proofs.Imaging.{mirrors_right}
use Rattle.planes.proofs.laws.mirrors_stand.Goals as goal

pub returns : goal.returns
returns c = record { asked = λ f number cell. refl; images = mirrors_right }
