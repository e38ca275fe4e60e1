use Rattle.std.proofs.Common.{refl}
use Rattle.planes.proofs.Layering.{layer_right}
use Rattle.planes.proofs.laws.layers_stand.Goals as goal

pub returns : goal.returns
returns g c = record { plane = refl; rows = layer_right _ _ _ }
