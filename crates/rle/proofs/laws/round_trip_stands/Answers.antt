use Rattle.rle.proofs.Written.{round_trip}
use Rattle.rle.proofs.laws.round_trip_stands.Goals as goal

pub returns : goal.returns
returns c = round_trip
