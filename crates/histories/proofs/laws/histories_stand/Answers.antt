use Rattle.histories.proofs.Listing.{histories_listed}
use Rattle.histories.proofs.laws.histories_stand.Goals as goal

pub returns : goal.returns
returns c = histories_listed
