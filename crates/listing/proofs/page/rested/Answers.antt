use Rattle.listing.specs.Handing.{nothing, rested}
use Rattle.listing.proofs.page.rested.Goals as goal

pub returns-in_ok-rest-in-0-clause-rested : goal.returns-in_ok-rest-in-0-clause-rested
returns-in_ok-rest-in-0-clause-rested g c = rested nothing c.in_ok-rest-in-0.ensures.rested

pub returns-in_default-clause-rested : goal.returns-in_default-clause-rested
returns-in_default-clause-rested g c = nothing
