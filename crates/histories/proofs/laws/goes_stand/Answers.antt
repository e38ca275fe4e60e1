use Rattle.histories.proofs.Going.{go_laws}
use Rattle.histories.proofs.laws.goes_stand.Goals as goal

pub returns : goal.returns
returns c = go_laws
