use Rattle.calls.proofs.Going.{begun}
use Rattle.calls.proofs.laws.openings_stand.Goals as goal

pub returns : goal.returns
returns c q s rule cell rank is_open state untold orders = begun s rule cell q is_open state untold rank orders
