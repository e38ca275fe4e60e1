use Rattle.worked.proofs.Worked.{worked_list}
use Rattle.worked.proofs.laws.worked_list_stands.Goals as goal

pub returns : goal.returns
returns c = worked_list
