use Rattle.numbers.proofs.Rows.{one_row}
use Rattle.numbers.proofs.laws.digits_stand.Goals as goal

pub returns : goal.returns
returns c = one_row
