use Rattle.orders.proofs.Rising.{rows_rise, columns_rise, generations_rise}
use Rattle.orders.proofs.laws.orders_stand.Goals as goal

pub returns-clause-rows : goal.returns-clause-rows
returns-clause-rows c = rows_rise

pub returns-clause-columns : goal.returns-clause-columns
returns-clause-columns c = columns_rise

pub returns-clause-generations : goal.returns-clause-generations
returns-clause-generations c = generations_rise
