use Rattle.codes.proofs.LifeRule.{life_table}
use Rattle.codes.proofs.life.life_table.Goals as goal

pub returns : goal.returns
returns c = life_table
