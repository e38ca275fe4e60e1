use Rattle.codes.proofs.Completions.{code_law}
use Rattle.codes.proofs.Only.{code_only}
use Rattle.codes.proofs.Knowing.{stays_forced}
use Rattle.codes.proofs.Tables.{code_placed}
use Rattle.codes.proofs.laws.codes_stand.Goals as goal

pub returns : goal.returns
returns c = record { tell = code_law; only = code_only; keep = stays_forced; placed = code_placed }
