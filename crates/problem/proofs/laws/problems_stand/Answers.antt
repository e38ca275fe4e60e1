use Rattle.problem.proofs.Ends.{lines_only, lines_stand}
use Rattle.problem.proofs.Texts.{cause_only, cause_told, every, first_fault, long_only, only, too_long}
use Rattle.problem.proofs.laws.problems_stand.Goals as goal

pub returns : goal.returns
returns c = record { lines = lines_stand; lines_only = lines_only; every = every; only = only; first = first_fault; long = too_long; cause = cause_told; refused = cause_only; long_only = long_only }
