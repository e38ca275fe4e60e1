use Rattle.calls.proofs.Decided.{decided}
use Rattle.calls.proofs.laws.runs_decided.Goals as goal

pub returns : goal.returns
returns c = decided
