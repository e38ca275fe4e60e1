use Rattle.settling.proofs.Held.{grown_none}
use Rattle.settling.proofs.known.Known.set_said.Goals as goal

pub returns-in_default-clause-grown : goal.returns-in_default-clause-grown
returns-in_default-clause-grown c = grown_none c.args.self.now
