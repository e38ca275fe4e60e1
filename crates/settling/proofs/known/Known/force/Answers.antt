use Rattle.settling.specs.Knowing.{held}
use Rattle.settling.proofs.Held.{grown_then, by_parts}
use Rattle.settling.proofs.known.Known.force.Goals as goal

pub returns-clause-grown : goal.returns-clause-grown
returns-clause-grown c = grown_then _ _ _ (grown_then _ _ _ c.set_said.ensures.grown c.set_said-2.ensures.grown) c.set_neighbours.ensures.grown

pub returns-clause-set : goal.returns-clause-set
returns-clause-set c = λ l.
    by_parts c.args.code l c.args.instance.now (held c.args.self.now) (held c.set_said.new.self) (held c.set_said-2.new.self) (held c.set_neighbours.new.self)
    c.said.result c.said-2.result c.said-3.result c.said.ensures c.said-2.ensures c.said-3.ensures
    c.set_said.ensures.set c.set_said-2.ensures.set c.set_neighbours.ensures.set
