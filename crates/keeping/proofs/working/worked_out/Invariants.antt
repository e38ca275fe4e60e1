use Rattle.std.proofs.Common.{◌≡◌, vec_items}
use Rattle.rolls.specs.Rolls.{surface}
use Rattle.keeping.specs.Worked.{grown}
use Rattle.keeping.proofs.working.worked_out.Given as goal

abbrev pub invariant-loop-number : goal.invariant-loop-number
invariant-loop-number g l = vec_items l.cells ≡ grown (surface (g.S.Plane.means l.space) (g.S.Space.count l.space) (g.S.Space.tied l.space)) l.rule l.first l.number
