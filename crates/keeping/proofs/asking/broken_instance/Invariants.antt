use Rattle.std.proofs.Common.{◌≡◌, None}
use Rattle.rolls.specs.Rolls.{surface}
use Rattle.keeping.specs.Asked.{first_below, fails, instance_at}
use Rattle.keeping.proofs.asking.broken_instance.Given as goal

abbrev pub invariant-loop-number : goal.invariant-loop-number
invariant-loop-number g l =
    let s = surface (g.S.Plane.means l.space) (g.S.Space.count l.space) (g.S.Space.tied l.space) in
    first_below (λ n. fails s l.rule l.cells (instance_at s.frame n)) l.number ≡ None
