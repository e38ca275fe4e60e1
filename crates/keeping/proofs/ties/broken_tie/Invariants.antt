use Rattle.std.proofs.Common.{◌≡◌, ◌/◌, ◌%◌, None}
use Rattle.frames.specs.Frames.{cells}
use Rattle.keeping.specs.Asked.{first_below, undone}
use Rattle.keeping.proofs.ties.broken_tie.Given as goal

abbrev pub invariant-loop-number : goal.invariant-loop-number
invariant-loop-number g l =
    let size = cells (g.S.Plane.means l.space).frame in
    first_below (λ n. undone l.cells (n % size) (g.S.Space.tied l.space (n / size) (n % size))) l.number ≡ None
