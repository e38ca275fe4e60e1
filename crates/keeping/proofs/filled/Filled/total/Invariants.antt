use Rattle.std.proofs.Common.{◌≡◌, ◌+◌, ◌≤◌, drop}
use Rattle.rolls.specs.Rolls.{total, around, surface}
use Rattle.keeping.proofs.filled.Filled.total.Given as goal

-- what is counted, and what is still to be counted
abbrev pub invariant-loop-by : goal.invariant-loop-by
invariant-loop-by g l = record {
  few : l.sum ≤ l.by-index;
  counted :
      let s = surface (g.S.Plane.means l.self.space.now) (g.S.Space.count l.self.space.now) (g.S.Space.tied l.self.space.now) in
      l.sum + total s l.self.cells.now l.t l.x l.y (drop l.by-index around) ≡ total s l.self.cells.now l.t l.x l.y around;
}
