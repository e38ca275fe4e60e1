-- An axis that is chosen at run time.
use Rattle.std.specs.Prelude.{ℕ, ℤ, Some, Option}
use Rattle.planes.specs.declared.axis.Edge.{Edge}
use Rattle.planes.specs.declared.axis.Edge.TheVariants.{Bounded, Round}
use Rattle.planes.specs.Looks.{wrap, within}

-- where a number falls among n places
abbrev pub edge_place : Edge → ℕ → ℤ → Option ℕ
edge_place Bounded n c = within n c
edge_place Round n c = Some (wrap n c)
