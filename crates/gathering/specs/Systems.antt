-- What a system shows: its classes, its instances and those that touch a class; and which space it is of.
use Rattle.std.specs.Prelude.{◌≡◌, ℕ, List, [], Vec, slice_get, vec_len, vec_items}
use Rattle.std.specs.declared.alloc.Global.{Global}
use Rattle.std.specs.Option.{option_map_or}
use Rattle.rolls.specs.Rolls.{Surface}
use Rattle.classes.specs.Asked.{free_among}
use Rattle.classes.specs.Classed.{numbers_in}
use Rattle.classes.specs.Joins.{TiesInside}
use Rattle.classes.specs.Needed.{musts_in}
use Rattle.systems.specs.declared.instance.Instance.{Instance}
use Rattle.systems.specs.Spaces.{all_instances}
use Rattle.gathering.specs.Rendering.{Classed, SameInstances, kept}
use Rattle.gathering.specs.declared.system.System.{System}

-- how many classes there are
abbrev pub class_count : System → ℕ
class_count s = vec_len s.touching

-- its instances, by number
abbrev pub instances_of : System → List Instance
instances_of s = vec_items s.instances

-- the numbers of the instances that touch a class; none past the last class
abbrev pub touching_of : System → ℕ → List ℕ
touching_of s class = option_map_or (λ (numbers : Vec ℕ Global). vec_items numbers) (slice_get (vec_items s.touching) class) []

-- the system of a surface: its classes are the surface's, and its instances ask what those of the surface ask
pub record SystemOf (s : Surface) (y : System) : Type 0 where
  -- the cells that ties name exist
  pub inside : TiesInside s
  -- each cell has a class
  pub classed : Classed s.frame y.classes
  -- the class of each cell, and the lowest cell of each class
  pub classes : kept y.classes ≡ numbers_in s
  -- what the rows ask of each class, and how many of them nothing is asked of
  pub musts : y.classes.musts.items ≡ musts_in s
  pub free : y.classes.free ≡ free_among (musts_in s)
  pub instances : SameInstances (instances_of y) (all_instances s (numbers_in s))
