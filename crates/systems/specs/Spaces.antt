-- The system of a space: its classes, and an instance for each place of each generation.
use Rattle.std.specs.Prelude.{◌≡◌, ℕ, ◌+◌, Bool, false, cond, List, [], ◌∷◌, ◌++◌, map, length, get_or, ℤ, ◌+ℤ◌, ◌-ℤ◌, Some, None, Option, nat_lt, slice_index, slice_index_or}
use Rattle.std.specs.List.{range_with_len, flat_map}
use Rattle.frames.specs.Frames.{cells, cell_number}
use Rattle.rules.specs.declared.rule.Rule.{Rule}
use Rattle.rules.specs.Answers.{answer}
use Rattle.codes.specs.declared.value.Value.{Value}
use Rattle.codes.specs.declared.value.Value.TheVariants.{Off, On, Unknown}
use Rattle.codes.specs.Laws.{known}
use Rattle.planes.specs.declared.place.Place.{Place}
use Rattle.rolls.specs.Rolls.{Surface, around, ninth, Keeps}
use Rattle.rolls.specs.Laws.{Orders}
use Rattle.classes.specs.declared.classes.Musts.{Musts}
use Rattle.classes.specs.Asked.{free_among, torn_among}
use Rattle.classes.specs.Classed.{numbers_in}
use Rattle.classes.specs.Joins.{TiesInside}
use Rattle.classes.specs.Needed.{musts_in}
use Rattle.classes.specs.Numbers.{Numbers}
use Rattle.systems.specs.declared.instance.Instance.{Instance}
use Rattle.systems.specs.Systems.{Sys, at, Below, unknowns, whole, Sol, Proper}
use Rattle.systems.specs.Settling.{Steps, Settles, Meets}

-- the class of the cell where a look falls in generation t; the class past the last where it falls on nothing
abbrev pub class_seen : Surface → Numbers → ℕ → Option Place → ℕ
class_seen s n t None = length n.lowest
class_seen s n t (Some p) = slice_index_or n.classes (cell_number s.frame p.x p.y t) (length n.lowest)

-- the class that is seen from column x and row y in generation t
abbrev pub class_look : Surface → Numbers → ℕ → ℤ → ℤ → ℕ
class_look s n t x y = class_seen s n t (s.look x y)

-- the class of the successor: the same look one generation on, or after the last the first generation with the drift taken away
abbrev pub class_next : Surface → Numbers → ℕ → ℤ → ℤ → ℕ
class_next s n t x y = cond (nat_lt (t + 1) s.frame.period) (class_look s n (t + 1) x y) (class_look s n 0 (x -ℤ s.frame.dx) (y -ℤ s.frame.dy))

-- the instance at column x and row y of generation t
unfoldable pub instance_at : Surface → Numbers → ℕ → ℤ → ℤ → Instance
instance_at s n t x y =
    record {
      centre = class_look s n t x y;
      successor = class_next s n t x y;
      neighbours = map (λ o. class_look s n t (x +ℤ o.dx) (y +ℤ o.dy)) around;
    }

-- the instances of a row, of a generation, and of all generations: columns run from -9 to W + 8, rows from -9 to H + 8
abbrev pub instances_of_row : Surface → Numbers → ℕ → ℕ → List Instance
instances_of_row s n t j = map (λ i. instance_at s n t (ninth i) (ninth j)) (range_with_len 0 (s.frame.width + 18))

abbrev pub instances_of : Surface → Numbers → ℕ → List Instance
instances_of s n t = flat_map (instances_of_row s n t) (range_with_len 0 (s.frame.height + 18))

unfoldable pub all_instances : Surface → Numbers → List Instance
all_instances s n = flat_map (instances_of s n) (range_with_len 0 s.frame.period)

-- what is known of a class from the start; a torn class is known too, and off
abbrev pub first_value : Musts → Value
first_value m = cond m.off Off (cond m.on On Unknown)

-- what is known of each class from the start, and of nothing, which is off
unfoldable pub start_of : List Musts → List Value
start_of musts = map first_value musts ++ Off ∷ []

-- the class of the cell of each rank
unfoldable pub classes_by_rank : List ℕ → (ℕ → ℕ) → ℕ → List ℕ
classes_by_rank classes cell n = map (λ k. slice_index classes (cell k)) (range_with_len 0 n)

-- the system of a space under a rule, with an order of its cells
abbrev pub system_of : Surface → Rule → (ℕ → ℕ) → Sys
system_of s r cell =
    record {
      rule = answer r;
      instances = all_instances s (numbers_in s);
      start = start_of (musts_in s);
      torn = torn_among (musts_in s);
      order = classes_by_rank (numbers_in s).classes cell (cells s.frame);
    }

-- a filling of the cells from one of the classes: each cell has what its class has
abbrev pub spread : Surface → List Bool → List Bool
spread s g = map (λ x. get_or g x false) (numbers_in s).classes

-- a filling of the classes from one of the cells: each class has what its lowest cell has, and nothing is off
abbrev pub gather : Surface → List Bool → List Bool
gather s f = map (λ c. get_or f c false) (numbers_in s).lowest ++ false ∷ []

-- the solutions of a space's system are exactly the fillings that keep its ties and the rule
pub record SolutionsRight (s : Surface) (r : Rule) (cell : ℕ → ℕ) : Type 0 where
  pub keeps : (g : List Bool) → Sol (system_of s r cell) g → Keeps s r (spread s g)
  pub solves : (f : List Bool) → Keeps s r f → Sol (system_of s r cell) (gather s f)
  pub there : (f : List Bool) → Keeps s r f → spread s (gather s f) ≡ f
  pub back : (g : List Bool) → Sol (system_of s r cell) g → gather s (spread s g) ≡ g
  -- the unknown classes are those that nothing is asked of
  pub free : unknowns (start_of (musts_in s)) ≡ free_among (musts_in s)
  pub proper : (rank : ℕ → ℕ) → Orders (cells s.frame) cell rank → Proper (system_of s r cell)
  -- a filling that keeps ties and rule and agrees with what is known agrees with all that is forced, and lets no contradiction arise
  pub forced : (f : List Bool) → Keeps s r f → (ρ σ : List Value) → Below (at ρ) (whole (gather s f)) → Steps (system_of s r cell) ρ σ → Below (at σ) (whole (gather s f))
  pub possible : (f : List Bool) → Keeps s r f → (ρ : List Value) → Below (at ρ) (whole (gather s f)) → Meets (system_of s r cell) ρ → ⊥
  -- where everything is known and no contradiction was met, the filling keeps them
  pub full : (rank : ℕ → ℕ) → Orders (cells s.frame) cell rank → (g : List Bool) (ρ : List Value) → length ρ ≡ length (start_of (musts_in s)) → Below (at (start_of (musts_in s))) (at ρ) → Settles (system_of s r cell) ρ (map known g) → Keeps s r (spread s g)

abbrev pub SolutionsStand : Type 0
SolutionsStand = (s : Surface) (r : Rule) (cell : ℕ → ℕ) → TiesInside s → SolutionsRight s r cell
