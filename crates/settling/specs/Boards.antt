-- What a board shows, what its calls leave as it was, and which system it has.
use Rattle.std.specs.Prelude.{◌≡◌, ℕ, ◌+◌, false, List, length, drop, vec_len, vec_items}
use Rattle.codes.specs.declared.value.Value.{Value}
use Rattle.codes.specs.Tables.{code_at, code_in}
use Rattle.systems.specs.declared.instance.Instance.{Instance}
use Rattle.systems.specs.Systems.{In, Sys, Proper, at}
use Rattle.systems.specs.Settling.{Contra, Steps}
use Rattle.systems.specs.Trails.{Held}
use Rattle.gathering.specs.Systems.{class_count, instances_of}
use Rattle.settling.specs.declared.board.Board.{Board}
use Rattle.settling.specs.Knowing.{held}

-- what is known of each class, and last of nothing
abbrev pub values_of : Board → List Value
values_of b = vec_items b.known.values

-- the classes that were set, in sequence
abbrev pub trail_of : Board → List ℕ
trail_of b = vec_items b.known.trail

-- the values and the trail
abbrev pub held_of : Board → Held
held_of b = held b.known

-- how many classes were set
abbrev pub trail_len : Board → ℕ
trail_len b = vec_len b.known.trail

-- how many of these are settled
abbrev pub settled_len : Board → ℕ
settled_len b = b.known.settled

-- the classes that were set and are not settled
abbrev pub unsettled_of : Board → List ℕ
unsettled_of b = drop (settled_len b) (trail_of b)

-- the class of each cell
abbrev pub labels_of : Board → List ℕ
labels_of b = vec_items b.system.classes.labels

-- the same system under the same rule
pub record Kept (old new : Board) : Type 0 where
  pub system : new.system ≡ old.system
  pub table : new.table ≡ old.table

-- a board has the rule and the instances of a system in which no class is torn
pub record Serves (b : Board) (S : Sys) : Type 0 where
  pub rule : (n : ℕ) → code_in b.table n ≡ code_at S.rule n
  pub there : (i : Instance) → In i S.instances → In i (instances_of b.system)
  pub back : (i : Instance) → In i (instances_of b.system) → In i S.instances
  pub sized : length S.start ≡ class_count b.system + 1
  pub proper : Proper S
  pub whole : S.torn ≡ false

-- settling from ρ met a contradiction at σ: forcing steps led there, setting no class that nothing forces, and there a class is torn or no pair fits around an instance
pub record MeetsAt (S : Sys) (ρ σ : List Value) : Type 0 where
  pub steps : Steps S ρ σ
  pub contra : Contra S (at σ)
