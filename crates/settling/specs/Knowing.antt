-- What is known of the classes, and what setting some of them and looking at instances leaves.
use Rattle.std.specs.Prelude.{◌≡◌, ℕ, ◌≤◌, ◌≢◌, Bool, List, [], ◌∷◌, length, drop, Option, Some, None, vec_len, vec_items, slice_set}
use Rattle.codes.specs.declared.table.Table.{Table}
use Rattle.codes.specs.declared.value.Value.{Value}
use Rattle.codes.specs.declared.value.Value.TheVariants.{Unknown}
use Rattle.codes.specs.Laws.{known}
use Rattle.codes.specs.Tables.{code_at, code_in}
use Rattle.systems.specs.declared.instance.Instance.{Instance}
use Rattle.systems.specs.Systems.{In, Sys, at, code_for, Mentions}
use Rattle.systems.specs.Settling.{Steps}
use Rattle.systems.specs.Trails.{Held, hold_by, Grows, QuietUnless}
use Rattle.settling.specs.declared.known.Known.{Known}

-- the values and the trail
abbrev pub held : Known → Held
held k = record { values = vec_items k.values; trail = vec_items k.trail }

-- some classes more were set and noted, and as much of the trail is settled
pub record Grown (old new : Known) : Type 0 where
  pub sized : vec_len new.values ≡ vec_len old.values
  pub longer : vec_len old.trail ≤ vec_len new.trail
  pub settled : new.settled ≡ old.settled
  pub grows : Grows (held old) (held new)

-- the value that is said of a class; unknown where nothing is
abbrev pub value_said : Option Bool → Value
value_said None = Unknown
value_said (Some b) = known b

-- every class of a list is unknown again
unfoldable pub put_back : List ℕ → List Value → List Value
put_back [] σ = σ
put_back (x ∷ xs) σ = put_back xs (slice_set σ x Unknown)

-- a table has the codes of a rule
abbrev pub Coded : Table → (Bool → ℕ → Bool) → Type 0
Coded t rule = (n : ℕ) → code_in t n ≡ code_at rule n

-- an instance that is no contradiction was looked at: what it forces is set
pub record Looked (rule : Bool → ℕ → Bool) (i : Instance) (old new : Known) : Type 0 where
  pub possible : code_for rule (at (vec_items old.values)) i ≢ 1
  pub set : held new ≡ hold_by (code_for rule (at (vec_items old.values)) i) i (held old)

-- an instance is a contradiction: nothing is set
pub record Refused (rule : Bool → ℕ → Bool) (i : Instance) (old new : Known) : Type 0 where
  pub contradiction : code_for rule (at (vec_items old.values)) i ≡ 1
  pub same : held new ≡ held old

-- classes were set by forcing steps, and each instance is quiet since, unless it names one of these
pub record Through (S : Sys) (old new : Held) : Type 0 where
  pub steps : Steps S old.values new.values
  pub quiet : (i : Instance) → In i S.instances → QuietUnless S.rule (at new.values) (drop (length old.trail) new.trail) i

-- the same of the instances that name a class
pub record Around (S : Sys) (class : ℕ) (old new : Held) : Type 0 where
  pub steps : Steps S old.values new.values
  pub quiet : (i : Instance) → In i S.instances → Mentions i class → QuietUnless S.rule (at new.values) (drop (length old.trail) new.trail) i
