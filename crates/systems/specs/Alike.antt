-- Systems that ask the same: which instances there are counts, and not how often or in which sequence.
use Rattle.std.specs.Prelude.{◌≡◌, ℕ, Bool, List}
use Rattle.codes.specs.declared.value.Value.{Value}
use Rattle.systems.specs.declared.instance.Instance.{Instance}
use Rattle.systems.specs.Systems.{In, Sys, sum_of, Sol, Proper}
use Rattle.systems.specs.Settling.{Closed, Least, Dead}

-- the same classes in another sequence: any number for each of them has one sum
abbrev pub Rearranged : List ℕ → List ℕ → Type 0
Rearranged xs ys = (g : ℕ → ℕ) → sum_of g xs ≡ sum_of g ys

-- two instances that ask the same
pub record SameLooks (i j : Instance) : Type 0 where
  pub centre : i.centre ≡ j.centre
  pub successor : i.successor ≡ j.successor
  pub neighbours : Rearranged i.neighbours j.neighbours

-- each instance of one list asks what one of the other asks
abbrev pub Covers : List Instance → List Instance → Type 0
Covers is js = (i : Instance) → In i is → (j : Instance) × In j js × SameLooks i j

-- two systems that differ only in how often and in which sequence they have their instances
pub record Alike (S S' : Sys) : Type 0 where
  pub rule : S.rule ≡ S'.rule
  pub start : S.start ≡ S'.start
  pub torn : S.torn ≡ S'.torn
  pub order : S.order ≡ S'.order
  pub forth : Covers S.instances S'.instances
  pub back : Covers S'.instances S.instances

-- such systems have the same closed values, come to the same by settling, are proper together, and have the same solutions
pub record AlikeLaws : Type 0 where
  pub turned : (S S' : Sys) → Alike S S' → Alike S' S
  pub closed : (S S' : Sys) → Alike S S' → (v : ℕ → Value) → Closed S v → Closed S' v
  pub least : (S S' : Sys) → Alike S S' → (ρ σ : List Value) → Least S ρ σ → Least S' ρ σ
  pub dead : (S S' : Sys) → Alike S S' → (ρ : List Value) → Dead S ρ → Dead S' ρ
  pub proper : (S S' : Sys) → Alike S S' → Proper S → Proper S'
  pub solutions : (S S' : Sys) → Alike S S' → (f : List Bool) → Sol S f → Sol S' f
