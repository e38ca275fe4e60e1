-- The decisions of a search, one on top of another, over the classes that were set.
use Rattle.std.specs.Prelude.{◌≡◌, ℕ, ◌<◌, ◌≤◌, Bool, true, false, List, [], ◌∷◌, ◌++◌, map, length, Some, None, Option, slice_index_or}
use Rattle.codes.specs.declared.value.Value.{Value}
use Rattle.codes.specs.declared.value.Value.TheVariants.{Off, On, Unknown}
use Rattle.codes.specs.Codes.{is_unknown}
use Rattle.codes.specs.Laws.{known}
use Rattle.systems.specs.Systems.{Sys, at}
use Rattle.systems.specs.Settling.{Least, Dead}
use Rattle.systems.specs.Trails.{Held, Trailed, Grows, hold}
use Rattle.histories.specs.Searches.{sets, base}
use Rattle.histories.specs.Searches as searches
use Rattle.search.specs.Decided.{first}
use Rattle.search.specs.declared.standing.Decision.{Decision}
use Rattle.search.specs.declared.standing.Standing.{Standing}
use Rattle.search.specs.declared.standing.Standing.TheVariants.{Contradiction, Find, Told, Choice}

-- the class of a rank
abbrev pub ranked : List ℕ → ℕ → ℕ
ranked order rank = slice_index_or order rank 0

-- what a decision sets, in the words of the search's definition
abbrev pub meant : List ℕ → Decision → searches.Decision
meant order d = sets (ranked order d.rank) d.on

abbrev pub all_meant : List ℕ → List Decision → List searches.Decision
all_meant order ds = map (meant order) ds

-- what is known once decisions are set in what is known from the start, and nothing is settled
abbrev pub decided_in : Sys → List Decision → List Value
decided_in S ds = base S.start (all_meant S.order ds)

-- a rank is the first whose class is unknown
pub record FirstRank (v : ℕ → Value) (order : List ℕ) (rank : ℕ) : Type 0 where
  pub there : rank < length order
  pub unknown : is_unknown (v (ranked order rank)) ≡ true
  pub known_before : (k : ℕ) → k < rank → is_unknown (v (ranked order k)) ≡ false

-- what is held while the decisions ds stand: it grew from what is known at the start, or from what was held, settled, when the last decision was made
pub data Stack (S : Sys) : List Decision → Held → Type 0 where
  undecided : {h : Held} → Trailed S.start h.values h.trail → Stack S [] h
  decided : {es : List Decision} (d : Decision) (g : Held) {h : Held} → Stack S es g → Least S (decided_in S es) g.values → FirstRank (at g.values) S.order d.rank → length g.trail ≡ d.mark →
      Grows (hold (ranked S.order d.rank) d.on g) h → Stack S (es ++ d ∷ []) h

-- the find where all classes are known
abbrev pub is_on : Value → Bool
is_on Off = false
is_on On = true
is_on Unknown = false

abbrev pub find_in : List Value → List Bool
find_in σ = map is_on σ

-- how a search stands where settling from ρ came to σ: no closed values, all classes known, or the first rank whose class is unknown
abbrev pub StandsAs : Sys → List Value → List Value → Standing → Type 0
StandsAs S ρ σ Contradiction = Dead S ρ
StandsAs S ρ σ Find = Least S ρ σ × (σ ≡ map known (find_in σ))
StandsAs S ρ σ Told = Least S ρ σ × (σ ≡ map known (find_in σ))
StandsAs S ρ σ (Choice rank) = Least S ρ σ × FirstRank (at σ) S.order rank

abbrev pub is_contradiction : Standing → Bool
is_contradiction Contradiction = true
is_contradiction Find = false
is_contradiction Told = false
is_contradiction (Choice rank) = false

abbrev pub is_told : Standing → Bool
is_told Contradiction = false
is_told Find = false
is_told Told = true
is_told (Choice rank) = false

-- the first rank from `from` on whose class is unknown, if there is one
abbrev pub FirstFrom : (ℕ → Value) → List ℕ → ℕ → Option ℕ → Type 0
FirstFrom v order from None = (k : ℕ) → from ≤ k → k < length order → is_unknown (v (ranked order k)) ≡ false
FirstFrom v order from (Some rank) = (from ≤ rank) × (rank < length order) × (is_unknown (v (ranked order rank)) ≡ true) × ((k : ℕ) → from ≤ k → k < rank → is_unknown (v (ranked order k)) ≡ false)

-- the last decision that is off, if there is one
abbrev pub LastOff : List Decision → Option ℕ → Type 0
LastOff ds None = (k : ℕ) → k < length ds → (slice_index_or ds k first).on ≡ true
LastOff ds (Some at) = (at < length ds) × ((slice_index_or ds at first).on ≡ false) × ((k : ℕ) → at < k → k < length ds → (slice_index_or ds k first).on ≡ true)
