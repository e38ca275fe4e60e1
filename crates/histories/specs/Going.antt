-- The search as it can be computed: the move of a state, and what a call of go comes to.
use Rattle.std.specs.Prelude.{ℕ, zero, suc, Bool, true, false, List, [], ◌∷◌, ◌++◌, Some, None, Option}
use Rattle.codes.specs.declared.value.Value.{Value}
use Rattle.codes.specs.declared.value.Value.TheVariants.{Off, On, Unknown}
use Rattle.systems.specs.Systems.{Sys, at}
use Rattle.systems.specs.Settling.{settled}
use Rattle.histories.specs.Searches.{Decision, sets, base, first_unknown, State, Reply, tells_find, done, paused}

-- the decisions after a turn; nothing where none is off
abbrev pub turned_at : Decision → Option (List Decision) → Option (List Decision)
turned_at d (Some ds) = Some (d ∷ ds)
turned_at (sets x true) None = None
turned_at (sets x false) None = Some (sets x true ∷ [])

abbrev pub turned : List Decision → Option (List Decision)
turned [] = None
turned (d ∷ ds) = turned_at d (turned ds)

-- the filling of values that are all known
abbrev pub onto : Bool → Option (List Bool) → Option (List Bool)
onto b None = None
onto b (Some f) = Some (b ∷ f)

abbrev pub filled : List Value → Option (List Bool)
filled [] = Some []
filled (Off ∷ ws) = onto false (filled ws)
filled (On ∷ ws) = onto true (filled ws)
filled (Unknown ∷ ws) = None

-- the move that a state has: to tell a find, to be done, or to go on with other decisions
pub data Next : Type 0 where
  next_tell : List Bool → Next
  next_end : Next
  next_step : List Decision → Next

abbrev pub next_back : Option (List Decision) → Next
next_back None = next_end
next_back (Some ds) = next_step ds

abbrev pub next_told : Bool → List Bool → List Decision → Next
next_told false f ds = next_tell f
next_told true f ds = next_back (turned ds)

abbrev pub next_choice : Bool → Option ℕ → List Decision → Next
next_choice true o ds = next_back (turned ds)
next_choice false None ds = next_end
next_choice false (Some x) ds = next_step (ds ++ sets x false ∷ [])

abbrev pub next_full : List ℕ → Bool → Option (List Bool) → List Value → List Decision → Next
next_full order told None σ ds = next_choice told (first_unknown (at σ) order) ds
next_full order told (Some f) σ ds = next_told told f ds

abbrev pub next_of : Sys → Option (List Value) → State → Next
next_of S None s = next_back (turned s.standing)
next_of S (Some σ) s = next_full S.order s.told (filled σ) σ s.standing

unfoldable pub next : Sys → State → Next
next S s = next_of S (settled S (base S.start s.standing)) s

-- what a call came to: its answer, the steps that it took, and the state after it
pub record Gone : Type 0 where
  pub reply : Reply
  pub steps : ℕ
  pub state : State

abbrev pub one_more : Gone → Gone
one_more g = record { reply = g.reply; steps = suc g.steps; state = g.state }

abbrev pub go_by : (List Decision → Gone) → State → Next → Gone
go_by step s (next_tell f) = record { reply = tells_find f; steps = 0; state = record { standing = s.standing; told = true } }
go_by step s next_end = record { reply = done; steps = 0; state = s }
go_by step s (next_step ds) = step ds

-- a call of go with n steps
unfoldable pub go : Sys → ℕ → State → Gone
go S zero s = go_by (λ ds. record { reply = paused; steps = 0; state = s }) s (next S s)
go S (suc n) s = go_by (λ ds. one_more (go S n (record { standing = ds; told = false }))) s (next S s)
