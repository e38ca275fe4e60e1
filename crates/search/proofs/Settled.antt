-- How a search stands once its board is settled.
use Rattle.std.proofs.Common.{◌≡◌, ℕ, ◌<◌, false, List, length, Some, None, ◌∙◌, arith}
use Rattle.codes.specs.declared.value.Value.{Value}
use Rattle.codes.specs.Codes.{is_unknown}
use Rattle.systems.specs.Systems.{Sys, at}
use Rattle.systems.specs.Settling.{Dead, Settles}
use Rattle.systems.proofs.Settle.{meets_dead, settles_least, steps_add, steps_long}
use Rattle.settling.specs.Boards.{MeetsAt, Serves, values_of}
use Rattle.search.specs.Moves.{MaySettle}
use Rattle.histories.proofs.Deciding.{known_still}
use Rattle.search.specs.declared.standing.Standing.TheVariants.{Find, Choice}
use Rattle.search.specs.Stacks.{FirstFrom, StandsAs, ranked}
use Rattle.search.specs.Standings.{Renders}
use Rattle.settling.specs.declared.board.Board.{Board}
use Rattle.search.specs.declared.record.Record.{Record}
use Rattle.search.proofs.Ranks.{first_of_all, none_full, known_false, is_unknown_false}

-- a board that renders a system serves it where no class is torn
pub serves : {b : Board} {S : Sys} → Renders b S → S.torn ≡ false → Serves b S
serves r whole = record { rule = r.rule; there = r.there; back = r.back; sized = r.sized; proper = r.proper; whole = whole }

-- where settling met a contradiction there are no closed values above those that it began with
pub met_dead : {S : Sys} {ρ σ : List Value} → MeetsAt S ρ σ → Dead S ρ
met_dead {S} {σ = σ} m = meets_dead S (record { last = σ; steps = m.steps; contra = m.contra })

-- there is a value for each class of the system
pub values_long : {b : Board} {S : Sys} → Renders b S → length (values_of b) ≡ length S.start
values_long {b} r = omega (arith, r.sized, b.sized, b.known.values.ok.0)

module _ (S : Sys) (r : Record) (from : ℕ) (may : MaySettle r S from) where
  pub may_serve : Serves r.board S
  may_serve = serves may.board may.whole

  module _ (σ : List Value) (s : Settles S (values_of r.board) σ) where
    -- what was known before is known still
    passed : (k : ℕ) → k < from → is_unknown (at σ (ranked r.ranks.items k)) ≡ false
    passed k l = known_false _ (known_still (at (values_of r.board)) (at σ) (steps_add S s.steps) (ranked r.ranks.items k) (is_unknown_false _ (may.known_before k l)))

    pub at_choice : (rank : ℕ) → FirstFrom (at σ) r.ranks.items from (Some rank) → StandsAs S (values_of r.board) σ (Choice rank)
    at_choice rank f = (settles_least S s, rw may.order (first_of_all (at σ) r.ranks.items from rank passed f))

    pub at_find : FirstFrom (at σ) r.ranks.items from None → StandsAs S (values_of r.board) σ Find
    at_find f = (
      settles_least S s,
      none_full S may.board.proper σ (steps_long S s.steps ∙ values_long may.board) (λ x b e. steps_add S s.steps x b (may.begun x b e)) from (rw may.order passed) (rw may.order f),
    )
