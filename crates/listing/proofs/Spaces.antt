-- A space that is listed, and what stops a listing over a page with room.
use Rattle.std.proofs.Common.{◌≡◌, ℕ, ◌≤◌, List, ◌++◌, length, None, Ok, Err, Result, refl, sym, subst, arith}
use Rattle.std.specs.Prelude.{IfErr}
use Rattle.rules.specs.declared.rule.Rule.{Rule}
use Rattle.rolls.specs.Rolls.{Surface}
use Rattle.systems.proofs.Base.{never}
use Rattle.histories.specs.Listed.{Listed}
use Rattle.search.specs.declared.search.Search.{Search}
use Rattle.calls.specs.Asked.{to_open}
use Rattle.calls.specs.Histories.{Keeps, Performed, Stands}
use Rattle.calls.specs.Ledgers.{Book, Called, Ledger, blank, many_rows, new_book, no_memory, opens}
use Rattle.calls.specs.declared.call.Reply.{Reply}
use Rattle.calls.specs.declared.fault.CallFault.{CallFault}
use Rattle.calls.specs.declared.fault.CallFault.TheVariants as calling
use Rattle.listing.specs.declared.fault.ListFault.{ListFault}
use Rattle.listing.specs.declared.fault.ListFault.TheVariants as listing
use Rattle.listing.specs.Handing.{ClosedOrOpening, Ran, SpaceEnded, SpaceRan, text_room}
use Rattle.listing.proofs.Rooms.{line_fits, text_fits}

module _ {A : Type 0} (takes : A → List ℕ → A → Type 0) (rests : A → A → Type 0) (fails : A → List ℕ → A → Type 0) (s : Surface) (rule : Rule) (cell : ℕ → ℕ) (p : List ℕ) (from : A) where
  -- where the page has room for each text only the sink stops a listing
  pub only_closed : {b : Book} {q : Search} {p' : List ℕ} {to : A} (result : Result (Unit {0}) ListFault) → Ran takes rests fails s rule cell b p from result q p' to → text_room ≤ length p → IfErr result (λ fault. fault ≡ listing.Closed)
  only_closed (Ok u) ran room = tt
  only_closed (Err listing.Closed) ran room = refl
  only_closed (Err (listing.Call fault)) ran room = let short = ran.ended.1 in absurd (omega (arith, short.long, text_fits s rule short.last))
  only_closed {b = b} (Err (listing.Foot fault)) ran room = absurd (omega (arith, ran.ended.long, line_fits (b.told ++ ran.finds)))

  -- a search that was opened for the space was listed
  pub opened_ran : {q : Search} {p' : List ℕ} {to : A} (result : Result (Unit {0}) ListFault) → s.rows ≤ 8 → Ran takes rests fails s rule cell new_book p from result q p' to → SpaceRan takes rests fails s rule cell p from result p' to
  opened_ran result rows ran = record { rows = rows; steps = ran.book.steps; finds = ran.finds; listed = subst (Listed s rule cell ran.book.steps) ran.told ran.keeps.listed; ended = ran.ended }

  pub space_ended : {q : Search} {p' : List ℕ} {to : A} (result : Result (Unit {0}) ListFault) → s.rows ≤ 8 → Ran takes rests fails s rule cell new_book p from result q p' to → SpaceEnded takes rests fails s rule cell p from result p' to
  space_ended (Ok u) rows ran = opened_ran (Ok u) rows ran
  space_ended (Err listing.Closed) rows ran = opened_ran (Err listing.Closed) rows ran
  space_ended (Err (listing.Foot fault)) rows ran = opened_ran (Err (listing.Foot fault)) rows ran
  space_ended (Err (listing.Call (calling.Open fault))) rows ran = let other = ran.ended.0 in never (cc)
  space_ended (Err (listing.Call (calling.Go fault))) rows ran = opened_ran (Err (listing.Call (calling.Go fault))) rows ran
  space_ended (Err (listing.Call (calling.Cell fault))) rows ran = opened_ran (Err (listing.Call (calling.Cell fault))) rows ran
  space_ended (Err (listing.Call (calling.Write fault))) rows ran = opened_ran (Err (listing.Call (calling.Write fault))) rows ran
  space_ended (Err (listing.Call (calling.Tally fault))) rows ran = opened_ran (Err (listing.Call (calling.Tally fault))) rows ran

  -- it was not opened
  by_opening : {fault : CallFault} {p' : List ℕ} {l : Ledger} → Called blank p (to_open s rule cell) (Err fault) l p' → SpaceEnded takes rests fails s rule cell p from (Err (listing.Call fault)) p' from × ClosedOrOpening (listing.Call fault)
  by_opening (many_rows many) = ((many, refl, refl), tt)
  by_opening (no_memory few) = ((few, refl, refl), tt)

  pub not_opened : (q q' : Search) (p' : List ℕ) (fault : CallFault) → q.record ≡ None → ((l : Ledger) → Performed l q p (to_open s rule cell) (Err fault) q' p') → SpaceEnded takes rests fails s rule cell p from (Err (listing.Call fault)) p' from × ClosedOrOpening (listing.Call fault)
  not_opened q q' p' fault none performed = by_opening (performed blank none).1

-- a blank search that was opened is new
by_opened : {s : Surface} {rule : Rule} {cell : ℕ → ℕ} {p p' : List ℕ} {reply : Reply} {l : Ledger} {q : Search} → Called blank p (to_open s rule cell) (Ok reply) l p' → Stands l q → (s.rows ≤ 8) × (p' ≡ p) × Keeps s rule cell new_book q
by_opened (opens rank inside orders few) stands = (few, refl, stands)

pub now_opened : (s : Surface) (rule : Rule) (cell : ℕ → ℕ) (q q' : Search) (p p' : List ℕ) (reply : Reply) → q.record ≡ None → ((l : Ledger) → Performed l q p (to_open s rule cell) (Ok reply) q' p') → (s.rows ≤ 8) × (p' ≡ p) × Keeps s rule cell new_book q'
now_opened s rule cell q q' p p' reply none performed = let made = performed blank none in by_opened made.1 made.2

-- what stops it, once it is opened
pub closed_only : (result : Result (Unit {0}) ListFault) → IfErr result (λ fault. fault ≡ listing.Closed) → IfErr result ClosedOrOpening
closed_only (Ok u) closed = tt
closed_only (Err fault) closed = subst ClosedOrOpening (sym closed) tt
