use Rattle.std.proofs.Common.{rules, ◌≡◌, ◌≤◌, ℕ, List, Err, Result, length, sym, subst}
use Rattle.std.specs.Prelude.{IfErr}
use Rattle.rolls.specs.Rolls.{surface}
use Rattle.calls.specs.Ledgers.{new_book, opened}
use Rattle.listing.specs.declared.fault.ListFault.{ListFault}
use Rattle.listing.specs.declared.fault.ListFault.TheVariants as listing
use Rattle.listing.specs.Handing.{ClosedOrOpening, SpaceEnded, text_room}
use Rattle.listing.proofs.Spaces.{closed_only, not_opened, now_opened, space_ended}
use Rattle.listing.proofs.space.list_space.Goals as goal

pub returns-in_err-perform-clause-ended : goal.returns-in_err-perform-clause-ended
returns-in_err-perform-clause-ended g c =
    let space = c.args.opening.space.now in
    let s = surface (g.P.Plane.means space) (g.P.Space.count space) (g.P.Space.tied space) in
    let rule = c.args.opening.rule.now in
    let cell = g.O.Order.cell_of_rank c.args.opening.order.now (g.P.Plane.means space).frame in
    let answer : c.from_residual.result ≡ Err (listing.Call c.in_err-perform.field-0.0) = search rules in
    let off = not_opened g.S.Sink.takes g.S.Sink.rests g.S.Sink.fails s rule cell c.args.page.now c.args.sink.now c.blank-search.result c.perform.new.search c.perform.new.page c.in_err-perform.field-0.0 c.blank-search.ensures c.in_err-perform.ensures.performed in
    subst (λ (r : Result (Unit {0}) ListFault). SpaceEnded g.S.Sink.takes g.S.Sink.rests g.S.Sink.fails s rule cell c.args.page.now c.args.sink.now r c.perform.new.page c.args.sink.now) (sym answer) off.0

pub returns-in_err-perform-clause-room : goal.returns-in_err-perform-clause-room
returns-in_err-perform-clause-room g c room =
    let space = c.args.opening.space.now in
    let s = surface (g.P.Plane.means space) (g.P.Space.count space) (g.P.Space.tied space) in
    let rule = c.args.opening.rule.now in
    let cell = g.O.Order.cell_of_rank c.args.opening.order.now (g.P.Plane.means space).frame in
    let answer : c.from_residual.result ≡ Err (listing.Call c.in_err-perform.field-0.0) = search rules in
    let off = not_opened g.S.Sink.takes g.S.Sink.rests g.S.Sink.fails s rule cell c.args.page.now c.args.sink.now c.blank-search.result c.perform.new.search c.perform.new.page c.in_err-perform.field-0.0 c.blank-search.ensures c.in_err-perform.ensures.performed in
    subst (λ (r : Result (Unit {0}) ListFault). IfErr r ClosedOrOpening) (sym answer) off.1

pub returns-clause-ended : goal.returns-clause-ended
returns-clause-ended g c =
    let space = c.args.opening.space.now in
    let s = surface (g.P.Plane.means space) (g.P.Space.count space) (g.P.Space.tied space) in
    let rule = c.args.opening.rule.now in
    let cell = g.O.Order.cell_of_rank c.args.opening.order.now (g.P.Plane.means space).frame in
    let now = now_opened s rule cell c.blank-search.result c.perform.new.search c.args.page.now c.perform.new.page c.in_ok-perform.field-0 c.blank-search.ensures c.in_ok-perform.ensures.performed in
    subst (λ (p : List ℕ). SpaceEnded g.S.Sink.takes g.S.Sink.rests g.S.Sink.fails s rule cell p c.args.sink.now c.list_page.result c.list_page.new.page c.list_page.new.sink) now.1
    (space_ended g.S.Sink.takes g.S.Sink.rests g.S.Sink.fails s rule cell c.perform.new.page c.args.sink.now c.list_page.result now.0 (c.list_page.ensures.ran (opened s rule cell new_book) now.2))

pub returns-clause-room : goal.returns-clause-room
returns-clause-room g c room =
    let space = c.args.opening.space.now in
    let s = surface (g.P.Plane.means space) (g.P.Space.count space) (g.P.Space.tied space) in
    let rule = c.args.opening.rule.now in
    let cell = g.O.Order.cell_of_rank c.args.opening.order.now (g.P.Plane.means space).frame in
    let now = now_opened s rule cell c.blank-search.result c.perform.new.search c.args.page.now c.perform.new.page c.in_ok-perform.field-0 c.blank-search.ensures c.in_ok-perform.ensures.performed in
    closed_only c.list_page.result (c.list_page.ensures.room s rule cell new_book now.2 (subst (λ (p : List ℕ). text_room ≤ length p) (sym now.1) room))
