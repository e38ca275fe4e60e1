use Rattle.std.proofs.Common.{rules, ◌≡◌, Err, refl, sym, ap}
use Rattle.calls.specs.Asked.{asked}
use Rattle.calls.specs.declared.fault.CallFault.TheVariants as calling
use Rattle.calls.proofs.Made.{cell_read, counted_as, find_written, finds_counted, goes_on, made, not_gone, not_opened, opened_now, read_as, went_on, wrote_as}
use Rattle.calls.proofs.performing.perform.Goals as goal

-- ---- refused
pub returns-in_err-open-in-Open-clause-performed : goal.returns-in_err-open-in-Open-clause-performed
returns-in_err-open-in-Open-clause-performed g c l =
    let told = c.in_err-open-in-Open.ensures.refused in
    let answer : c.from_residual.result ≡ Err (calling.Open c.in_err-open-in-Open.field-0.0) = search rules in
    made l _ _ _ _ _ _ _ _ (ap (asked g.S.Plane.means g.S.Space.count g.S.Space.tied g.O.Order.cell_of_rank) c.in-Open.is) answer
    (not_opened c.args.search.now c.open.new.self c.args.page.now _ _ _ c.in_err-open-in-Open.field-0.0 told.0 told.1 l)

pub returns-in_err-open-in-Open-clause-history : goal.returns-in_err-open-in-Open-clause-history
returns-in_err-open-in-Open-clause-history g c made = goes_on (returns-in_err-open-in-Open-clause-performed g c)

pub returns-in_err-go-in-Go-clause-performed : goal.returns-in_err-go-in-Go-clause-performed
returns-in_err-go-in-Go-clause-performed g c l =
    let told = c.in_err-go-in-Go.ensures.refused in
    let answer : c.from_residual-in_err-go-in-Go.result ≡ Err (calling.Go c.in_err-go-in-Go.field-0.0) = search rules in
    made l _ _ _ _ _ _ _ _ (ap (asked g.S.Plane.means g.S.Space.count g.S.Space.tied g.O.Order.cell_of_rank) c.in-Go.is) answer
    (not_gone c.args.search.now c.go.new.self c.args.page.now c.in-Go.steps c.in_err-go-in-Go.field-0.0 told.0 told.1 l)

pub returns-in_err-go-in-Go-clause-history : goal.returns-in_err-go-in-Go-clause-history
returns-in_err-go-in-Go-clause-history g c made = goes_on (returns-in_err-go-in-Go-clause-performed g c)

pub returns-in_err-cell-in-Cell-clause-performed : goal.returns-in_err-cell-in-Cell-clause-performed
returns-in_err-cell-in-Cell-clause-performed g c l =
    let answer : c.from_residual-in_err-cell-in-Cell.result ≡ read_as c.cell.result = search rules in
    made l _ _ _ _ _ _ _ _ (ap (asked g.S.Plane.means g.S.Space.count g.S.Space.tied g.O.Order.cell_of_rank) c.in-Cell.is) answer
    (cell_read c.args.search.now c.args.page.now c.in-Cell.cell c.cell.result c.cell.ensures.cell c.cell.ensures.find l)

pub returns-in_err-cell-in-Cell-clause-history : goal.returns-in_err-cell-in-Cell-clause-history
returns-in_err-cell-in-Cell-clause-history g c made = goes_on (returns-in_err-cell-in-Cell-clause-performed g c)

pub returns-in_err-write-in-Write-clause-performed : goal.returns-in_err-write-in-Write-clause-performed
returns-in_err-write-in-Write-clause-performed g c l =
    let answer : c.from_residual-in_err-write-in-Write.result ≡ wrote_as c.write.result = search rules in
    made l _ _ _ _ _ _ _ _ (ap (asked g.S.Plane.means g.S.Space.count g.S.Space.tied g.O.Order.cell_of_rank) c.in-Write.is) answer
    (find_written c.args.search.now c.args.page.now c.write.new.page c.in-Write.at c.write.result c.write.ensures.writes c.write.ensures.text l)

pub returns-in_err-write-in-Write-clause-history : goal.returns-in_err-write-in-Write-clause-history
returns-in_err-write-in-Write-clause-history g c made = goes_on (returns-in_err-write-in-Write-clause-performed g c)

pub returns-in_err-tally-in-Tally-clause-performed : goal.returns-in_err-tally-in-Tally-clause-performed
returns-in_err-tally-in-Tally-clause-performed g c l =
    let answer : c.from_residual-in_err-tally-in-Tally.result ≡ counted_as c.tally.result = search rules in
    made l _ _ _ _ _ _ _ _ (ap (asked g.S.Plane.means g.S.Space.count g.S.Space.tied g.O.Order.cell_of_rank) c.in-Tally.is) answer
    (finds_counted c.args.search.now c.args.page.now c.tally.result c.tally.ensures l)

pub returns-in_err-tally-in-Tally-clause-history : goal.returns-in_err-tally-in-Tally-clause-history
returns-in_err-tally-in-Tally-clause-history g c made = goes_on (returns-in_err-tally-in-Tally-clause-performed g c)

-- ---- granted
pub returns-in_ok-open-in-Open-clause-performed : goal.returns-in_ok-open-in-Open-clause-performed
returns-in_ok-open-in-Open-clause-performed g c l =
    let told = c.in_ok-open-in-Open.ensures in
    let order = c.in-Open.opening.order.now in
    let frame = (g.S.Plane.means c.in-Open.opening.space.now).frame in
    made l _ _ _ _ _ _ _ _ (ap (asked g.S.Plane.means g.S.Space.count g.S.Space.tied g.O.Order.cell_of_rank) c.in-Open.is) refl
    (opened_now c.args.search.now c.open.new.self c.args.page.now _ _ _ (g.O.Order.rank_of_cell order frame) told.refused told.opened told.fresh told.untold
    (record { within = g.met.O.Order.within order frame; ranked = g.met.O.Order.ranked order frame; back = g.met.O.Order.back order frame; forth = g.met.O.Order.forth order frame }) l)

pub returns-in_ok-open-in-Open-clause-history : goal.returns-in_ok-open-in-Open-clause-history
returns-in_ok-open-in-Open-clause-history g c made = goes_on (returns-in_ok-open-in-Open-clause-performed g c)

pub returns-in_ok-go-in-Go-clause-performed : goal.returns-in_ok-go-in-Go-clause-performed
returns-in_ok-go-in-Go-clause-performed g c l =
    let told = c.in_ok-go-in-Go.ensures in
    made l _ _ _ _ _ _ _ _ (ap (asked g.S.Plane.means g.S.Space.count g.S.Space.tied g.O.Order.cell_of_rank) c.in-Go.is) refl
    (went_on c.args.search.now c.go.new.self c.args.page.now c.in-Go.steps c.in_ok-go-in-Go.field-0 told.refused told.open told.goes told.found told.tally l)

pub returns-in_ok-go-in-Go-clause-history : goal.returns-in_ok-go-in-Go-clause-history
returns-in_ok-go-in-Go-clause-history g c made = goes_on (returns-in_ok-go-in-Go-clause-performed g c)

pub returns-in_ok-cell-in-Cell-clause-performed : goal.returns-in_ok-cell-in-Cell-clause-performed
returns-in_ok-cell-in-Cell-clause-performed g c l =
    made l _ _ _ _ _ _ _ _ (ap (asked g.S.Plane.means g.S.Space.count g.S.Space.tied g.O.Order.cell_of_rank) c.in-Cell.is) (sym (ap read_as c.in_ok-cell-in-Cell.was))
    (cell_read c.args.search.now c.args.page.now c.in-Cell.cell c.cell.result c.cell.ensures.cell c.cell.ensures.find l)

pub returns-in_ok-cell-in-Cell-clause-history : goal.returns-in_ok-cell-in-Cell-clause-history
returns-in_ok-cell-in-Cell-clause-history g c made = goes_on (returns-in_ok-cell-in-Cell-clause-performed g c)

pub returns-in_ok-write-in-Write-clause-performed : goal.returns-in_ok-write-in-Write-clause-performed
returns-in_ok-write-in-Write-clause-performed g c l =
    made l _ _ _ _ _ _ _ _ (ap (asked g.S.Plane.means g.S.Space.count g.S.Space.tied g.O.Order.cell_of_rank) c.in-Write.is) (sym (ap wrote_as c.in_ok-write-in-Write.was))
    (find_written c.args.search.now c.args.page.now c.write.new.page c.in-Write.at c.write.result c.write.ensures.writes c.write.ensures.text l)

pub returns-in_ok-write-in-Write-clause-history : goal.returns-in_ok-write-in-Write-clause-history
returns-in_ok-write-in-Write-clause-history g c made = goes_on (returns-in_ok-write-in-Write-clause-performed g c)

pub returns-in_ok-tally-in-Tally-clause-performed : goal.returns-in_ok-tally-in-Tally-clause-performed
returns-in_ok-tally-in-Tally-clause-performed g c l =
    made l _ _ _ _ _ _ _ _ (ap (asked g.S.Plane.means g.S.Space.count g.S.Space.tied g.O.Order.cell_of_rank) c.in-Tally.is) (sym (ap counted_as c.in_ok-tally-in-Tally.was))
    (finds_counted c.args.search.now c.args.page.now c.tally.result c.tally.ensures l)

pub returns-in_ok-tally-in-Tally-clause-history : goal.returns-in_ok-tally-in-Tally-clause-history
returns-in_ok-tally-in-Tally-clause-history g c made = goes_on (returns-in_ok-tally-in-Tally-clause-performed g c)
