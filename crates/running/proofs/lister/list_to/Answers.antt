use Rattle.std.proofs.Common.{rules, Ok, Err, ap, ◌∙◌, subst}
use Rattle.std.proofs.lemmas.Result.{err_from_is_err_and}
use Rattle.listing.specs.declared.fault.ListFault.TheVariants.{Closed}
use Rattle.rolls.specs.Rolls.{surface}
use Rattle.running.specs.Pages.{PageWritten}
use Rattle.running.proofs.Pages.{cut, printed, stopped}
use Rattle.running.proofs.lister.list_to.Goals as goal

pub returns-in_err-list_space : goal.returns-in_err-list_space
returns-in_err-list_space g c =
    let held = g.W.Write.contents in
    let s = surface (g.S.Plane.means c.args.opening.space.now) (g.S.Space.count c.args.opening.space.now) (g.S.Space.tied c.args.opening.space.now) in
    let cell = g.O.Order.cell_of_rank c.args.opening.order.now s.frame in
    let fault = c.in_err-list_space.field-0.0 in
    let to = c.list_space.new.sink in
    let done = stopped (λ a. a.out.ghost_name) (λ a. held a.out.now) (λ a. a.held.now.items) s c.args.opening.rule.now cell _ _ c.new-printer.result (ap (λ v. v.items) c.new-printer.ensures.kept ∙ c.new-held.ensures.items) fault to (c.in_err-list_space.ensures.room (search rules)) c.in_err-list_space.ensures.ended in
    let name = done.0 ∙ c.new-printer.ensures.same_writer in
    let page = subst (λ out. PageWritten s c.args.opening.rule.now cell (held out) (Err fault) (held to.out.now)) c.new-printer.ensures.untouched done.1 in
    let p = err_from_is_err_and c.from_residual.result c.from_residual.ensures.1 in
    rw (p.1, p.2) (search rules)

pub returns-in_err-rest : goal.returns-in_err-rest
returns-in_err-rest g c =
    let held = g.W.Write.contents in
    let s = surface (g.S.Plane.means c.args.opening.space.now) (g.S.Space.count c.args.opening.space.now) (g.S.Space.tied c.args.opening.space.now) in
    let cell = g.O.Order.cell_of_rank c.args.opening.order.now s.frame in
    let to = c.rest.new.self in
    let done = cut (λ a. a.out.ghost_name) (λ a. held a.out.now) (λ a. a.held.now.items) s c.args.opening.rule.now cell _ _ c.new-printer.result (ap (λ v. v.items) c.new-printer.ensures.kept ∙ c.new-held.ensures.items) c.list_space.new.sink to c.in_ok-list_space.ensures.ended c.in_err-rest.ensures.failed in
    let name = done.0 ∙ c.new-printer.ensures.same_writer in
    let page = subst (λ out. PageWritten s c.args.opening.rule.now cell (held out) (Err Closed) (held to.out.now)) c.new-printer.ensures.untouched done.1 in
    let p = err_from_is_err_and c.from_residual-in_err-rest.result c.from_residual-in_err-rest.ensures.1 in
    rw (p.1, p.2) (search rules)

pub returns : goal.returns
returns g c =
    let held = g.W.Write.contents in
    let s = surface (g.S.Plane.means c.args.opening.space.now) (g.S.Space.count c.args.opening.space.now) (g.S.Space.tied c.args.opening.space.now) in
    let cell = g.O.Order.cell_of_rank c.args.opening.order.now s.frame in
    let to = c.rest.new.self in
    let done = printed (λ a. a.out.ghost_name) (λ a. held a.out.now) (λ a. a.held.now.items) s c.args.opening.rule.now cell _ _ c.new-printer.result (ap (λ v. v.items) c.new-printer.ensures.kept ∙ c.new-held.ensures.items) c.list_space.new.sink to c.in_ok-list_space.ensures.ended c.in_ok-rest.ensures.rested in
    let name = done.0 ∙ c.new-printer.ensures.same_writer in
    let page = subst (λ out. PageWritten s c.args.opening.rule.now cell (held out) (Ok tt) (held to.out.now)) c.new-printer.ensures.untouched done.1 in
    search rules
