use Rattle.std.proofs.Common.{◌≡◌, ◌≤◌, map, take, length, vec_len, vec_capacity}
use Rattle.rolls.specs.Rolls.{surface}
use Rattle.accounting.proofs.Accounts.{Ongoing}
use Rattle.accounting.proofs.parties.account.Given as goal

abbrev pub invariant-loop-call : goal.invariant-loop-call
invariant-loop-call g l =
    Ongoing (surface (g.S.Plane.means l.opening.space.now) (g.S.Space.count l.opening.space.now) (g.S.Space.tied l.opening.space.now)) l.opening.rule.now (g.O.Order.cell_of_rank l.opening.order.now (g.S.Plane.means l.opening.space.now).frame)
    l.fn.page (map g.C.AnyCall.asks (take l.call-index l.calls)) l.opened l.answers.items l.search l.page
    × (vec_len l.answers ≡ l.call-index) × (length l.calls ≤ vec_capacity l.answers)
