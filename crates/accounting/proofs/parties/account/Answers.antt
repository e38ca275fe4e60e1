use Rattle.std.proofs.Common.{◌∙◌, arith, length, rules, sym}
use Rattle.rolls.specs.Rolls.{Lawful, surface}
use Rattle.calls.specs.Ledgers.{blank}
use Rattle.accounting.specs.Rooms.{Holds}
use Rattle.accounting.proofs.Accounts.{accounted, asked_all, asked_more, begun, emptied, onward}
use Rattle.accounting.proofs.parties.account.Goals as goal

pub loop-call-init : goal.loop-call-init
loop-call-init g c =
    let room : Holds c.args.room (length c.args.calls.now) (length c.args.texts.now) = c.if-not-holds.ensures.0 (search rules) in (
      begun _ _ _ c.blank-search.result c.perform-opened.new.search c.args.page.now c.perform-opened.new.page c.perform-opened.result c.blank-search.ensures (c.perform-opened.ensures.performed blank)
          c.args.room.answers.items (emptied c.args.room.answers.items (sym c.args.room.answers.ok.0 ∙ c.args.room.unanswered)),
      c.args.room.unanswered,
      room.answers,
    )

pub loop-call-preserved : goal.loop-call-preserved
loop-call-preserved g c =
    let was = c.loop-call.invariant in
    let pushed = c.push_reserved.ensures in (
      onward _ _ _ c.args.page.now c.loop-call.page c.make.new.page _ _ c.perform-opened.result c.make.result c.loop-call.answers.items c.push_reserved.new.self.items c.loop-call.search c.make.new.search _ was.0 c.make.ensures.performed
          (asked_more g.C.AnyCall.asks c.args.calls.now c.loop-call.call-index c.call-item.result _ c.loop-call-test.true c.call-item.is) pushed.items,
      omega (arith, pushed.len, was.1),
      omega (arith, pushed.capacity, was.2),
    )

pub returns : goal.returns
returns g c =
    let space = c.args.opening.space.now in
    let was = c.loop-call.invariant in
    let law : Lawful (surface (g.S.Plane.means space) (g.S.Space.count space) (g.S.Space.tied space)) = record { inside = g.met.S.Plane.inside space; own = g.met.S.Plane.own space } in
    accounted _ _ _ law c.args.page.now c.loop-call.page _ _ _ _ c.loop-call.search c.judge-verdicts.ensures
    (asked_all g.C.AnyCall.asks c.args.calls.now c.loop-call.call-index c.loop-call-test.false) was.0
