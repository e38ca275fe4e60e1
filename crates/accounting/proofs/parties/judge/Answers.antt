use Rattle.std.proofs.Common.{arith, sym, ◌∙◌}
use Rattle.rolls.specs.Rolls.{Surface, surface}
use Rattle.accounting.proofs.Accounts.{judged_more, none_judged}
use Rattle.accounting.proofs.parties.judge.Goals as goal

pub loop-text-init : goal.loop-text-init
loop-text-init g c =
    let space = c.args.space.now in
    let s : Surface = surface (g.S.Plane.means space) (g.S.Space.count space) (g.S.Space.tied space) in
    (none_judged s c.args.rule.now c.args.verdicts.items (sym c.args.verdicts.ok.0 ∙ c.requires.none), c.requires.none, c.requires.room)

pub loop-text-preserved : goal.loop-text-preserved
loop-text-preserved g c =
    let space = c.args.space.now in
    let s : Surface = surface (g.S.Plane.means space) (g.S.Space.count space) (g.S.Space.tied space) in
    let was = c.loop-text.invariant in
    let pushed = c.push_reserved.ensures in (
      judged_more s c.args.rule.now c.args.texts.now c.loop-text.text-index _ c.loop-text.verdicts.items c.push_reserved.new.self.items c.check.result c.loop-text-test.true was.0 c.check.ensures.verdict pushed.items,
      omega (arith, pushed.len, was.1),
      omega (arith, pushed.capacity, was.2),
    )
