use Rattle.std.proofs.Common.{◌≡◌, arith}
use Rattle.std.proofs.lemmas.Grind.{common_steps}
use Rattle.std.specs.Prelude.{Ok}
use Rattle.planes.specs.Pins.{holding, fixed_cell}
use Rattle.planes.proofs.Layering.{fix_answers}
use Rattle.planes.proofs.fixed.Layer+S+Pins.fix.Goals as goal

pub returns-clause-asks : goal.returns-clause-asks
returns-clause-asks g c =
    let pins : holding c.push.new.self.items (Ok tt) ≡ fixed_cell (g.S.Plane.means c.args.self.now.below).frame c.args.self.now.own.held.items c.args.x c.args.y c.args.t c.args.on = grind (arith, common_steps) in
    fix_answers _ _ _ _ _ _ _ _ _ (Ok tt) pins
