use Rattle.std.proofs.Common.{length, arith}
use Rattle.std.proofs.lemmas.Result.{on_ok_weaker, on_err_weaker}
use Rattle.systems.specs.Systems.{at}
use Rattle.systems.specs.Trails.{QuietBut}
use Rattle.systems.proofs.Trails.{grows_then}
use Rattle.settling.specs.Boards.{held_of, settled_len, unsettled_of, values_of}
use Rattle.settling.proofs.Going.{all_looked, meets_then, settles_then, serves_kept}
use Rattle.settling.proofs.board.Board.settle_all.Goals as goal

pub returns-clause-grows : goal.returns-clause-grows
returns-clause-grows c = grows_then c.examine_all.ensures.grown.grows c.settle.ensures.grows

pub returns-clause-settles : goal.returns-clause-settles
returns-clause-settles c = λ S s.
    let was = c.args.self.now in
    let now = c.examine_all.new.self in
    let through = c.in_ok-examine_all.ensures.through S s in
    let quiet : QuietBut S (at (values_of now)) (unsettled_of now) =
    all_looked S (held_of was) (held_of now) (settled_len now) (omega (arith, c.examine_all.ensures.grown.settled, was.known.reached, was.known.trail.ok.0)) through in
    on_ok_weaker c.settle.result (settles_then S (values_of was) (values_of now) (values_of c.settle.new.self) through.steps)
    (c.settle.ensures.settles S (serves_kept was now S c.examine_all.ensures.kept s) quiet)

pub returns-clause-meets : goal.returns-clause-meets
returns-clause-meets c = λ S s.
    let was = c.args.self.now in
    let now = c.examine_all.new.self in
    let through = c.in_ok-examine_all.ensures.through S s in
    on_err_weaker c.settle.result (meets_then S (values_of was) (values_of now) (values_of c.settle.new.self) through.steps)
    (c.settle.ensures.meets S (serves_kept was now S c.examine_all.ensures.kept s))
