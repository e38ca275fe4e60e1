use Rattle.std.proofs.Common.{◌<◌, length, get_or, sym, ap, subst, arith}
use Rattle.std.proofs.lemmas.Result.{MatchResult-from_err}
use Rattle.systems.specs.Systems.{In}
use Rattle.systems.proofs.Base.{in_get_d}
use Rattle.systems.proofs.Trails.{grows_none}
use Rattle.gathering.specs.Bounds.{nowhere}
use Rattle.gathering.specs.Systems.{instances_of}
use Rattle.settling.specs.Boards.{held_of}
use Rattle.settling.specs.Knowing.{held}
use Rattle.settling.proofs.Held.{grown_none, grown_then}
use Rattle.settling.proofs.Going.{picked, picked_is, seen_none, seen_more, seen_refused, seen_around, touched_same}
use Rattle.settling.proofs.board.Board.examine_around.Goals as goal

pub loop-number-init : goal.loop-number-init
loop-number-init c = record { grown = grown_none c.args.self.now.known; seen = λ S s. seen_none S _ (held_of c.args.self.now) (grows_none (held_of c.args.self.now)) }

pub returns-in_err-examine-clause-grown : goal.returns-in_err-examine-clause-grown
returns-in_err-examine-clause-grown c = grown_then _ _ _ c.loop-number.invariant.grown c.examine.ensures.grown

pub returns-in_err-examine-clause-around : goal.returns-in_err-examine-clause-around
returns-in_err-examine-clause-around c = λ S s l.
    let was = c.args.self.now in
    let is = c.instances-instances.result.now in
    let numbers = c.touching-number-items.result.now in
    let k = c.loop-number.number-index in
    let n = c.from.result in
    let within : n < length is = omega (arith, c.from.ensures, c.touching-number-items.ensures.within k c.loop-number-test.true, ap length c.instances-instances.ensures.value) in
    let here = s.back (get_or is n nowhere) (subst (In (get_or is n nowhere)) c.instances-instances.ensures.value (in_get_d is n nowhere within)) in
    let looked = c.in_err-examine.ensures.looked S.rule s.rule in
    MatchResult-from_err c.from_residual.result _ _ c.from_residual.ensures.0
    (λ y. seen_refused S s.proper (picked is numbers) k (get_or is n nowhere) (picked_is is numbers k n c.from.ensures) (held_of was) (held c.loop-number.known)
    (omega (arith, s.sized, was.sized, was.known.values.ok.0)) here (c.loop-number.invariant.seen S s) (held c.examine.new.self) looked.contradiction looked.same)

pub loop-number-preserved : goal.loop-number-preserved
loop-number-preserved c =
    let was = c.args.self.now in
    let is = c.instances-instances.result.now in
    let numbers = c.touching-number-items.result.now in
    let k = c.loop-number.number-index in
    let n = c.from.result in
    let within : n < length is = omega (arith, c.from.ensures, c.touching-number-items.ensures.within k c.loop-number-test.true, ap length c.instances-instances.ensures.value) in
    record {
      grown = grown_then _ _ _ c.loop-number.invariant.grown c.examine.ensures.grown;
      seen = λ S s.
          let here = s.back (get_or is n nowhere) (subst (In (get_or is n nowhere)) c.instances-instances.ensures.value (in_get_d is n nowhere within)) in
          let looked = c.in_ok-examine.ensures.looked S.rule s.rule in
          seen_more S s.proper (picked is numbers) k (get_or is n nowhere) (picked_is is numbers k n c.from.ensures) (held_of was) (held c.loop-number.known)
          (omega (arith, s.sized, was.sized, was.known.values.ok.0)) here (c.loop-number.invariant.seen S s) (held c.examine.new.self) c.examine.ensures.grown.grows looked.possible looked.set;
    }

pub returns-clause-around : goal.returns-clause-around
returns-clause-around c = λ S s l.
    let was = c.args.self.now in
    let is = c.instances-instances.result.now in
    let numbers = c.touching-number-items.result.now in
    seen_around S is numbers c.args.class c.loop-number.number-index (held_of was) (held c.loop-number.known)
    (λ i m. subst (In i) (sym c.instances-instances.ensures.value) (s.there i m))
    (touched_same is (instances_of was.system) numbers c.args.class c.instances-instances.ensures.value (c.touching-number-items.ensures.complete l))
    c.loop-number-test.false (c.loop-number.invariant.seen S s)
