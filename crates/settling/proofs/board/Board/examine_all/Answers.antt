use Rattle.std.proofs.Common.{get_or, sym, subst, arith}
use Rattle.std.proofs.lemmas.Result.{MatchResult-from_err}
use Rattle.systems.specs.Systems.{In}
use Rattle.systems.proofs.Base.{in_get_d}
use Rattle.systems.proofs.Trails.{grows_none}
use Rattle.gathering.specs.Bounds.{nowhere}
use Rattle.settling.specs.Boards.{held_of}
use Rattle.settling.specs.Knowing.{held}
use Rattle.settling.proofs.Held.{grown_none, grown_then}
use Rattle.settling.proofs.Going.{numbered, numbered_is, seen_none, seen_more, seen_refused, seen_all}
use Rattle.settling.proofs.board.Board.examine_all.Goals as goal

pub loop-instance-init : goal.loop-instance-init
loop-instance-init c = record { grown = grown_none c.args.self.now.known; seen = λ S s. seen_none S _ (held_of c.args.self.now) (grows_none (held_of c.args.self.now)) }

pub returns-in_err-examine-clause-grown : goal.returns-in_err-examine-clause-grown
returns-in_err-examine-clause-grown c = grown_then _ _ _ c.loop-instance.invariant.grown c.examine.ensures.grown

pub returns-in_err-examine-clause-through : goal.returns-in_err-examine-clause-through
returns-in_err-examine-clause-through c = λ S s.
    let was = c.args.self.now in
    let is = c.instances-instance-items.result.now in
    let k = c.loop-instance.instance-index in
    let here = s.back (get_or is k nowhere) (subst (In (get_or is k nowhere)) c.instances-instance-items.ensures.value (in_get_d is k nowhere c.loop-instance-test.true)) in
    let looked = c.in_err-examine.ensures.looked S.rule s.rule in
    MatchResult-from_err c.from_residual.result _ _ c.from_residual.ensures.0
    (λ y. seen_refused S s.proper (numbered is) k (get_or is k nowhere) (numbered_is is k) (held_of was) (held c.loop-instance.known)
    (omega (arith, s.sized, was.sized, was.known.values.ok.0)) here (c.loop-instance.invariant.seen S s) (held c.examine.new.self) looked.contradiction looked.same)

pub loop-instance-preserved : goal.loop-instance-preserved
loop-instance-preserved c =
    let was = c.args.self.now in
    let is = c.instances-instance-items.result.now in
    let k = c.loop-instance.instance-index in
    record {
      grown = grown_then _ _ _ c.loop-instance.invariant.grown c.examine.ensures.grown;
      seen = λ S s.
          let here = s.back (get_or is k nowhere) (subst (In (get_or is k nowhere)) c.instances-instance-items.ensures.value (in_get_d is k nowhere c.loop-instance-test.true)) in
          let looked = c.in_ok-examine.ensures.looked S.rule s.rule in
          seen_more S s.proper (numbered is) k (get_or is k nowhere) (numbered_is is k) (held_of was) (held c.loop-instance.known)
          (omega (arith, s.sized, was.sized, was.known.values.ok.0)) here (c.loop-instance.invariant.seen S s) (held c.examine.new.self) c.examine.ensures.grown.grows looked.possible looked.set;
    }

pub returns-clause-through : goal.returns-clause-through
returns-clause-through c = λ S s.
    let is = c.instances-instance-items.result.now in
    seen_all S is c.loop-instance.instance-index (held_of c.args.self.now) (held c.loop-instance.known)
    (λ i m. subst (In i) (sym c.instances-instance-items.ensures.value) (s.there i m)) c.loop-instance-test.false (c.loop-instance.invariant.seen S s)
