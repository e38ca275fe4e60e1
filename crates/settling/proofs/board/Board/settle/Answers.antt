use Rattle.std.proofs.Common.{◌≡◌, ℕ, ◌+◌, ◌<◌, length, drop, refl, sym, ◌∙◌, subst, arith}
use Rattle.std.proofs.lemmas.Result.{MatchResult-from_err}
use Rattle.systems.specs.Systems.{at}
use Rattle.systems.specs.Trails.{QuietBut}
use Rattle.gathering.specs.Systems.{class_count}
use Rattle.settling.specs.Boards.{held_of, trail_of, values_of}
use Rattle.systems.proofs.Settle.{steps_then}
use Rattle.systems.proofs.Trails.{grows_none, grows_then}
use Rattle.settling.proofs.Going.{none_yet, class_settled, all_settled, meets_then, quiet_grown, serves_kept}
use Rattle.settling.proofs.board.Board.settle.Goals as goal

pub loop-class-init : goal.loop-class-init
loop-class-init c =
    record {
      kept = record { system = refl; table = refl };
      longer = omega arith;
      grows = grows_none (held_of c.args.self.now);
      onward = omega arith;
      steps = λ S s. none_yet S (values_of c.args.self.now);
      quiet = λ S s q. q;
    }

pub returns-in_err-examine_around-clause-grows : goal.returns-in_err-examine_around-clause-grows
returns-in_err-examine_around-clause-grows c = grows_then c.loop-class.invariant.grows c.examine_around.ensures.grown.grows

pub returns-in_err-examine_around-clause-meets : goal.returns-in_err-examine_around-clause-meets
returns-in_err-examine_around-clause-meets c = λ S s.
    let now = c.loop-class.self in
    let k = now.known.settled in
    let inside = now.known.trailed k (omega (arith, c.in-Some.ensures.1, now.known.trail.ok.0)) in
    let below : c.in-Some.class < class_count now.system = omega (arith, c.in-Some.ensures.0, inside, now.sized) in
    MatchResult-from_err c.from_residual.result _ _ c.from_residual.ensures.0
    (λ y. meets_then S (values_of c.args.self.now) (values_of now) (values_of c.examine_around.new.self) (c.loop-class.invariant.steps S s)
    (c.in_err-examine_around.ensures.around S (serves_kept c.args.self.now now S c.loop-class.invariant.kept s) below))

pub returns-in_err-examine_around-clause-quiet : goal.returns-in_err-examine_around-clause-quiet
returns-in_err-examine_around-clause-quiet c = λ S s q.
    let now = c.loop-class.self in
    let next = c.examine_around.new.self in
    let still = quiet_grown S (held_of now) (held_of next) now.known.settled (omega (arith, now.known.reached, now.known.trail.ok.0)) c.examine_around.ensures.grown.grows (c.loop-class.invariant.quiet S s q) in
    subst (λ (n : ℕ). QuietBut S (at (values_of next)) (drop n (trail_of next))) (sym c.examine_around.ensures.grown.settled) still

pub loop-class-preserved : goal.loop-class-preserved
loop-class-preserved c =
    let was = c.args.self.now in
    let now = c.loop-class.self in
    let next = c.examine_around.new.self in
    let told = c.examine_around.ensures in
    let k = now.known.settled in
    let at_trail : k < length (trail_of now) = omega (arith, c.in-Some.ensures.1, now.known.trail.ok.0) in
    let inside = now.known.trailed k at_trail in
    let below : c.in-Some.class < class_count now.system = omega (arith, c.in-Some.ensures.0, inside, now.sized) in
    let one_on : k + 1 ≡ next.known.settled + 1 = omega (arith, told.grown.settled) in
    record {
      kept = record { system = told.kept.system ∙ c.loop-class.invariant.kept.system; table = told.kept.table ∙ c.loop-class.invariant.kept.table };
      longer = omega (arith, told.grown.longer, c.loop-class.invariant.longer);
      grows = grows_then c.loop-class.invariant.grows told.grown.grows;
      onward = omega (arith, told.grown.settled, c.loop-class.invariant.onward);
      steps = λ S s.
          let a = c.in_ok-examine_around.ensures.around S (serves_kept was now S c.loop-class.invariant.kept s) below in
          steps_then (c.loop-class.invariant.steps S s) a.steps;
      quiet = λ S s q.
          let a = c.in_ok-examine_around.ensures.around S (serves_kept was now S c.loop-class.invariant.kept s) below in
          let done = class_settled S (held_of now) (held_of next) k c.in-Some.class at_trail c.in-Some.ensures.0 told.grown.grows a (c.loop-class.invariant.quiet S s q) in
          subst (λ (n : ℕ). QuietBut S (at (values_of next)) (drop n (trail_of next))) one_on done;
    }

pub returns-clause-settles : goal.returns-clause-settles
returns-clause-settles c = λ S s q.
    all_settled S (values_of c.args.self.now) (held_of c.loop-class.self) c.loop-class.self.known.settled s.whole (c.loop-class.invariant.steps S s)
    (omega (arith, c.in_default.ensures, c.loop-class.self.known.trail.ok.0)) (c.loop-class.invariant.quiet S s q)
