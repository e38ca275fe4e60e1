use Rattle.std.proofs.Common.{ap, rules, ◌≡◌, ℕ, refl, sym, subst, arith}
use Rattle.search.specs.Standings.{state_of}
use Rattle.search.specs.Moves.{HasStep, reached}
use Rattle.search.proofs.Onward.{further, last_onward}
use Rattle.search.proofs.Walks.{Walked, follows_again, gone_due, gone_last, not_yet, walk_more}
use Rattle.search.proofs.record.Record.go.Goals as goal

pub loop-taken-init : goal.loop-taken-init
loop-taken-init c =
    record {
      same = record { frame = refl; rule = refl; board = record { system = refl; table = refl }; ranks = refl };
      found = refl;
      tally = refl;
      onward = omega arith;
      walked = λ S f. let q = follows_again {r = c.args.self.now} refl refl refl refl f in (q.0, subst (Walked S 0 (state_of c.args.self.now)) (sym q.1) not_yet);
    }

pub loop-taken-preserved : goal.loop-taken-preserved
loop-taken-preserved c =
    let was = c.loop-taken.invariant in
    let none = c.in_default.ensures in
    record {
      same = search rules;
      found = search rules;
      tally = search rules;
      onward = further c.loop-taken.self c.due.new.self c.step.new.self (reached c.args.self.now) c.loop-taken.taken (c.step.ensures.onward (subst HasStep (sym none.due.0) none.due.1)) (ap reached none.due.0) was.onward;
      walked = λ S f. let w = was.walked S f in walk_more S c.args.self.now c.loop-taken.self c.loop-taken.taken w.1 c.due.new.self c.step.new.self w.0 none.due.0 none.due.1 (c.step.ensures.steps S);
    }

pub returns-in-Some-clause-goes : goal.returns-in-Some-clause-goes
returns-in-Some-clause-goes c S f =
    let w = c.loop-taken.invariant.walked S f in
    let found = c.in-Some.ensures in
    gone_due S c.args.self.now c.loop-taken.self c.loop-taken.taken w.1 c.args.steps c.due.new.self c.in-Some.answer (omega arith) found.steps (found.due S w.0)

pub returns-clause-goes : goal.returns-clause-goes
returns-clause-goes c S f =
    let steps = c.args.steps in
    let all : c.loop-taken.taken ≡ steps = omega arith in
    let w = c.loop-taken.invariant.walked S f in
    let walked = subst (λ (n : ℕ). Walked S n (state_of c.args.self.now) (state_of c.loop-taken.self)) all w.1 in
    gone_last S c.args.self.now c.loop-taken.self steps walked c.due-2.new.self c.due-2.result w.0 c.due-2.ensures.steps c.due-2.ensures.due c.unwrap_or.result c.unwrap_or.ensures

pub returns-in-Some-clause-onward : goal.returns-in-Some-clause-onward
returns-in-Some-clause-onward c some more = omega (arith, c.loop-taken.invariant.onward, c.in-Some.ensures.onward more)

pub returns-clause-onward : goal.returns-clause-onward
returns-clause-onward c some more =
    let all : c.loop-taken.taken ≡ c.args.steps = omega arith in
    last_onward c.loop-taken.self c.due-2.new.self c.due-2.result (reached c.args.self.now) c.args.steps (omega (arith, all, c.loop-taken.invariant.onward)) some
    c.due-2.ensures.onward c.due-2.ensures.due c.unwrap_or.result c.unwrap_or.ensures more
