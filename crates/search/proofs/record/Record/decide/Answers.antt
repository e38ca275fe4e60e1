use Rattle.std.proofs.Common.{rules, arith, ◌≡◌, ℕ, ◌≤◌, refl, subst, ◌∙◌}
use Rattle.std.proofs.lemmas.Grind.{get_or_default_zero}
use Rattle.gathering.specs.Systems.{class_count}
use Rattle.systems.specs.Trails.{hold}
use Rattle.settling.specs.Boards.{held_of}
use Rattle.search.specs.Stacks.{ranked}
use Rattle.search.proofs.Decided.{below_count, follows, may_settle}
use Rattle.search.proofs.record.Record.decide.Goals as goal

pub returns-clause-follows : goal.returns-clause-follows
returns-clause-follows c S may =
    let old = c.args.self.now in
    let d = c.args.decision in
    let class : c.index.result.now ≡ ranked old.ranks.items d.rank = c.index.ensures ∙ get_or_default_zero old.ranks.items d.rank _ (omega (arith, c.requires.inside, old.ranks.ok.0)) in
    let held : held_of c.decide.new.self ≡ hold (ranked old.ranks.items d.rank) d.on (held_of old.board) =
    subst (λ (x : ℕ). x ≤ class_count old.board.system → held_of c.decide.new.self ≡ hold x d.on (held_of old.board)) class c.decide.ensures.held (below_count S old d may) in
    let made = c.decide.ensures in
    let done = c.settle-standing.ensures in
    follows S old d may c.decide.new.self made.kept made.settled held _ done.kept done.grows done.onward done.same.ranks
    (search rules) done.settled (done.stands S (may_settle S old d may c.decide.new.self made.kept made.settled held _ refl refl))
