use Rattle.std.proofs.Common.{rules, ◌≡◌, None, refl, sym, subst, ◌∙◌}
use Rattle.systems.proofs.Base.{never}
use Rattle.search.specs.Stacks.{LastOff}
use Rattle.search.proofs.Walks.{due_done, due_found}
use Rattle.search.proofs.record.Record.due.Goals as goal

pub returns-in-Find-clause-due : goal.returns-in-Find-clause-due
returns-in-Find-clause-due c S follows = due_found S c.args.self.now follows _ c.in-Find.is refl refl refl refl c.args.taken

pub returns-then-is_none : goal.returns-then-is_none
returns-then-is_none c =
    let none : c.last_off.result ≡ None = search rules in
    record {
      steps = refl;
      same = record { frame = refl; rule = refl; board = record { system = refl; table = refl }; ranks = refl };
      found = refl;
      tally = refl;
      onward = λ e. never (cc e);
      due = λ S follows. due_done S c.args.self.now follows c.args.taken (sym c.turns_back.ensures ∙ c.if-turns_back.true) (subst (LastOff c.args.self.now.decisions.items) none c.last_off.ensures);
    }
