use Rattle.search.proofs.Onward.{chosen_onward}
use Rattle.search.proofs.Turned.{chose, may_choose}
use Rattle.search.proofs.record.Record.choose.Goals as goal

pub returns-clause-steps : goal.returns-clause-steps
returns-clause-steps c S follows at_choice =
    let old = c.args.self.now in
    let may = may_choose S old follows c.args.rank at_choice _ c.mark-mark.ensures in
    record {
      follows = c.decide.ensures.follows S may;
      move = chose S old follows c.args.rank at_choice _ c.decide.new.self c.decide.ensures.same.ranks c.decide.ensures.pushed c.decide.ensures.untold;
    }

pub returns-clause-onward : goal.returns-clause-onward
returns-clause-onward c = chosen_onward c.args.self.now c.decide.new.self c.decide.ensures.same.ranks c.args.rank c.mark-mark.result c.requires.inside c.requires.deep c.decide.ensures.pushed
