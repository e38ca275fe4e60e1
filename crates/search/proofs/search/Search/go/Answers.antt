use Rattle.std.proofs.Common.{rules, ◌≡◌, ◌≤◌, Some, refl}
use Rattle.search.proofs.Calls.{goes, still_searches}
use Rattle.search.proofs.Finds.{opened_by}
use Rattle.search.proofs.Onward.{fewer_here}
use Rattle.search.proofs.search.Search.go.Goals as goal

pub returns-then-not-contains-clause-open : goal.returns-then-not-contains-clause-open
returns-then-not-contains-clause-open c s rule cell opened =
    let here : c.args.self.now.record ≡ Some c.in_ok-record.record.now = search rules in
    (c.in_ok-record.record.now, refl, opened_by opened here)

pub returns-clause-open : goal.returns-clause-open
returns-clause-open c s rule cell opened =
    let here : c.args.self.now.record ≡ Some c.in_ok-record.record.now = search rules in
    (c.go.new.self, refl, still_searches s rule cell c.in_ok-record.record.now c.go.new.self (opened_by opened here) _ c.go.result c.go.ensures.same c.go.ensures.goes)

pub returns-clause-goes : goal.returns-clause-goes
returns-clause-goes c s rule cell opened =
    let here : c.args.self.now.record ≡ Some c.in_ok-record.record.now = search rules in
    goes s rule cell c.in_ok-record.record.now c.go.new.self (opened_by opened here) c.args.steps c.go.result c.go.ensures.same c.go.ensures.goes c.args.self.now _ here refl

pub returns-clause-onward : goal.returns-clause-onward
returns-clause-onward c more =
    let here : c.args.self.now.record ≡ Some c.in_ok-record.record.now = search rules in
    let some : 1 ≤ c.args.steps = search rules in
    fewer_here c.args.self.now c.in_ok-record.record.now c.go.new.self here c.go.ensures.same.ranks (c.go.ensures.onward some more)
