use Rattle.std.proofs.Common.{refl, ◌∙◌}
use Rattle.systems.proofs.Trails.{grows_then}
use Rattle.search.proofs.Opened.{again, may_serve, met_follows, opened, stands_again, torn_follows}
use Rattle.search.proofs.record.Record.settle_first.Goals as goal

pub returns-then-torn-clause-follows : goal.returns-then-torn-clause-follows
returns-then-torn-clause-follows c S may = torn_follows S c.args.self.now c.args.torn may c.if-torn.true

pub returns-in-Ok-clause-follows : goal.returns-in-Ok-clause-follows
returns-in-Ok-clause-follows c S may =
    let old = c.args.self.now in
    let whole = c.if-torn.false in
    let b = c.settle_all.new.self in
    let all = c.in-Ok.ensures.settled in
    let first = c.settle_all.ensures in
    let then = c.settle-self.ensures in
    let settles = c.in-Ok.ensures.settles S (may_serve S old c.args.torn may whole) in
    opened S old c.args.torn may _ (record { system = then.kept.system ∙ first.kept.system; table = then.kept.table ∙ first.kept.table }) then.same.ranks then.same.decisions (grows_then first.grows then.grows) then.settled
    (stands_again S old c.args.torn may whole b first.kept all settles _ _ (then.stands S (again S old c.args.torn may whole b first.kept all settles _ refl refl)))

pub returns-in_default-clause-follows : goal.returns-in_default-clause-follows
returns-in_default-clause-follows c S may =
    let old = c.args.self.now in
    let meets = c.in_default.ensures.meets S (may_serve S old c.args.torn may c.if-torn.false) in
    met_follows S old c.args.torn may c.if-torn.false _ c.settle_all.ensures.kept refl refl c.settle_all.ensures.grows refl meets
