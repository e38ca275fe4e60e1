use Rattle.std.proofs.Common.{rules, ◌≡◌, ℕ, [], ◌++◌, Ok, Err, Option, Result, sym, ap, subst}
use Rattle.std.specs.Prelude.{IfErr}
use Rattle.calls.specs.Ledgers.{opened}
use Rattle.listing.specs.declared.fault.ListFault.{ListFault}
use Rattle.listing.specs.declared.fault.ListFault.TheVariants as listing
use Rattle.listing.specs.Handing.{HandedBy, WentOn, nothing}
use Rattle.listing.proofs.Pages.{begun, handed_by, handed_by_then, handed_then}
use Rattle.listing.proofs.Spaces.{only_closed}
use Rattle.listing.proofs.page.list_page.Goals as goal

pub loop-next-init : goal.loop-next-init
loop-next-init g c = record { granted = search rules; handed = ([], nothing); begun = begun g.S.Sink.takes g.S.Sink.rests c.args.search.now c.args.page.now c.args.sink.now }

pub returns-in_err-next-clause-room : goal.returns-in_err-next-clause-room
returns-in_err-next-clause-room g c s rule cell b keeps room =
    let answer : c.from_residual.result ≡ Err c.in_err-next.field-0.0 = search rules in
    let begun = c.loop-next.invariant.begun (opened s rule cell b) keeps in
    subst (λ (r : Result (Unit {0}) ListFault). IfErr r (λ fault. fault ≡ listing.Closed)) (sym answer)
    (only_closed g.S.Sink.takes g.S.Sink.rests g.S.Sink.fails s rule cell c.args.page.now c.args.sink.now (Err c.in_err-next.field-0.0) (c.in_err-next.ensures.went (opened s rule cell b) c.args.page.now c.args.sink.now begun) room)

pub loop-next-preserved : goal.loop-next-preserved
loop-next-preserved g c =
    record {
      granted = c.in_ok-next.ensures.granted _ (ap Ok c.in-Some.is);
      handed = (c.loop-next.invariant.handed.0 ++ c.in_ok-next.ensures.sink.0, handed_then c.loop-next.invariant.handed.1 c.in_ok-next.ensures.sink.1);
      begun = λ l h. subst (λ (next : Option ℕ). WentOn g.S.Sink.takes g.S.Sink.rests g.S.Sink.fails l c.args.page.now c.args.sink.now (Ok next) c.go_on.new.search c.go_on.new.page c.go_on.new.sink) c.in-Some.is
          (c.in_ok-next.ensures.went l c.args.page.now c.args.sink.now (c.loop-next.invariant.begun l h));
    }

pub returns-in_err-next-clause-sink : goal.returns-in_err-next-clause-sink
returns-in_err-next-clause-sink g c =
    let answer : c.from_residual.result ≡ Err c.in_err-next.field-0.0 = search rules in
    let before = c.loop-next.invariant.handed in
    let fault = c.in_err-next.field-0.0 in
    subst (λ (r : Result (Unit {0}) ListFault). HandedBy g.S.Sink.takes g.S.Sink.rests g.S.Sink.fails c.args.sink.now r c.go_on.new.sink) (sym answer)
    (handed_by_then (Unit {0}) g.S.Sink.takes g.S.Sink.rests g.S.Sink.fails c.args.sink.now c.loop-next.sink c.go_on.new.sink before.0 fault before.1 (handed_by (Option ℕ) (Unit {0}) g.S.Sink.takes g.S.Sink.rests g.S.Sink.fails c.loop-next.sink c.go_on.new.sink fault c.in_err-next.ensures.sink))

pub returns-clause-sink : goal.returns-clause-sink
returns-clause-sink g c = (c.loop-next.invariant.handed.0 ++ c.in_ok-next.ensures.sink.0, handed_then c.loop-next.invariant.handed.1 c.in_ok-next.ensures.sink.1)
