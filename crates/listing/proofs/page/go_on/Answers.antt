use Rattle.std.proofs.Common.{rules, ◌≡◌, ℕ, List, [], Err, Option, Result, sym, ap, ◌∙◌, subst}
use Rattle.calls.specs.declared.call.Reply.TheVariants.{Went}
use Rattle.listing.specs.declared.fault.ListFault.{ListFault}
use Rattle.listing.specs.declared.fault.ListFault.TheVariants as listing
use Rattle.listing.specs.Handing.{BegunBy, Broken, Handed, HandedBy, RanBy, WentOn, at_rest, nothing}
use Rattle.listing.proofs.Pages.{done_off, done_on, found_off, found_on, found_unrested, handed_by, handed_still, kept_by_go, not_begun, paused_on, paused_unrested}
use Rattle.listing.proofs.page.go_on.Goals as goal
use Rattle.listing.proofs.page.go_on.Goals.{in-Found+in_ok-hand_find-in-Found, in-Paused}

pub returns-in_err-answer-clause-went : goal.returns-in_err-answer-clause-went
returns-in_err-answer-clause-went g c l p from begun =
    let answer : c.from_residual.result ≡ Err (listing.Call c.in_err-answer.field-0.0) = search rules in
    subst (λ (r : Result (Option ℕ) ListFault). WentOn g.S.Sink.takes g.S.Sink.rests g.S.Sink.fails l p from r c.perform.new.search c.perform.new.page c.args.sink.now) (sym answer)
    (not_begun g.S.Sink.takes g.S.Sink.rests g.S.Sink.fails p from c.args.sink.now c.args.search.now c.perform.new.search c.args.page.now c.perform.new.page c.args.left c.in_err-answer.field-0.0 c.in_err-answer.ensures.performed c.requires l begun)

pub returns-in_err-hand_find-in-Found-clause-went : goal.returns-in_err-hand_find-in-Found-clause-went
returns-in_err-hand_find-in-Found-clause-went g c l p from begun =
    let answer : c.from_residual-in_err-hand_find-in-Found.result ≡ Err c.in_err-hand_find-in-Found.field-0.0 = search rules in
    let same = kept_by_go c.args.search.now c.perform.new.search c.args.page.now c.perform.new.page c.args.left c.in_ok-answer.field-0 c.in-Went.answer c.in_ok-answer.ensures.kind c.in-Went.is in
    subst (λ (r : Result (Option ℕ) ListFault). WentOn g.S.Sink.takes g.S.Sink.rests g.S.Sink.fails l p from r c.hand_find.new.search c.hand_find.new.page c.hand_find.new.sink) (sym answer)
    (found_off g.S.Sink.takes g.S.Sink.rests g.S.Sink.fails p from c.args.sink.now c.args.search.now c.perform.new.search c.args.page.now c.perform.new.page c.args.left c.in_ok-answer.field-0 c.in_ok-answer.ensures.performed same l begun
    c.in-Found.field-0 (c.in-Went.is ∙ ap Went c.in-Found.is) c.in_err-hand_find-in-Found.field-0.0 c.hand_find.new.search c.hand_find.new.page c.hand_find.new.sink c.in_err-hand_find-in-Found.ensures.same c.in_err-hand_find-in-Found.ensures.handed)

pub returns-in_err-hand_foot-in-Done-clause-went : goal.returns-in_err-hand_foot-in-Done-clause-went
returns-in_err-hand_foot-in-Done-clause-went g c l p from begun =
    let answer : c.from_residual-in_err-hand_foot-in-Done.result ≡ Err c.in_err-hand_foot-in-Done.field-0.0 = search rules in
    let same = kept_by_go c.args.search.now c.perform.new.search c.args.page.now c.perform.new.page c.args.left c.in_ok-answer.field-0 c.in-Went.answer c.in_ok-answer.ensures.kind c.in-Went.is in
    subst (λ (r : Result (Option ℕ) ListFault). WentOn g.S.Sink.takes g.S.Sink.rests g.S.Sink.fails l p from r c.hand_foot.new.search c.hand_foot.new.page c.hand_foot.new.sink) (sym answer)
    (done_off g.S.Sink.takes g.S.Sink.rests g.S.Sink.fails p from c.args.sink.now c.args.search.now c.perform.new.search c.args.page.now c.perform.new.page c.args.left c.in_ok-answer.field-0 c.in_ok-answer.ensures.performed same l begun
    c.in-Done.field-0 (c.in-Went.is ∙ ap Went c.in-Done.is) c.in_err-hand_foot-in-Done.field-0.0 c.hand_foot.new.search c.hand_foot.new.page c.hand_foot.new.sink c.in_err-hand_foot-in-Done.ensures.same c.in_err-hand_foot-in-Done.ensures.handed)

pub returns-in-Done-clause-went : goal.returns-in-Done-clause-went
returns-in-Done-clause-went g c l p from begun =
    let same = kept_by_go c.args.search.now c.perform.new.search c.args.page.now c.perform.new.page c.args.left c.in_ok-answer.field-0 c.in-Went.answer c.in_ok-answer.ensures.kind c.in-Went.is in
    done_on g.S.Sink.takes g.S.Sink.rests g.S.Sink.fails p from c.args.sink.now c.args.search.now c.perform.new.search c.args.page.now c.perform.new.page c.args.left c.in_ok-answer.field-0 c.in_ok-answer.ensures.performed same l begun
    c.in-Done.field-0 (c.in-Went.is ∙ ap Went c.in-Done.is) c.hand_foot.new.search c.hand_foot.new.page c.hand_foot.new.sink c.in_ok-hand_foot-in-Done.ensures.same c.in_ok-hand_foot-in-Done.ensures.handed c.in_ok-hand_foot-in-Done.ensures.settled

pub returns-in_err-rested-clause-went : goal.returns-in_err-rested-clause-went
returns-in_err-rested-clause-went g c l p from begun =
    let answer : c.from_residual-in_err-rested.result ≡ Err listing.Closed = search rules in
    let same = kept_by_go c.args.search.now c.perform.new.search c.args.page.now c.perform.new.page c.args.left c.in_ok-answer.field-0 c.in-Went.answer c.in_ok-answer.ensures.kind c.in-Went.is in
    let ran : RanBy g.S.Sink.takes g.S.Sink.rests g.S.Sink.fails l p from (Err listing.Closed) c.match-answer.search c.match-answer.page c.rested.new.sink =
    elim c.match-answer.branch [
      | in-Found+in_ok-hand_find-in-Found w ↦
          let find = w.in_ok-hand_find-in-Found.ensures in
          subst (λ (page : List ℕ). RanBy g.S.Sink.takes g.S.Sink.rests g.S.Sink.fails l p from (Err listing.Closed) c.match-answer.search page c.rested.new.sink) (sym w.page-is)
          (found_unrested g.S.Sink.takes g.S.Sink.rests g.S.Sink.fails p from c.args.sink.now c.args.search.now c.perform.new.search c.args.page.now c.perform.new.page c.args.left c.in_ok-answer.field-0 c.in_ok-answer.ensures.performed same l begun
          w.in-Found.field-0 (c.in-Went.is ∙ ap Went w.in-Found.is) c.match-answer.search w.hand_find.new.page w.hand_find.new.sink c.rested.new.sink (w.search-is ∙ find.same) find.handed
          (subst (λ mid. g.S.Sink.fails mid [] c.rested.new.sink) w.sink-is c.in_err-rested.ensures.failed))
      | in-Paused w ↦
          paused_unrested g.S.Sink.takes g.S.Sink.rests g.S.Sink.fails p from c.args.sink.now c.args.search.now c.perform.new.search c.args.page.now c.perform.new.page c.args.left c.in_ok-answer.field-0 c.in_ok-answer.ensures.performed same l begun
          w.in-Paused.field-0 (c.in-Went.is ∙ ap Went w.in-Paused.is) c.match-answer.search c.match-answer.page c.match-answer.sink c.rested.new.sink w.search-is w.page-is w.sink-is c.in_err-rested.ensures.failed
    ] in
    subst (λ (r : Result (Option ℕ) ListFault). WentOn g.S.Sink.takes g.S.Sink.rests g.S.Sink.fails l p from r c.match-answer.search c.match-answer.page c.rested.new.sink) (sym answer) ran

pub returns-clause-went : goal.returns-clause-went
returns-clause-went g c l p from begun =
    let same = kept_by_go c.args.search.now c.perform.new.search c.args.page.now c.perform.new.page c.args.left c.in_ok-answer.field-0 c.in-Went.answer c.in_ok-answer.ensures.kind c.in-Went.is in
    elim c.match-answer.branch [
      | in-Found+in_ok-hand_find-in-Found w ↦
          let find = w.in_ok-hand_find-in-Found.ensures in
          subst (λ (page : List ℕ). BegunBy g.S.Sink.takes g.S.Sink.rests l p from c.match-answer.search page c.rested.new.sink) (sym w.page-is)
          (found_on g.S.Sink.takes g.S.Sink.rests g.S.Sink.fails p from c.args.sink.now c.args.search.now c.perform.new.search c.args.page.now c.perform.new.page c.args.left c.in_ok-answer.field-0 c.in_ok-answer.ensures.performed same l begun
          w.in-Found.field-0 (c.in-Went.is ∙ ap Went w.in-Found.is) c.match-answer.search w.hand_find.new.page w.hand_find.new.sink c.rested.new.sink (w.search-is ∙ find.same) w.hand_find.auto.page find.handed
          (subst (λ mid. Handed g.S.Sink.takes g.S.Sink.rests mid [] c.rested.new.sink) w.sink-is c.in_ok-rested.ensures.rested))
      | in-Paused w ↦
          paused_on g.S.Sink.takes g.S.Sink.rests g.S.Sink.fails p from c.args.sink.now c.args.search.now c.perform.new.search c.args.page.now c.perform.new.page c.args.left c.in_ok-answer.field-0 c.in_ok-answer.ensures.performed same l begun
          w.in-Paused.field-0 (c.in-Went.is ∙ ap Went w.in-Paused.is) c.match-answer.search c.match-answer.page c.match-answer.sink c.rested.new.sink w.search-is w.page-is w.sink-is c.in_ok-rested.ensures.rested
    ]

-- ---- what the sink was handed, whatever the search
pub returns-in_err-answer-clause-sink : goal.returns-in_err-answer-clause-sink
returns-in_err-answer-clause-sink g c =
    let answer : c.from_residual.result ≡ Err (listing.Call c.in_err-answer.field-0.0) = search rules in
    subst (λ (r : Result (Option ℕ) ListFault). HandedBy g.S.Sink.takes g.S.Sink.rests g.S.Sink.fails c.args.sink.now r c.args.sink.now) (sym answer) ([], nothing)

pub returns-in_err-hand_find-in-Found-clause-sink : goal.returns-in_err-hand_find-in-Found-clause-sink
returns-in_err-hand_find-in-Found-clause-sink g c =
    let answer : c.from_residual-in_err-hand_find-in-Found.result ≡ Err c.in_err-hand_find-in-Found.field-0.0 = search rules in
    subst (λ (r : Result (Option ℕ) ListFault). HandedBy g.S.Sink.takes g.S.Sink.rests g.S.Sink.fails c.args.sink.now r c.hand_find.new.sink) (sym answer)
    (handed_by (Unit {0}) (Option ℕ) g.S.Sink.takes g.S.Sink.rests g.S.Sink.fails c.args.sink.now c.hand_find.new.sink c.in_err-hand_find-in-Found.field-0.0 c.in_err-hand_find-in-Found.ensures.sink)

pub returns-in_err-hand_foot-in-Done-clause-sink : goal.returns-in_err-hand_foot-in-Done-clause-sink
returns-in_err-hand_foot-in-Done-clause-sink g c =
    let answer : c.from_residual-in_err-hand_foot-in-Done.result ≡ Err c.in_err-hand_foot-in-Done.field-0.0 = search rules in
    subst (λ (r : Result (Option ℕ) ListFault). HandedBy g.S.Sink.takes g.S.Sink.rests g.S.Sink.fails c.args.sink.now r c.hand_foot.new.sink) (sym answer)
    (handed_by (Unit {0}) (Option ℕ) g.S.Sink.takes g.S.Sink.rests g.S.Sink.fails c.args.sink.now c.hand_foot.new.sink c.in_err-hand_foot-in-Done.field-0.0 c.in_err-hand_foot-in-Done.ensures.sink)

pub returns-in-Done-clause-sink : goal.returns-in-Done-clause-sink
returns-in-Done-clause-sink g c = c.in_ok-hand_foot-in-Done.ensures.sink

pub returns-in_err-rested-clause-sink : goal.returns-in_err-rested-clause-sink
returns-in_err-rested-clause-sink g c =
    let answer : c.from_residual-in_err-rested.result ≡ Err listing.Closed = search rules in
    let by : (texts : List (List ℕ)) × Broken g.S.Sink.takes g.S.Sink.rests g.S.Sink.fails c.args.sink.now texts c.rested.new.sink =
    elim c.match-answer.branch [
      | in-Found+in_ok-hand_find-in-Found w ↦ let find = w.in_ok-hand_find-in-Found.ensures.sink in (find.0, at_rest find.1 (subst (λ mid. g.S.Sink.fails mid [] c.rested.new.sink) w.sink-is c.in_err-rested.ensures.failed))
      | in-Paused w ↦ ([], at_rest nothing (subst (λ mid. g.S.Sink.fails mid [] c.rested.new.sink) w.sink-is c.in_err-rested.ensures.failed))
    ] in
    subst (λ (r : Result (Option ℕ) ListFault). HandedBy g.S.Sink.takes g.S.Sink.rests g.S.Sink.fails c.args.sink.now r c.rested.new.sink) (sym answer) by

pub returns-clause-sink : goal.returns-clause-sink
returns-clause-sink g c =
    elim c.match-answer.branch [
      | in-Found+in_ok-hand_find-in-Found w ↦ let find = w.in_ok-hand_find-in-Found.ensures.sink in (find.0, handed_still find.1 (subst (λ mid. Handed g.S.Sink.takes g.S.Sink.rests mid [] c.rested.new.sink) w.sink-is c.in_ok-rested.ensures.rested))
      | in-Paused w ↦ ([], subst (λ mid. Handed g.S.Sink.takes g.S.Sink.rests mid [] c.rested.new.sink) w.sink-is c.in_ok-rested.ensures.rested)
    ]
