use Rattle.std.proofs.Common.{rules, ◌≡◌, ℕ, List, [], ◌∷◌, Err, Result, refl, sym, subst}
use Rattle.pages.specs.declared.fault.PageFault.TheVariants.{Short}
use Rattle.printing.specs.Printed.{found_line}
use Rattle.calls.specs.Ledgers.{tally_of}
use Rattle.listing.specs.declared.fault.ListFault.{ListFault}
use Rattle.listing.specs.declared.fault.ListFault.TheVariants as listing
use Rattle.listing.specs.Handing.{HandedBy, TextHanded, at_rest, at_text, nothing, rested, took}
use Rattle.listing.proofs.Pages.{finds_counted, finds_not_counted, line_not_put, line_put}
use Rattle.listing.proofs.page.hand_foot.Goals as goal

pub returns-in_err-finds-clause-handed : goal.returns-in_err-finds-clause-handed
returns-in_err-finds-clause-handed g c s rule cell b keeps = elim (finds_not_counted keeps c.in_err-finds.ensures.performed) [ ]

pub returns-in_err-after-clause-handed : goal.returns-in_err-after-clause-handed
returns-in_err-after-clause-handed g c s rule cell b keeps =
    let answer : c.from_residual-in_err-after.result ≡ Err (listing.Foot c.in_err-after.field-0.0) = search rules in
    let counted = finds_counted keeps c.in_ok-finds.ensures.performed c.in-Counted.finds c.in-Counted.is in
    let off = line_not_put c.args.search.now c.perform.new.search c.args.page.now c.perform.new.page c.write_found.new.page c.in_ok-finds.field-0 c.in-Counted.finds c.in_ok-finds.ensures.kind c.in-Counted.is b counted c.in_err-after.field-0.0 c.in_err-after.ensures in
    subst (λ (r : Result (Unit {0}) ListFault). TextHanded g.S.Sink.takes g.S.Sink.rests g.S.Sink.fails (listing.Foot Short) (found_line (tally_of b.told)) c.args.page.now c.args.sink.now r c.write_found.new.page c.args.sink.now) (sym answer)
    (off.0, off.1, off.2, refl)

pub returns-in_err-take-clause-handed : goal.returns-in_err-take-clause-handed
returns-in_err-take-clause-handed g c s rule cell b keeps =
    let answer : c.from_residual-in_err-take.result ≡ Err listing.Closed = search rules in
    let counted = finds_counted keeps c.in_ok-finds.ensures.performed c.in-Counted.finds c.in-Counted.is in
    let put = line_put c.args.search.now c.perform.new.search c.args.page.now c.perform.new.page c.write_found.new.page c.in_ok-finds.field-0 c.in-Counted.finds c.in_ok-finds.ensures.kind c.in-Counted.is b counted c.in_ok-after.after c.in_ok-after.ensures in
    subst (λ (r : Result (Unit {0}) ListFault). TextHanded g.S.Sink.takes g.S.Sink.rests g.S.Sink.fails (listing.Foot Short) (found_line (tally_of b.told)) c.args.page.now c.args.sink.now r c.write_found.new.page c.take.new.self) (sym answer)
    (put.1, at_text (found_line (tally_of b.told)) nothing (subst (λ (text : List ℕ). g.S.Sink.fails c.args.sink.now text c.take.new.self) put.0 c.in_err-take.ensures.failed))

pub returns-in_err-rest-clause-handed : goal.returns-in_err-rest-clause-handed
returns-in_err-rest-clause-handed g c s rule cell b keeps =
    let answer : c.from_residual-in_err-rest.result ≡ Err listing.Closed = search rules in
    let counted = finds_counted keeps c.in_ok-finds.ensures.performed c.in-Counted.finds c.in-Counted.is in
    let put = line_put c.args.search.now c.perform.new.search c.args.page.now c.perform.new.page c.write_found.new.page c.in_ok-finds.field-0 c.in-Counted.finds c.in_ok-finds.ensures.kind c.in-Counted.is b counted c.in_ok-after.after c.in_ok-after.ensures in
    subst (λ (r : Result (Unit {0}) ListFault). TextHanded g.S.Sink.takes g.S.Sink.rests g.S.Sink.fails (listing.Foot Short) (found_line (tally_of b.told)) c.args.page.now c.args.sink.now r c.write_found.new.page c.rest.new.self) (sym answer)
    (put.1, at_rest (took (found_line (tally_of b.told)) nothing (subst (λ (text : List ℕ). g.S.Sink.takes c.args.sink.now text c.take.new.self) put.0 c.in_ok-take.ensures.taken)) c.in_err-rest.ensures.failed)

pub returns-clause-handed : goal.returns-clause-handed
returns-clause-handed g c s rule cell b keeps =
    let counted = finds_counted keeps c.in_ok-finds.ensures.performed c.in-Counted.finds c.in-Counted.is in
    let put = line_put c.args.search.now c.perform.new.search c.args.page.now c.perform.new.page c.write_found.new.page c.in_ok-finds.field-0 c.in-Counted.finds c.in_ok-finds.ensures.kind c.in-Counted.is b counted c.in_ok-after.after c.in_ok-after.ensures in
    (put.1, rested (took (found_line (tally_of b.told)) nothing (subst (λ (text : List ℕ). g.S.Sink.takes c.args.sink.now text c.take.new.self) put.0 c.in_ok-take.ensures.taken)) c.in_ok-rest.ensures.rested)

pub returns-in_err-finds-clause-sink : goal.returns-in_err-finds-clause-sink
returns-in_err-finds-clause-sink g c =
    let answer : c.from_residual.result ≡ Err (listing.Call c.in_err-finds.field-0.0) = search rules in
    subst (λ (r : Result (Unit {0}) ListFault). HandedBy g.S.Sink.takes g.S.Sink.rests g.S.Sink.fails c.args.sink.now r c.args.sink.now) (sym answer) ([], nothing)

pub returns-in_err-after-clause-sink : goal.returns-in_err-after-clause-sink
returns-in_err-after-clause-sink g c =
    let answer : c.from_residual-in_err-after.result ≡ Err (listing.Foot c.in_err-after.field-0.0) = search rules in
    subst (λ (r : Result (Unit {0}) ListFault). HandedBy g.S.Sink.takes g.S.Sink.rests g.S.Sink.fails c.args.sink.now r c.args.sink.now) (sym answer) ([], nothing)

pub returns-in_err-take-clause-sink : goal.returns-in_err-take-clause-sink
returns-in_err-take-clause-sink g c =
    let answer : c.from_residual-in_err-take.result ≡ Err listing.Closed = search rules in
    subst (λ (r : Result (Unit {0}) ListFault). HandedBy g.S.Sink.takes g.S.Sink.rests g.S.Sink.fails c.args.sink.now r c.take.new.self) (sym answer) (_ ∷ [], at_text _ nothing c.in_err-take.ensures.failed)

pub returns-in_err-rest-clause-sink : goal.returns-in_err-rest-clause-sink
returns-in_err-rest-clause-sink g c =
    let answer : c.from_residual-in_err-rest.result ≡ Err listing.Closed = search rules in
    subst (λ (r : Result (Unit {0}) ListFault). HandedBy g.S.Sink.takes g.S.Sink.rests g.S.Sink.fails c.args.sink.now r c.rest.new.self) (sym answer) (_ ∷ [], at_rest (took _ nothing c.in_ok-take.ensures.taken) c.in_err-rest.ensures.failed)

pub returns-clause-sink : goal.returns-clause-sink
returns-clause-sink g c = (_ ∷ [], rested (took _ nothing c.in_ok-take.ensures.taken) c.in_ok-rest.ensures.rested)

pub returns-clause-settled : goal.returns-clause-settled
returns-clause-settled g c s rule cell b keeps =
    let counted = finds_counted keeps c.in_ok-finds.ensures.performed c.in-Counted.finds c.in-Counted.is in
    let put = line_put c.args.search.now c.perform.new.search c.args.page.now c.perform.new.page c.write_found.new.page c.in_ok-finds.field-0 c.in-Counted.finds c.in_ok-finds.ensures.kind c.in-Counted.is b counted c.in_ok-after.after c.in_ok-after.ensures in
    (c.take.new.self, took (found_line (tally_of b.told)) nothing (subst (λ (text : List ℕ). g.S.Sink.takes c.args.sink.now text c.take.new.self) put.0 c.in_ok-take.ensures.taken), c.in_ok-rest.ensures.rested)
