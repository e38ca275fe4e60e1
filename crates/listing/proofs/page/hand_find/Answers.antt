use Rattle.std.proofs.Common.{rules, ◌≡◌, ℕ, List, [], ◌∷◌, Err, Result, refl, sym, ap, subst}
use Rattle.pages.specs.declared.fault.PageFault.TheVariants.{Short}
use Rattle.search.specs.declared.fault.WriteFault.TheVariants.{Page}
use Rattle.calls.specs.Ledgers.{text_in}
use Rattle.calls.specs.declared.fault.CallFault.TheVariants.{Write}
use Rattle.listing.specs.declared.fault.ListFault.{ListFault}
use Rattle.listing.specs.declared.fault.ListFault.TheVariants as listing
use Rattle.listing.specs.Handing.{HandedBy, TextHanded, at_text, nothing, took}
use Rattle.listing.proofs.Pages.{find_not_put, find_put}
use Rattle.listing.proofs.page.hand_find.Goals as goal

pub returns-in_err-end-clause-handed : goal.returns-in_err-end-clause-handed
returns-in_err-end-clause-handed g c s rule cell b f keeps found =
    let answer : c.from_residual.result ≡ Err (listing.Call c.in_err-end.field-0.0) = search rules in
    let off = find_not_put keeps c.in_err-end.ensures.performed f found in
    subst (λ (r : Result (Unit {0}) ListFault). TextHanded g.S.Sink.takes g.S.Sink.rests g.S.Sink.fails (listing.Call (Write (Page Short))) (text_in s rule f) c.args.page.now c.args.sink.now r c.perform.new.page c.args.sink.now) (sym answer)
    (ap listing.Call off.0, off.1, off.2, refl)

pub returns-in_err-take-clause-handed : goal.returns-in_err-take-clause-handed
returns-in_err-take-clause-handed g c s rule cell b f keeps found =
    let answer : c.from_residual-in_err-take.result ≡ Err listing.Closed = search rules in
    let put = find_put keeps c.in_ok-end.ensures.performed c.in-Wrote.end c.in-Wrote.is f found in
    subst (λ (r : Result (Unit {0}) ListFault). TextHanded g.S.Sink.takes g.S.Sink.rests g.S.Sink.fails (listing.Call (Write (Page Short))) (text_in s rule f) c.args.page.now c.args.sink.now r c.perform.new.page c.take.new.self) (sym answer)
    (put.1, at_text (text_in s rule f) nothing (subst (λ (text : List ℕ). g.S.Sink.fails c.args.sink.now text c.take.new.self) put.0 c.in_err-take.ensures.failed))

pub returns-clause-handed : goal.returns-clause-handed
returns-clause-handed g c s rule cell b f keeps found =
    let put = find_put keeps c.in_ok-end.ensures.performed c.in-Wrote.end c.in-Wrote.is f found in
    (put.1, took (text_in s rule f) nothing (subst (λ (text : List ℕ). g.S.Sink.takes c.args.sink.now text c.take.new.self) put.0 c.in_ok-take.ensures.taken))

pub returns-in_err-end-clause-sink : goal.returns-in_err-end-clause-sink
returns-in_err-end-clause-sink g c =
    let answer : c.from_residual.result ≡ Err (listing.Call c.in_err-end.field-0.0) = search rules in
    subst (λ (r : Result (Unit {0}) ListFault). HandedBy g.S.Sink.takes g.S.Sink.rests g.S.Sink.fails c.args.sink.now r c.args.sink.now) (sym answer) ([], nothing)

pub returns-in_err-take-clause-sink : goal.returns-in_err-take-clause-sink
returns-in_err-take-clause-sink g c =
    let answer : c.from_residual-in_err-take.result ≡ Err listing.Closed = search rules in
    subst (λ (r : Result (Unit {0}) ListFault). HandedBy g.S.Sink.takes g.S.Sink.rests g.S.Sink.fails c.args.sink.now r c.take.new.self) (sym answer) (_ ∷ [], at_text _ nothing c.in_err-take.ensures.failed)

pub returns-clause-sink : goal.returns-clause-sink
returns-clause-sink g c = (_ ∷ [], took _ nothing c.in_ok-take.ensures.taken)
