use Rattle.std.proofs.Common.{◌≡◌, Ok, ap, refl, subst, sym, ◌∙◌}
use Rattle.std.specs.Prelude.{MatchResult}
use Rattle.std.proofs.lemmas.Result.{err_from_is_err_and}
use Rattle.checking.specs.Checked.{Refuses, checked}
use Rattle.rolls.specs.Rolls.{surface}
use Rattle.verdicts.specs.Verdicts.{verdict_line, verdict_of}
use Rattle.running.proofs.JudgingLemmas.{judged, same_verdict, unjudged, unread}
use Rattle.running.proofs.judging.judge.Goals as goal

pub returns-in_err-text : goal.returns-in_err-text
returns-in_err-text g c =
    let s = surface (g.S.Plane.means c.args.space.now) (g.S.Space.count c.args.space.now) (g.S.Space.tied c.args.space.now) in
    let p = err_from_is_err_and c.from_residual.result c.from_residual.ensures.1 in
    rw (p.1, p.2) (unread s c.args.rule.now c.args.name.now (g.R.Read.remaining c.args.input.now) (g.W.Write.contents c.args.output.now) c.in_err-text.field-0.0 c.in_err-text.ensures.fault)

pub returns-in_default : goal.returns-in_default
returns-in_default g c =
    let s = surface (g.S.Plane.means c.args.space.now) (g.S.Space.count c.args.space.now) (g.S.Space.tied c.args.space.now) in
    unjudged s c.args.rule.now c.args.name.now (g.R.Read.remaining c.args.input.now) (g.W.Write.contents c.args.output.now) (λ v. v.items) c.in_ok-text.text.items c.in_ok-text.ensures.text c.check-answer.result
    (subst (λ text. MatchResult c.check-answer.result (λ v. checked s c.args.rule.now text ≡ Ok v.items) (Refuses (checked s c.args.rule.now text))) c.as_slice.ensures.value c.check-answer.ensures.value) (sym c.in_default.ensures) _

pub returns : goal.returns
returns g c =
    let s = surface (g.S.Plane.means c.args.space.now) (g.S.Space.count c.args.space.now) (g.S.Space.tied c.args.space.now) in
    let rule = c.args.rule.now in
    let verdict = c.in-Some.verdict in
    let told = same_verdict s rule c.args.name.now (g.R.Read.remaining c.args.input.now) (g.W.Write.contents c.args.output.now) (λ v. v.items) (checked s rule c.as_slice.result.now) c.check-answer.result verdict c.check-answer.ensures.value (sym c.in-Some.ensures) in
    judged s rule c.args.name.now (g.R.Read.remaining c.args.input.now) (g.W.Write.contents c.args.output.now) c.in_ok-text.text.items (verdict_line c.args.name.now verdict) c.in_ok-text.ensures.text verdict
    (ap (λ text. verdict_of (checked s rule text)) (sym c.as_slice.ensures.value) ∙ told) refl c.write_verdict.result _ c.write_verdict.ensures
