use Rattle.std.proofs.Common.{◌≡◌, ℕ, List, [], ◌∷◌, ◌++◌, length, sym, ap, ◌∙◌, subst, append_assoc, arith, length-append}
use Rattle.pages.specs.Pages.{Placed}
use Rattle.rle.specs.Texts.{run_text, body_text}
use Rattle.texts.specs.Marks.{left}
use Rattle.texts.proofs.Groups.{body_more, body_length_more}
use Rattle.texts.proofs.Puts.{placed_then, put_next}
use Rattle.texts.proofs.body.write_body.Goals as goal

pub put_run-end-requires : goal.put_run-end-requires
put_run-end-requires c =
    let told = c.in-Some.ensures.steps in
    let done = c.loop-run.invariant.0 in
    let rest = left c.loop-run.run-iterator in
    omega (arith, body_length_more rest (left c.next.new.self) c.in-Some.run' told.0 told.1 told.2, length-append done (body_text rest), ap length c.loop-run.invariant.2, c.loop-run.invariant.1.0)

pub loop-run-preserved : goal.loop-run-preserved
loop-run-preserved c =
    let told = c.in-Some.ensures.steps in
    let done = c.loop-run.invariant.0 in
    let run = c.in-Some.run' in
    let next = left c.next.new.self in (
      done ++ run_text run,
      placed_then c.args.tail.now c.loop-run.tail c.put_run-end.new.tail done (run_text run) 0 c.loop-run.end c.put_run-end.result (omega arith) c.loop-run.invariant.1 c.put_run-end.ensures,
      append_assoc done (run_text run) (body_text next) ∙ ap (λ l. done ++ l) (sym (body_more (left c.loop-run.run-iterator) next run told.0 told.1 told.2)) ∙ c.loop-run.invariant.2,
    )

pub returns : goal.returns
returns c =
    let old = c.args.tail.now in
    let done = c.loop-run.invariant.0 in
    let whole : done ++ (33 ∷ 10 ∷ []) ≡ body_text (left c.args.runs) = ap (λ ms. done ++ body_text ms) (sym c.in-None.ensures.steps) ∙ c.loop-run.invariant.2 in
    let P : List ℕ → Type 0 = λ text. Placed old 0 text c.put.new.page c.put.result in
    subst P whole (put_next old c.loop-run.tail c.put.new.page done (33 ∷ 10 ∷ []) 0 c.loop-run.end c.put.result (omega (arith, ap length whole)) c.loop-run.invariant.1 c.put.ensures)
