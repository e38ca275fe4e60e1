use Rattle.std.proofs.Common.{ℕ, [], ◌∷◌, ◌++◌, length, subst, ap, arith, length-append}
use Rattle.pages.specs.Pages.{Placed}
use Rattle.rle.specs.Texts.{count_text}
use Rattle.texts.proofs.Puts.{counted_one, counted_more, put_next}
use Rattle.texts.proofs.body.put_run.Goals.{then-run-eq1, else-run-eq1}
use Rattle.texts.proofs.body.put_run.Goals as goal

pub returns : goal.returns
returns c =
    let old = c.args.tail.now in
    let at = c.args.at in
    let count = c.args.run.count in
    let letter = c.from.result in
    let long = length-append (count_text count) (letter ∷ []) in
    let is = ap (λ b. length (count_text count ++ (b ∷ []))) c.from.ensures in
    let counted : Placed old at (count_text count) c.if-run-eq1.tail c.if-run-eq1.after_count =
    elim c.if-run-eq1.branch [
      | then-run-eq1 w ↦ counted_one count old _ at _ w.if-run-eq1.true w.tail-is w.after_count-is
      | else-run-eq1 w ↦ counted_more count old _ _ at _ _ w.if-run-eq1.false (omega (arith, is)) w.put_number-after_count.ensures w.tail-is w.after_count-is
    ] in
    let P : ℕ → Type 0 = λ b. Placed old at (count_text count ++ (b ∷ [])) c.put.new.page c.put.result in
    subst P c.from.ensures (put_next old _ c.put.new.page (count_text count) (letter ∷ []) at _ c.put.result (omega (arith, is)) counted c.put.ensures)
