use Rattle.std.proofs.Common.{◌≡◌, false, MatchOption, sym, ap, ◌∙◌, rules}
use Rattle.rle.specs.Scans.{past}
use Rattle.reader.specs.Left.{left, filler, first_of}
use Rattle.reader.proofs.Fronts.{past_on, past_off}
use Rattle.reader.proofs.reader.Reader.skip.Goals as goal

pub loop-gap-preserved : goal.loop-gap-preserved
loop-gap-preserved c =
    let test = filler c.args.gap in
    let t = left c.loop-gap.self in
    let first : MatchOption (first_of t) (c.is_some_and.result ≡ false) (λ b. c.is_some_and.result ≡ test b) = search rules in
    (c.advance.ensures.text ∙ c.loop-gap.invariant.0, ap (past test) c.advance.ensures.over ∙ past_on test t c.is_some_and.result first c.loop-gap-test.true ∙ c.loop-gap.invariant.1)

pub returns : goal.returns
returns c =
    let test = filler c.args.gap in
    let t = left c.loop-gap.self in
    let first : MatchOption (first_of t) (c.is_some_and.result ≡ false) (λ b. c.is_some_and.result ≡ test b) = search rules in
    record { text = c.loop-gap.invariant.0; over = sym (past_off test t c.is_some_and.result first c.loop-gap-test.false) ∙ c.loop-gap.invariant.1 }
