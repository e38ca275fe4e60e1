-- Each call of the reader is one item of what is told.
use Rattle.std.proofs.Common.{◌≡◌, ◌+◌, ◌-◌, [], length, Ok, Err, sym, ap, ◌∙◌, refl, arith}
use Rattle.reader.specs.Calls.{readable, standing}
use Rattle.reader.specs.Shown.{shown_item}
use Rattle.patterns.specs.Told.{runs_after, shown_with, told_on}
use Rattle.patterns.proofs.Telling.{called, goes_on, tells_fault, shows_told, seen, over_now, none_left}
use Rattle.patterns.proofs.pattern.Pattern.read.Goals as goal

pub loop-init : goal.loop-init
loop-init c =
    let text = c.args.text.now in
    let none : length text + 1 - 0 ≡ length text + 1 = omega arith in
    record { runs = []; read = c.new-reader.ensures.whole; whole = c.blank-pattern.ensures.text; told = (λ i. told_on (none i) (readable text) (c.new-reader.ensures.stands i) (c.blank-pattern.ensures.nothing i)) }

pub loop-preserved : goal.loop-preserved
loop-preserved c =
    let text = c.args.text.now in
    let before = c.loop.invariant in
    let l = c.in_ok-located.located in
    let t = shown_with c.loop.pattern before.runs in
    let next = told_on (length text + 1 - (c.loop.counter + 1)) (readable text) (standing c.next_item.new.self) in
    let now = called text t c.loop.reader c.next_item.new.self (Ok l) c.loop.counter c.loop-test.true c.in_ok-located.ensures before.read before.told in
    record {
      runs = runs_after before.runs (shown_item l.item);
      read = c.in_ok-located.ensures.text ∙ before.read;
      whole = c.take.ensures.text ∙ before.whole;
      told = ap next (c.take.ensures.more before.runs) ∙ sym (goes_on t next l.line (seen l) l.item refl refl c.in_default.not-End) ∙ now;
    }

pub returns-in_err-located : goal.returns-in_err-located
returns-in_err-located c =
    let text = c.args.text.now in
    let before = c.loop.invariant in
    let now = called text (shown_with c.loop.pattern before.runs) c.loop.reader c.next_item.new.self (Err c.in_err-located.field-0.0) c.loop.counter c.loop-test.true c.in_err-located.ensures before.read before.told in
    tells_fault text c.in_err-located.field-0.0 c.from_residual.result (sym now) c.from_residual.ensures.1

pub returns-in-End : goal.returns-in-End
returns-in-End c =
    let text = c.args.text.now in
    let before = c.loop.invariant in
    let l = c.in_ok-located.located in
    let t = shown_with c.loop.pattern before.runs in
    let next = told_on (length text + 1 - (c.loop.counter + 1)) (readable text) (standing c.next_item.new.self) in
    let now = called text t c.loop.reader c.next_item.new.self (Ok l) c.loop.counter c.loop-test.true c.in_ok-located.ensures before.read before.told in
    shows_told text c.loop.pattern before.runs before.whole (sym now ∙ over_now t next (seen l) l.item c.in-End.is)

pub returns : goal.returns
returns c =
    let before = c.loop.invariant in
    shows_told c.args.text.now c.loop.pattern before.runs before.whole (sym before.told ∙ none_left _ _ _ _ _ c.loop-test.false)
