-- Each call of the reader is one item of what is told; only its runs are kept.
use Rattle.std.proofs.Common.{◌≡◌, ◌+◌, ◌-◌, length, Ok, Err, sym, ap, ◌∙◌, refl, arith}
use Rattle.reader.specs.Calls.{readable, standing}
use Rattle.reader.specs.Shown.{shown_item}
use Rattle.patterns.specs.Told.{blank, runs_after, runs_in, told_on, with_item}
use Rattle.patterns.proofs.Telling.{called, goes_on, seen, over_now, none_left, runs_more}
use Rattle.patterns.proofs.pattern.Pattern.runs.Goals as goal

pub loop-init : goal.loop-init
loop-init c =
    let text = c.args.self.now.text.now in
    let none : length text + 1 - 0 ≡ length text + 1 = omega arith in
    record { before = blank; read = c.new-reader.ensures.whole; gathered = sym c.new-runs.ensures.items; told = (λ i. told_on (none i) (readable text) (c.new-reader.ensures.stands i) blank) }

pub loop-preserved : goal.loop-preserved
loop-preserved c =
    let text = c.args.self.now.text.now in
    let before = c.loop.invariant in
    let l = c.in-Ok.located in
    let t = before.before in
    let next = told_on (length text + 1 - (c.loop.counter + 1)) (readable text) (standing c.next_item.new.self) in
    let now = called text t c.loop.reader c.next_item.new.self (Ok l) c.loop.counter c.loop-test.true c.in-Ok.ensures before.read before.told in
    record {
      before = with_item t l.line (shown_item l.item);
      read = c.in-Ok.ensures.text ∙ before.read;
      gathered = runs_more t l.line (shown_item l.item) ∙ ap (λ z. runs_after z (shown_item l.item)) before.gathered ∙ sym c.in_ok-gather.ensures;
      told = sym (goes_on t next l.line (seen l) l.item refl refl c.in_default-item.not-End) ∙ now;
    }

pub returns-in_default : goal.returns-in_default
returns-in_default c =
    let text = c.args.self.now.text.now in
    let before = c.loop.invariant in
    let now = called text before.before c.loop.reader c.next_item.new.self (Err c.in_default.field-0) c.loop.counter c.loop-test.true c.in_default.ensures before.read before.told in
    c.new.ensures.items ∙ ap runs_in now

pub returns-in-End : goal.returns-in-End
returns-in-End c =
    let text = c.args.self.now.text.now in
    let before = c.loop.invariant in
    let l = c.in-Ok.located in
    let t = before.before in
    let next = told_on (length text + 1 - (c.loop.counter + 1)) (readable text) (standing c.next_item.new.self) in
    let now = called text t c.loop.reader c.next_item.new.self (Ok l) c.loop.counter c.loop-test.true c.in-Ok.ensures before.read before.told in
    sym before.gathered ∙ ap runs_in (sym (over_now t next (seen l) l.item c.in-End.is) ∙ now)

pub returns : goal.returns
returns c =
    let before = c.loop.invariant in
    sym before.gathered ∙ ap runs_in (sym (none_left _ _ _ _ before.before c.loop-test.false) ∙ before.told)
