use Rattle.std.proofs.Common.{◌-◌, sym, ap, ◌∙◌, arith}
use Rattle.rle.specs.Scans.{digits_on}
use Rattle.reader.specs.Left.{left}
use Rattle.reader.proofs.Numerals.{digits_over, digits_over_four, digits_next, digits_last, grown, small}
use Rattle.reader.proofs.reader.Reader.digits.Goals as goal

pub longer-requires : goal.longer-requires
longer-requires c = small c.loop.number c.loop.counter c.loop.invariant.2 (omega arith)

pub longer-requires-2 : goal.longer-requires-2
longer-requires-2 c = small c.loop.number c.loop.counter c.loop.invariant.2 (omega arith)

pub returns-in_default : goal.returns-in_default
returns-in_default c =
    let inv = c.loop.invariant in
    record { text = inv.0; told = digits_over (4 - c.loop.counter) c.loop.number (left c.loop.self) (sym c.in_default.ensures) ∙ inv.1 }

pub loop-preserved : goal.loop-preserved
loop-preserved c =
    let t = left c.loop.self in
    let inv = c.loop.invariant in
    let n = c.loop.number in
    let m = c.in-Some.longer in (
      c.advance.ensures.text ∙ inv.0,
      ap (digits_on _ m) c.advance.ensures.over ∙ digits_next c.loop.counter n m t c.loop-test.true (sym c.in-Some.ensures) ∙ inv.1,
      grown n m c.loop.counter t (sym c.in-Some.ensures) inv.2,
    )

pub returns-in-Some-longer : goal.returns-in-Some-longer
returns-in-Some-longer c =
    let t = left c.loop.self in
    record { text = c.loop.invariant.0; told = digits_over_four c.loop.number _ t (sym c.in-Some-longer.ensures) ∙ digits_last c.loop.counter c.loop.number t c.loop-test.false ∙ c.loop.invariant.1 }

pub returns-in-None : goal.returns-in-None
returns-in-None c =
    let t = left c.loop.self in
    record { text = c.loop.invariant.0; told = digits_over 0 c.loop.number t (sym c.in-None.ensures) ∙ digits_last c.loop.counter c.loop.number t c.loop-test.false ∙ c.loop.invariant.1 }
