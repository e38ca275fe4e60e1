use Rattle.std.proofs.Common.{◌+◌, ◌-◌, get_or, sym, ◌∙◌, arith}
use Rattle.std.proofs.lemmas.List.{take_rest}
use Rattle.rules.proofs.Sets.{set_more, set_few}
use Rattle.rules.proofs.Steps.{digit_read, row_ends_low, row_ends_high, text_ends}
use Rattle.rules.proofs.reading.rising_digits.Goals as goal
use Rattle.rules.proofs.reading.rising_digits.Goals.{in_default, in-len1-up+then-byte-least, then-byte-least-via-then-byte-least, then-byte-least-via-else-byte-least+then-byte-gt56}

pub loop-rest-preserved : goal.loop-rest-preserved
loop-rest-preserved c =
    let t = c.loop-rest.rest.now in
    let inv = c.loop-rest.invariant in
    record {
      low = omega arith;
      high = omega arith;
      few = set_more c.loop-rest.set (c.loop-rest.least - 48) (get_or t 0 0 - 48) (get_or t 0 0 + 1 - 48) inv.few (omega arith) (omega arith) (omega arith);
      row = digit_read t _ c.loop-rest.least c.loop-rest.set (omega arith) (take_rest t 1) inv.low (omega arith) (omega arith) ∙ inv.row;
    }

pub returns-clause-few : goal.returns-clause-few
returns-clause-few c = set_few c.loop-rest.set (c.loop-rest.least - 48) c.loop-rest.invariant.few (omega (arith, c.loop-rest.invariant.high))

pub returns-clause-row : goal.returns-clause-row
returns-clause-row c =
    let t = c.loop-rest.rest.now in
    let inv = c.loop-rest.invariant in
    sym inv.row ∙ elim c.if-rest-lt1.branch [
      | in_default w ↦ text_ends t (c.loop-rest.least - 48) c.loop-rest.set (omega arith)
      | in-len1-up+then-byte-least w ↦
          elim w.then-byte-least.branch [
            | then-byte-least-via-then-byte-least v ↦ row_ends_low t c.loop-rest.least c.loop-rest.set (omega arith) inv.low (omega arith)
            | then-byte-least-via-else-byte-least+then-byte-gt56 v ↦ row_ends_high t c.loop-rest.least c.loop-rest.set (omega arith) (omega arith)
          ]
    ]
