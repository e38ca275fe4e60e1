use Rattle.std.proofs.Common.{length, ap, arith}
use Rattle.std.proofs.lemmas.Fmt.{decimal_nonempty, length-decimal-le}
use Rattle.numbers.proofs.writing.decimal_len.Goals as goal

pub returns-clause-bounds : goal.returns-clause-bounds
returns-clause-bounds c =
    let is = ap length c.format.ensures.text in
    let some = decimal_nonempty c.args.n (omega arith) in
    let most = length-decimal-le 20 c.args.n (omega arith) (omega arith) (omega arith) in
    (omega arith, omega arith)
