use Rattle.std.proofs.Common.{sym, ◌∙◌, arith}
use Rattle.reader.specs.Left.{left}
use Rattle.reader.proofs.Numerals.{numeral_digits}
use Rattle.reader.proofs.reader.Reader.numeral.Goals as goal

pub returns-in-49-to-57 : goal.returns-in-49-to-57
returns-in-49-to-57 c =
    let told = c.digits.ensures in
    record { text = told.text; told = told.told ∙ numeral_digits (left c.args.self.now) _ (sym c.in_ok-next_byte.ensures) (omega arith) (omega arith) }
