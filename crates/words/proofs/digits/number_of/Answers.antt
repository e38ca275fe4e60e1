use Rattle.std.proofs.Common.{sym, arith, ◌∙◌}
use Rattle.words.proofs.Numbers.{number_read, number_large, number_none}
use Rattle.words.proofs.digits.number_of.Goals as goal

pub returns-in_err-n : goal.returns-in_err-n
returns-in_err-n c = c.from_residual.ensures ∙ sym (number_none c.args.word.now c.in_err-n.ensures)

pub returns-then-n-gt9999 : goal.returns-then-n-gt9999
returns-then-n-gt9999 c = sym (number_large c.args.word.now c.in_ok-n.n (omega arith) c.in_ok-n.ensures c.if-n-gt9999.true)

pub returns : goal.returns
returns c = sym (number_read c.args.word.now c.in_ok-n.n c.in_ok-n.ensures c.if-n-gt9999.false)
