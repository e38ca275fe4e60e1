use Rattle.std.proofs.Common.{◌≡◌, ◌+◌, drop, rules, subst, sym}
use Rattle.std.proofs.lemmas.List.{take_rest}
use Rattle.lines.specs.Ends.{LineEnd}
use Rattle.lines.specs.Lines.{line_length}
use Rattle.lines.proofs.Ends.{ends_from, line_past}
use Rattle.lines.proofs.lines.line_end.Goals as goal

pub returns-clause-value : goal.returns-clause-value
returns-clause-value c =
    let past = line_past c.args.text.now c.args.at in
    let rest = take_rest c.args.text.now c.args.at in
    search rules

pub returns-clause-ends : goal.returns-clause-ends
returns-clause-ends c =
    let past = line_past c.args.text.now c.args.at in
    let rest = take_rest c.args.text.now c.args.at in
    let value : c.map_or.result ≡ c.args.at + line_length (drop c.args.at c.args.text.now) = search rules in
    subst (λ end. LineEnd c.args.text.now c.args.at end) (sym value) (ends_from c.args.text.now c.args.at)
