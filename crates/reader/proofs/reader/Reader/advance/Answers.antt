use Rattle.std.proofs.Common.{◌+◌, sym, refl, ap, ◌∙◌, arith}
use Rattle.std.proofs.lemmas.List.{drop-drop}
use Rattle.rle.specs.Spots.{Spot}
use Rattle.reader.proofs.Fronts.{first_within, first_at}
use Rattle.reader.proofs.Places.{spot_newline, spot_byte, line_bound, column_bound}
use Rattle.reader.proofs.reader.Reader.advance.Goals as goal

pub overflow_add-self-then-byte-eq10 : goal.overflow_add-self-then-byte-eq10
overflow_add-self-then-byte-eq10 c =
    let was = c.args.self.now in
    omega (arith, line_bound was.text.now was.at, was.lined, was.within, was.short)

pub overflow_add-self-else-byte-eq10 : goal.overflow_add-self-else-byte-eq10
overflow_add-self-else-byte-eq10 c =
    let was = c.args.self.now in
    omega (arith, column_bound was.text.now was.at, was.columned, was.within, was.short)

pub invariant_of-self : goal.invariant_of-self
invariant_of-self c =
    let was = c.args.self.now in
    let here = first_within was.text.now was.at c.in-Some.byte (sym c.in-Some.ensures) in
    let byte = first_at was.text.now was.at c.in-Some.byte (sym c.in-Some.ensures) in
    let spot = spot_newline was.text.now was.at here (omega arith) in record { short = was.short; within = omega arith; lined = ap (λ (s : Spot). s.line) spot ∙ ap (λ n. n + 1) was.lined; columned = ap (λ (s : Spot). s.column) spot }

pub invariant_of-self-else-byte-eq10 : goal.invariant_of-self-else-byte-eq10
invariant_of-self-else-byte-eq10 c =
    let was = c.args.self.now in
    let here = first_within was.text.now was.at c.in-Some.byte (sym c.in-Some.ensures) in
    let byte = first_at was.text.now was.at c.in-Some.byte (sym c.in-Some.ensures) in
    let spot = spot_byte was.text.now was.at here (λ e. c.if-byte-eq10.false (omega arith)) in record { short = was.short; within = omega arith; lined = ap (λ (s : Spot). s.line) spot ∙ was.lined; columned = ap (λ (s : Spot). s.column) spot ∙ ap (λ n. n + 1) was.columned }

pub returns-then-byte-eq10 : goal.returns-then-byte-eq10
returns-then-byte-eq10 c = record { text = refl; over = sym (drop-drop 1 c.args.self.now.at c.args.self.now.text.now) }

pub returns-else-byte-eq10 : goal.returns-else-byte-eq10
returns-else-byte-eq10 c = record { text = refl; over = sym (drop-drop 1 c.args.self.now.at c.args.self.now.text.now) }
