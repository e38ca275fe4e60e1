use Rattle.std.proofs.Common.{◌≡◌, ℕ, ◌+◌, ◌≤◌, List, length, drop, ap, ◌∙◌, arith, length-drop}
use Rattle.lines.specs.Lines.{line_length, first_line}
use Rattle.lines.proofs.Ends.{line_within}
use Rattle.rle.specs.Spots.{Spot, spot_at}
use Rattle.reader.specs.Left.{left}
use Rattle.reader.proofs.Places.{column_bound, length_line, spot_line}
use Rattle.reader.proofs.reader.Reader.line.Goals as goal

-- the line ends in the text
ends : (t line : List ℕ) (i : ℕ) → i ≤ length t → line ≡ first_line (drop i t) → (length line ≡ line_length (drop i t)) × (i + length line ≤ length t)
ends t line i h e =
    let same = ap length e ∙ length_line (drop i t) in
    (same, omega (arith, same, line_within (drop i t), length-drop i t))

pub overflow_add-self-2 : goal.overflow_add-self-2
overflow_add-self-2 c =
    let was = c.args.self.now in
    omega (arith, (ends was.text.now c.line_here-line.result.now was.at was.within c.line_here-line.ensures).1, was.short, column_bound was.text.now was.at, was.columned)

pub invariant_of-self : goal.invariant_of-self
invariant_of-self c =
    let was = c.args.self.now in
    let line = c.line_here-line.result.now in
    let here = ends was.text.now line was.at was.within c.line_here-line.ensures in
    let spot : spot_at was.text.now (was.at + length line) ≡ record { line = (spot_at was.text.now was.at).line; column = (spot_at was.text.now was.at).column + line_length (left was) } =
    ap (λ n. spot_at was.text.now (was.at + n)) here.0 ∙ spot_line was.text.now was.at in
    let column : (spot_at was.text.now (was.at + length line)).column ≡ was.column + length line = omega (arith, ap (λ (s : Spot). s.column) spot, here.0, was.columned) in
    record { short = was.short; within = here.1; lined = ap (λ (s : Spot). s.line) spot ∙ was.lined; columned = column }
