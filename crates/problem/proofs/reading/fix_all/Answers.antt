use Rattle.std.proofs.Common.{rules, ◌≡◌, ◌+◌, ◌∙◌, Err, Result, sym, ap, arith}
use Rattle.problem.specs.Lines.{lines_in, others}
use Rattle.problem.specs.Reading.{fixed_as, from_fixes, go_on, space_said}
use Rattle.problem.specs.declared.fault.ProblemFault.{ProblemFault}
use Rattle.problem.proofs.Fixes.{fixes_told, fixes_end}
use Rattle.problem.proofs.reading.fix_all.Goals as goal

pub returns-in_err-at_line-clause-value : goal.returns-in_err-at_line-clause-value
returns-in_err-at_line-clause-value c =
    let next = space_said c.fix_by.new.space in
    let ls = lines_in c.loop-line.lines.rest.now in
    let is : fixed_as next c.from_residual.result ≡ Err c.in_err-at_line.field-0.0 = search rules in
    let told = fixes_told c.loop-line.place _ next ls _ c.fix_by.result c.at_line.result c.in-Some.ensures.line c.fix_by.ensures.value c.at_line.ensures in
    let fault = ap (λ (t : Result (Unit {0}) ProblemFault). go_on (fixed_as next t) (λ u. from_fixes (c.loop-line.place + 1) u (others ls))) c.in_err-at_line.was in
    is ∙ sym fault ∙ told ∙ c.loop-line.invariant.told

pub loop-line-preserved : goal.loop-line-preserved
loop-line-preserved c =
    let next = space_said c.fix_by.new.space in
    let ls = lines_in c.loop-line.lines.rest.now in
    let told = fixes_told c.loop-line.place _ next ls _ c.fix_by.result c.at_line.result c.in-Some.ensures.line c.fix_by.ensures.value c.at_line.ensures in
    let more = ap (λ (t : Result (Unit {0}) ProblemFault). go_on (fixed_as next t) (λ u. from_fixes (c.loop-line.place + 1) u (others ls))) c.in_ok-at_line.was in
    record {
      low = omega arith;
      few = omega (arith, c.in-Some.ensures.less);
      told = ap (from_fixes (c.loop-line.place + 1) next) c.next_of.ensures.left ∙ sym more ∙ told ∙ c.loop-line.invariant.told;
    }

pub returns-clause-value : goal.returns-clause-value
returns-clause-value c = fixes_end c.loop-line.place _ _ c.in_default.ensures.line ∙ c.loop-line.invariant.told
