use Rattle.std.proofs.Common.{◌≡◌, ℕ, suc, subst, add-one, arith}
use Rattle.rules.specs.Answers.{answer}
use Rattle.codes.specs.Codes.{parts_of, fitting_of}
use Rattle.codes.specs.Commons.{common_of}
use Rattle.codes.proofs.common.Common.of.Goals as goal

pub loop-more-preserved : goal.loop-more-preserved
loop-more-preserved c = rw add-one (c.with-common-in-loop-more.ensures _ (c.with-common.ensures _ c.loop-more.invariant))

pub returns : goal.returns
returns c =
    let rule = answer c.args.rule.now in
    let d = parts_of c.args.descriptor.now in
    let all : c.loop-more.more ≡ suc d.unknown = omega arith in
    subst (λ (n : ℕ). c.loop-more.common ≡ common_of rule d (fitting_of rule d n)) all c.loop-more.invariant
