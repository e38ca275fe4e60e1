use Rattle.std.proofs.Common.{◌≡◌, false, sym, arith}
use Rattle.std.proofs.lemmas.Bool.{cond_both}
use Rattle.rules.specs.Answers.{holds}
use Rattle.rules.proofs.Sets.{none_above}
use Rattle.rules.proofs.rule.Rule.answer.Goals as goal

pub returns-then-sum-gt8 : goal.returns-then-sum-gt8
returns-then-sum-gt8 c =
    let r = c.args.self.now in
    let sum = c.args.sum in
    cond_both c.args.centre (holds r.survivals sum) (holds r.births sum) (λ b. false ≡ b)
    (λ _. sym (none_above r.survivals sum r.few_survivals (omega arith)))
    (λ _. sym (none_above r.births sum r.few_births (omega arith)))
