use Rattle.std.proofs.Common.{◌≡◌, ℕ, ◌+◌, Bool, cond, List, [], ◌∷◌, Some, sym, ◌∙◌, rules}
use Rattle.std.specs.Prelude.{nat_lt}
use Rattle.rules.specs.Answers.{answer}
use Rattle.codes.specs.declared.common.Common.{Common}
use Rattle.codes.specs.Codes.{Parts, Pair, parts_of, is_unknown, fitting, code_by}
use Rattle.codes.specs.Commons.{common_of}
use Rattle.codes.proofs.Completions.{coded}
use Rattle.codes.proofs.coding.code_of.Goals as goal

-- what pairs have in common, weighed, is their code
weighed : (rule : Bool → ℕ → Bool) (d : Parts) (ps : List Pair) (found : Common) → common_of rule d ps ≡ Some found → (l m n : ℕ)
    → l ≡ cond (is_unknown d.centre) (cond found.centre.off 2 0 + cond found.centre.on 4 0) 0
    → m ≡ cond (is_unknown d.successor) (cond found.successor.off 8 0 + cond found.successor.on 16 0) 0
    → n ≡ cond (nat_lt 0 d.unknown) (cond found.neighbours.off 32 0 + cond found.neighbours.on 64 0) 0
    → l + m + n ≡ code_by rule d ps
weighed rule d [] found is l m n centre successor neighbours = search rules
weighed rule d (p ∷ ps) found is l m n centre successor neighbours = search rules

pub returns-in_default-clause-tells : goal.returns-in_default-clause-tells
returns-in_default-clause-tells c = coded _ _ _ (search rules)

pub returns : goal.returns
returns c =
    let rule = answer c.args.rule.now in
    let descriptor = c.args.descriptor.now in
    let d = parts_of descriptor in
    let is = weighed rule d (fitting rule d) c.in-Some.common (sym c.of.ensures ∙ c.in-Some.is) _ _ _ (search rules) (search rules) (search rules) in
    record { value = is; tells = coded rule d _ is; few = descriptor.few }
