use Rattle.std.proofs.Common.{◌≡◌, ℕ, Bool, sym, ap, ◌∙◌}
use Rattle.rules.specs.Answers.{answer}
use Rattle.codes.specs.Tables.{code_at, code_in}
use Rattle.codes.proofs.Completions.{table_tells}
use Rattle.codes.proofs.LifeRule.{life_answers}
use Rattle.codes.proofs.table.Table.of.Goals as goal

pub returns-then-is_life : goal.returns-then-is_life
returns-then-is_life c =
    let rule = answer c.args.rule.now in
    let same = life_answers c.args.rule.now (sym c.if-is_life.ensures) in
    let codes : (i : ℕ) → code_in c.life_table.result i ≡ code_at rule i =
    λ i. c.life_table.ensures i ∙ ap (λ (other : Bool → ℕ → Bool). code_at other i) (sym same) in
    record { codes = codes; tell = table_tells rule c.life_table.result codes }

pub returns-clause-tell : goal.returns-clause-tell
returns-clause-tell c = table_tells _ _ c.worked_out.ensures
