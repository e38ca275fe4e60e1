use Rattle.std.proofs.Common.{◌≡◌, ◌%◌, sym, ◌∙◌, arith, rules}
use Rattle.std.proofs.lemmas.List.{take_rest}
use Rattle.rules.proofs.Forms.{even_read, odd_read, accepted}
use Rattle.rules.proofs.Steps.{empty_text, other_front, births_read, both_read, births_last, no_slash, no_letter, text_left, text_read}
use Rattle.rules.proofs.rule.Rule.parse.Goals as goal

pub returns-in_default-clause-value : goal.returns-in_default-clause-value
returns-in_default-clause-value c = sym (empty_text c.args.text.now (omega arith))

pub returns-in_default-2-clause-value : goal.returns-in_default-2-clause-value
returns-in_default-2-clause-value c = sym (other_front c.args.text.now (λ e. absurd (omega arith)))

pub returns-in_default-rest-clause-value : goal.returns-in_default-rest-clause-value
returns-in_default-rest-clause-value c =
    let t = c.args.text.now in
    let births = c.rising_digits-births in
    sym (births_read t _ _ _ (omega arith) (omega arith) (take_rest t 1) births.ensures.row ∙ births_last _ births.result.rest.now (omega arith))

pub returns-in_default-rest-2-clause-value : goal.returns-in_default-rest-2-clause-value
returns-in_default-rest-2-clause-value c =
    let t = c.args.text.now in
    let births = c.rising_digits-births in
    sym (births_read t _ _ _ (omega arith) (omega arith) (take_rest t 1) births.ensures.row ∙ no_letter _ births.result.rest.now (omega arith) (λ e. absurd (omega arith)))

pub returns-in_default-rest-3-clause-value : goal.returns-in_default-rest-3-clause-value
returns-in_default-rest-3-clause-value c =
    let t = c.args.text.now in
    let births = c.rising_digits-births in
    sym (births_read t _ _ _ (omega arith) (omega arith) (take_rest t 1) births.ensures.row ∙ no_slash _ births.result.rest.now (omega arith) (λ e. absurd (omega arith)))

pub returns-then-not-is_empty-clause-value : goal.returns-then-not-is_empty-clause-value
returns-then-not-is_empty-clause-value c =
    let t = c.args.text.now in
    let births = c.rising_digits-births in
    let survivals = c.rising_digits-survivals in
    let both = both_read t _ _ _ _ _ _ (omega arith) (omega arith) (take_rest t 1) births.ensures.row (omega arith) (omega arith) (omega arith) (take_rest births.result.rest.now 2) survivals.ensures.row in
    sym (both ∙ text_left _ _ survivals.result.rest.now (search rules))

pub returns-then-births-eq1-clause-value : goal.returns-then-births-eq1-clause-value
returns-then-births-eq1-clause-value c =
    let t = c.args.text.now in
    let births = c.rising_digits-births in
    let survivals = c.rising_digits-survivals in
    let both = both_read t _ _ _ _ _ _ (omega arith) (omega arith) (take_rest t 1) births.ensures.row (omega arith) (omega arith) (omega arith) (take_rest births.result.rest.now 2) survivals.ensures.row in
    sym (both ∙ text_read _ _ survivals.result.rest.now (search rules) ∙ odd_read _ _ c.if-births-eq1.true)

pub returns : goal.returns
returns c =
    let t = c.args.text.now in
    let births = c.rising_digits-births in
    let survivals = c.rising_digits-survivals in
    let both = both_read t _ _ _ _ _ _ (omega arith) (omega arith) (take_rest t 1) births.ensures.row (omega arith) (omega arith) (omega arith) (take_rest births.result.rest.now 2) survivals.ensures.row in
    let even : births.result.set % 2 ≡ 0 = omega arith in
    let whole = both ∙ text_read _ _ survivals.result.rest.now (search rules) ∙ even_read _ _ even in
    record { value = sym whole; form = (accepted t _ _ whole).3 }
