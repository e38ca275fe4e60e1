use Rattle.std.proofs.Common.{◌≡◌, ℕ, ◌<◌, ◌≤◌, List, [], ◌∷◌, length, get_or, Option, sym, subst, arith, rules}
use Rattle.std.specs.Str.Parse.{ParsesUnsigned}
use Rattle.std.proofs.lemmas.List.{get_or_past}
use Rattle.numbers.specs.Reading.{Reads}
use Rattle.numbers.proofs.Rows.{never_longer, never_plus, never_zero_first, never_other, parsed_reads}
use Rattle.numbers.proofs.reading.read_decimal.Goals as goal
use Rattle.numbers.proofs.reading.read_decimal.Goals.{then-digits-lt1, else-digits-lt1+then-digits-lt2+in_default-1, else-digits-lt1+else-digits-lt2+in_default-1}

some : (bs : List ℕ) → get_or bs 0 0 ≡ 48 → 1 ≤ length bs
some [] e = absurd (omega arith)
some (b ∷ bs) e = omega arith

pub returns-then-digits-gt-MOST_DIGITS : goal.returns-then-digits-gt-MOST_DIGITS
returns-then-digits-gt-MOST_DIGITS c = never_longer c.args.digits.now c.if-digits-gt-MOST_DIGITS.true

pub returns-in-43 : goal.returns-in-43
returns-in-43 c = never_plus c.args.digits.now (omega arith)

pub returns-in-43-2 : goal.returns-in-43-2
returns-in-43-2 c = never_plus c.args.digits.now (omega arith)

pub returns-in-43-3 : goal.returns-in-43-3
returns-in-43-3 c = never_zero_first c.args.digits.now (omega arith) (omega arith)

pub returns-in_err-ok : goal.returns-in_err-ok
returns-in_err-ok c =
    let P : Option ℕ → Type 0 = Reads c.args.digits.now in
    subst P (sym c.from_residual.ensures) (never_other c.args.digits.now (λ text. search rules))

pub returns : goal.returns
returns c =
    let bs = c.args.digits.now in
    let text = c.in_ok-ok.field-0.now in
    let plus : get_or bs 0 0 ≡ 43 → ⊥ = λ e.
    elim c.if-digits-lt1.branch [
      | then-digits-lt1 w ↦ let short : length bs < 1 = search rules in omega (arith, get_or_past bs 0 0)
      | else-digits-lt1+then-digits-lt2+in_default-1 w ↦ omega (arith, get_or_past bs 0 0)
      | else-digits-lt1+else-digits-lt2+in_default-1 w ↦ omega (arith, get_or_past bs 0 0)
    ] in
    let single : get_or bs 0 0 ≡ 48 → length bs ≡ 1 = λ e.
    elim c.if-digits-lt1.branch [
      | then-digits-lt1 w ↦ let short : length bs < 1 = search rules in omega (arith, some bs e)
      | else-digits-lt1+then-digits-lt2+in_default-1 w ↦ let short : length bs < 2 = search rules in omega (arith, some bs e)
      | else-digits-lt1+else-digits-lt2+in_default-1 w ↦ omega (arith, get_or_past bs 0 0)
    ] in
    let same : text ≡ bs = search rules in
    parsed_reads bs c.parse.result c.ok-2.result plus single (subst (λ t. ParsesUnsigned 64 10 t c.parse.result) same c.parse.ensures.value.0) c.ok-2.ensures.value
