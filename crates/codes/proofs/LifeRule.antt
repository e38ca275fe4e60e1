-- The rule whose births are the set 8 and whose survivals the set 12 answers as B3/S23.
use Rattle.std.proofs.Common.{◌≡◌, ℕ, zero, suc, ◌/◌, ◌%◌, ◌^◌, ◌<◌, ◌≤◌, Bool, true, false, cond, ◌&&◌, eqb, map, sym, refl, ap, ◌∙◌, arith}
use mathlib.Core.Path.{fun_ext}
use native.Mathlib.Nat.{pow-le-pow_right}
use Rattle.rules.specs.declared.rule.Rule.{Rule}
use Rattle.rules.specs.Answers.{holds, answer}
use Rattle.std.proofs.lemmas.Bool.{and_parts, and_right, or_from, eqb-true, ne_eqb}
use Rattle.std.proofs.lemmas.Nat.{div_below, pow_pos}
use Rattle.std.proofs.lemmas.List.FromFn.{get_or-map-range_with_len}
use Rattle.std.specs.List.{range_with_len}
use Rattle.codes.specs.Life.{life_answer}
use Rattle.codes.specs.Tables.{code_at, code_in}
use Rattle.codes.proofs.Tables.{table_right}

-- no digit past 3 is in a set below 16
high_digit : (set digit : ℕ) → set < 16 → 3 < digit → holds set digit ≡ false
high_digit set digit l m =
    let p : 2 ^ 4 ≤ 2 ^ digit = pow-le-pow_right {n = 2} (omega arith) {i = 4} {j = digit} (omega arith) in
    let q : set / 2 ^ digit < 1 = div_below set (2 ^ digit) 1 (pow_pos digit) (omega arith) in
    let z : set / 2 ^ digit ≡ 0 = omega arith in
    ap (λ (quotient : ℕ). eqb (quotient % 2) 1) z

-- no answer is on past 3
high_sum : (centre : Bool) (sum : ℕ) → 3 < sum → life_answer centre sum ≡ false
high_sum centre sum m =
    let three = ne_eqb sum 3 (λ e. omega arith) in
    let two = ne_eqb sum 2 (λ e. omega arith) in
    or_from (eqb sum 3) (centre && eqb sum 2) three (and_right centre (eqb sum 2) two)

life_sums : (centre : Bool) (sum : ℕ) → cond centre (holds 12 sum) (holds 8 sum) ≡ life_answer centre sum
life_sums false zero = refl
life_sums false (suc zero) = refl
life_sums false (suc (suc zero)) = refl
life_sums false (suc (suc (suc zero))) = refl
life_sums false (suc (suc (suc (suc n)))) = high_digit 8 (suc (suc (suc (suc n)))) (omega arith) (omega arith) ∙ sym (high_sum false (suc (suc (suc (suc n)))) (omega arith))
life_sums true zero = refl
life_sums true (suc zero) = refl
life_sums true (suc (suc zero)) = refl
life_sums true (suc (suc (suc zero))) = refl
life_sums true (suc (suc (suc (suc n)))) = high_digit 12 (suc (suc (suc (suc n)))) (omega arith) (omega arith) ∙ sym (high_sum true (suc (suc (suc (suc n)))) (omega arith))

pub life_answers : (r : Rule) → (eqb r.births 8 && eqb r.survivals 12) ≡ true → answer r ≡ life_answer
life_answers r e =
    let parts = and_parts (eqb r.births 8) (eqb r.survivals 12) e in
    let births = eqb-true r.births 8 parts.0 in
    let survivals = eqb-true r.survivals 12 parts.1 in
    fun_ext (λ centre. fun_ext (λ sum.
    ap (λ (s : ℕ). cond centre (holds s sum) (holds r.births sum)) survivals
    ∙ ap (λ (s : ℕ). cond centre (holds 12 sum) (holds s sum)) births
    ∙ life_sums centre sum))

pub life_table : (i : ℕ) → code_in (record { codes = map (code_at life_answer) (range_with_len 0 729) }) i ≡ code_at life_answer i
life_table = table_right life_answer (map (code_at life_answer) (range_with_len 0 729)) (λ k h. get_or-map-range_with_len (code_at life_answer) 0 729 k k 0 h (omega arith))
