-- How long the text of a find is at most, and the last line.
use Rattle.std.proofs.Common.{◌≡◌, ℕ, ◌+◌, ◌/◌, ◌%◌, ◌^◌, ◌≤◌, Bool, List, [], ◌∷◌, length, ap, arith}
use Rattle.std.specs.List.{range_with_len, flat_map}
use Rattle.std.proofs.Math.Nat.{div-one}
use Rattle.std.proofs.lemmas.Fmt.{length-decimal-le}
use Rattle.std.proofs.lemmas.List.{length-append}
use Rattle.std.proofs.lemmas.Bool.{cond-false, cond_both, ne_eqb}
use Rattle.rules.specs.Answers.{holds}
use Rattle.rules.specs.Forms.{digit_in, digits_below, written}
use Rattle.rules.specs.declared.rule.Rule.{Rule}
use Rattle.rolls.specs.Rolls.{Surface}
use Rattle.rle.proofs.Written.{named_short}
use Rattle.printing.specs.Printed.{found_line}
use Rattle.calls.specs.Ledgers.{tally_of, text_in}
use Rattle.listing.specs.Handing.{text_room}

-- ---- a rule without birth among 0 has at most 20 letters
digit_short : (set d : ℕ) → length (digit_in set d) ≤ 1
digit_short set d = cond_both (holds set d) ((48 + d) ∷ []) [] (λ x. length x ≤ 1) (λ e. omega arith) (λ e. omega arith)

digits_short : (set : ℕ) (ds : List ℕ) → length (flat_map (digit_in set) ds) ≤ length ds
digits_short set [] = omega arith
digits_short set (d ∷ ds) = omega (arith, length-append (digit_in set d) (flat_map (digit_in set) ds), digit_short set d, digits_short set ds)

no_zero : (set : ℕ) → set % 2 ≡ 0 → digit_in set 0 ≡ []
no_zero set e = cond-false (holds set 0) (48 ∷ []) [] (ne_eqb (set / 2 ^ 0 % 2) 1 (λ q. absurd (omega (arith, e, q, ap (λ (n : ℕ). n % 2) (div-one set)))))

births_short : (set : ℕ) → set % 2 ≡ 0 → length (digits_below 9 set) ≤ 8
unfolding digits_below
births_short set e = omega (arith, ap length (no_zero set e), length-append (digit_in set 0) (flat_map (digit_in set) (range_with_len 1 8)), digits_short set (range_with_len 1 8))

survivals_short : (set : ℕ) → length (digits_below 9 set) ≤ 9
unfolding digits_below
survivals_short set = digits_short set (range_with_len 0 9)

rule_short : (births survivals : ℕ) → births % 2 ≡ 0 → length (written births survivals) ≤ 20
unfolding written
rule_short births survivals e = omega (arith, length-append (digits_below 9 births) (47 ∷ 83 ∷ digits_below 9 survivals), births_short births e, survivals_short survivals)

-- ---- the text of a find, and the last line
pub text_fits : (s : Surface) (rule : Rule) (f : List Bool) → length (text_in s rule f) ≤ text_room
text_fits s rule f =
    omega (arith, named_short s.frame.width s.frame.height (written rule.births rule.survivals) f s.frame.narrow s.frame.low, rule_short rule.births rule.survivals rule.quiet)

pub line_fits : (fs : List (List Bool)) → length (found_line (tally_of fs)) ≤ text_room
line_fits fs =
    let n = tally_of fs in
    let d = length-decimal-le 20 n (omega arith) (omega arith) (omega arith) in
    simp length-append (omega arith)
