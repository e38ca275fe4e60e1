use Rattle.std.proofs.Common.{◌≡◌, ◌+◌, [], ◌∷◌, ◌++◌, length, ◌∙◌, sym, ap, append-nil, length-append, arith, rules}
use Rattle.rules.specs.Forms.{digits_below}
use Rattle.rules.proofs.Steps.{digit_put, digit_passed}
use Rattle.rules.proofs.writing.push_digits.Goals as goal
use Rattle.rules.proofs.writing.push_digits.Goals.{then-holds_digit, else-holds_digit}

pub loop-digit-init : goal.loop-digit-init
unfolding digits_below
loop-digit-init c = record { digits = sym (append-nil c.args.text.now.bytes); len = omega arith }

pub loop-digit-preserved : goal.loop-digit-preserved
loop-digit-preserved c =
    let front = c.args.text.now.bytes in
    let so_far = c.loop-digit.text.bytes in
    let digit = c.loop-digit.digit in
    let inv = c.loop-digit.invariant in
    elim c.if-holds_digit.branch [
      | then-holds_digit w ↦
          let put = digit_put front so_far digit c.args.set inv.digits (search rules) in
          let more : c.if-holds_digit.text.bytes ≡ so_far ++ (48 + digit) ∷ [] = ap (λ t. t.bytes) w.text-is ∙ w.push.ensures.ascii (omega arith) ∙ ap (λ b. so_far ++ b ∷ []) w.from-then-holds_digit.ensures in
          record { digits = more ∙ put; len = omega (arith, ap length more, length-append so_far ((48 + digit) ∷ [])) }
      | else-holds_digit w ↦
          record { digits = ap (λ t. t.bytes) w.text-is ∙ digit_passed front so_far digit c.args.set inv.digits (search rules); len = omega (arith, ap (λ t. length t.bytes) w.text-is) }
    ]
