-- Sets of digits as bits: a digit above all that are held adds its power of two.
use Rattle.std.proofs.Common.{◌≡◌, ℕ, ◌+◌, ◌*◌, ◌/◌, ◌%◌, ◌^◌, ◌<◌, ◌≤◌, false, add-one, arith, pow_mono}
use native.Mathlib.Nat.{div-eq_of_lt}
use Rattle.std.proofs.lemmas.Nat.{one_shl}
use Rattle.rules.specs.Answers.{holds}

pub set_grows : (set least d : ℕ) → set < 2 ^ least → least ≤ d → set + 2 ^ d < 2 ^ (d + 1)
set_grows set least d h low =
    let up : 2 ^ least ≤ 2 ^ d = pow_mono low in
    let two : 2 ^ (d + 1) ≡ 2 ^ d + 2 ^ d = rw add-one (omega arith) in
    omega arith

-- the same as the program adds it
pub set_more : (set least d next : ℕ) → set < 2 ^ least → least ≤ d → d ≤ 8 → next ≡ d + 1 → set + (1 * 2 ^ d) % 65536 < 2 ^ next
set_more set least d next h low high e = rw e (rw (one_shl d 16 (omega arith)) (set_grows set least d h low))

pub set_few : (set least : ℕ) → set < 2 ^ least → least ≤ 9 → set < 512
set_few set least h high =
    let up : 2 ^ least ≤ 2 ^ 9 = pow_mono high in
    omega arith

-- a set of digits to 8 holds none above
pub none_above : (set d : ℕ) → set < 512 → 8 < d → holds set d ≡ false
none_above set d h high =
    let up : 2 ^ 9 ≤ 2 ^ d = pow_mono high in
    let gone : set / 2 ^ d ≡ 0 = div-eq_of_lt (omega arith) in
    rw gone
