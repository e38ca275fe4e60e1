-- What a remainder comes to: the quotient says by how many times n it differs.
use Rattle.std.proofs.Common.{◌≡◌, ℕ, suc, ◌+◌, ◌-◌, ◌*◌, ◌/◌, ◌%◌, ◌<◌, pos, negsuc, ◌+ℤ◌, ◌*ℤ◌, arith, refl}
use Rattle.std.proofs.lemmas.Int.{ints}
use Rattle.std.proofs.lemmas.Nat.{div-add-mod', mod_below}
use Rattle.planes.specs.Remainders.{RemaindersStand}

-- a number below 0 lies one more n below its place than its own count has of them
under : (n a q r m : ℕ) → r < n → q * n + r ≡ a → m ≡ suc q * n → negsuc a ≡ pos (n - 1 - r) +ℤ negsuc q *ℤ pos n
under n a q r m less e s = omega (arith, ints)

pub remainders_right : RemaindersStand
remainders_right n (pos a) some = record { below = mod_below a n some; times = pos (a / n); apart = let e : a / n * n + a % n ≡ a = div-add-mod' a n in omega (arith, ints) }
remainders_right n (negsuc a) some =
    let less : a % n < n = mod_below a n some in
    record {
      below = omega arith;
      times = negsuc (a / n);
      apart = under n a (a / n) (a % n) _ less (div-add-mod' a n) refl;
    }
