-- What holds at each place of a list below one that is set.
use Rattle.std.proofs.Common.{ℕ, ◌+◌, ◌<◌, ◌≢◌, List, length, get_or, set, arith, get_or-set_other, get_or-set_same, below_more}

-- the places below i, then the one at i, which is set
pub set_more : (P : ℕ → Type 0) (xs : List ℕ) (i v : ℕ) → i < length xs → ((k : ℕ) → k < i → P (get_or xs k 0)) → P v → (k : ℕ) → k < i + 1 → P (get_or (set xs i v) k 0)
set_more P xs i v h old here =
    below_more (λ k. P (get_or (set xs i v) k 0)) i (λ k l. let ne : k ≢ i = omega arith in rw get_or-set_other (old k l)) (rw get_or-set_same here)
