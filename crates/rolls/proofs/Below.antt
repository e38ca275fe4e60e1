-- A test of each number below another, which computes.
use Rattle.std.proofs.Common.{◌≡◌, ℕ, zero, suc, ◌<◌, Bool, true, ◌&&◌, inl, inr, arith}
use Rattle.std.proofs.lemmas.Bool.{and_parts, cases_order}

-- whether a test passes at each number below n
unfoldable pub all_below : ℕ → (ℕ → Bool) → Bool
all_below zero p = true
all_below (suc n) p = p n && all_below n p

pub all_below_each : (n : ℕ) (p : ℕ → Bool) → all_below n p ≡ true → (k : ℕ) → k < n → p k ≡ true
unfolding all_below
all_below_each zero p e k h = absurd (omega arith)
all_below_each (suc n) p e k h =
    let parts = and_parts (p n) (all_below n p) e in
    elim (cases_order k n) [ inl same ↦ rw same parts.0 | inr (inl less) ↦ all_below_each n p parts.1 k less | inr (inr more) ↦ absurd (omega arith) ]
