-- How many values are unknown, as they are set and put back.
use Rattle.std.proofs.Common.{◌≡◌, ℕ, zero, suc, ◌+◌, ◌<◌, ◌≤◌, Bool, true, false, cond, List, [], ◌∷◌, length, get_or, set, refl, ap, ◌∙◌, arith}
use Rattle.codes.specs.declared.value.Value.{Value}
use Rattle.codes.specs.declared.value.Value.TheVariants.{Off, On, Unknown}
use Rattle.codes.specs.Codes.{is_unknown}
use Rattle.codes.specs.Laws.{known}
use Rattle.settling.specs.Counts.{unknowns}

-- off is known
pub off_known : Off ≡ Unknown → ⊥
off_known e = let z : ◌≡◌ {A = ℕ} 0 1 = cc in omega arith

known_counts : (b : Bool) → cond {A = ℕ} (is_unknown (known b)) 1 0 ≡ 0
known_counts true = refl
known_counts false = refl

-- a value that is known, in place of an unknown one, leaves one unknown fewer
pub set_known : (vs : List Value) (i : ℕ) (v : Value) (b : Bool) → i < length vs → get_or vs i Unknown ≡ Unknown → v ≡ known b → unknowns (set vs i v) + 1 ≡ unknowns vs
set_known [] i v b h e k = absurd (omega arith)
set_known (w ∷ vs) zero v b h e k =
    let old : cond (is_unknown w) 1 0 ≡ 1 = ap (λ (u : Value). cond {A = ℕ} (is_unknown u) 1 0) e in
    let new : cond (is_unknown v) 1 0 ≡ 0 = ap (λ (u : Value). cond {A = ℕ} (is_unknown u) 1 0) k ∙ known_counts b in
    omega (arith, old, new)
set_known (w ∷ vs) (suc i) v b h e k = let r = set_known vs i v b (omega arith) e k in omega (arith, r)

-- an unknown value put anywhere leaves at most one unknown more
pub set_unknown : (vs : List Value) (i : ℕ) → unknowns (set vs i Unknown) ≤ unknowns vs + 1
set_unknown [] i = omega arith
set_unknown (w ∷ vs) zero = omega arith
set_unknown (w ∷ vs) (suc i) = let h = set_unknown vs i in omega (arith, h)

pub unknowns_le : (vs : List Value) → unknowns vs ≤ length vs
unknowns_le [] = omega arith
unknowns_le (Off ∷ vs) = let h = unknowns_le vs in omega (arith, h)
unknowns_le (On ∷ vs) = let h = unknowns_le vs in omega (arith, h)
unknowns_le (Unknown ∷ vs) = let h = unknowns_le vs in omega (arith, h)
