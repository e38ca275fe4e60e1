-- Counting the looks that are on, one by one.
use Rattle.std.proofs.Common.{◌≡◌, ℕ, zero, suc, ◌+◌, ◌<◌, Bool, true, false, cond, List, [], ◌∷◌, length, get_or, drop, ℤ, pos, negsuc, ◌+ℤ◌, ◌≤ℤ◌, sym, ap, ◌∙◌, refl, add-one, arith, drop-cons}
use Rattle.std.proofs.lemmas.Bool.{both_ways}
use Rattle.planes.specs.declared.neighbours.Offset.{Offset}
use Rattle.rolls.specs.Rolls.{Surface, value, total, around}

-- one look more
pub total_more : (s : Surface) (f : List Bool) (t : ℕ) (x y : ℤ) (os : List Offset) (d : Offset) (i : ℕ) → i < length os → total s f t x y (drop i os) ≡ cond (value s f t (x +ℤ (get_or os i d).dx) (y +ℤ (get_or os i d).dy)) 1 0 + total s f t x y (drop (i + 1) os)
total_more s f t x y os d i h = ap (total s f t x y) (drop-cons os i d h) ∙ ap (λ n. cond (value s f t (x +ℤ (get_or os i d).dx) (y +ℤ (get_or os i d).dy)) 1 0 + total s f t x y (drop n os)) (sym (add-one i))

-- what is counted with one look more
pub counted_more : (s : Surface) (f : List Bool) (t : ℕ) (x y : ℤ) (os : List Offset) (d : Offset) (i old new all : ℕ) (b : Bool) → i < length os → b ≡ value s f t (x +ℤ (get_or os i d).dx) (y +ℤ (get_or os i d).dy) → new ≡ cond b 1 0 + old → old + total s f t x y (drop i os) ≡ all → new + total s f t x y (drop (i + 1) os) ≡ all
counted_more s f t x y os d i old new all b h seen step before =
    let more = total_more s f t x y os d i h in
    let same : cond b 1 0 ≡ cond (value s f t (x +ℤ (get_or os i d).dx) (y +ℤ (get_or os i d).dy)) 1 0 = ap (λ v. let n : ℕ = cond v 1 0 in n) seen in
    omega (arith, more, same, step, before)

-- one more where a look is on, and none where it is off
pub on_step : (old new : ℕ) (b : Bool) → b ≡ true → new ≡ old + 1 → new ≡ cond b 1 0 + old
on_step old new true e step = omega arith
on_step old new false e step = absurd (both_ways false refl e)

pub off_step : (old new : ℕ) (b : Bool) → b ≡ false → new ≡ old → new ≡ cond b 1 0 + old
off_step old new false e step = omega arith
off_step old new true e step = absurd (both_ways true e refl)

-- a neighbour lies at most one column and one row from its centre
abbrev pub Beside : Offset → Type 0
Beside o = (negsuc 0 ≤ℤ o.dx) × (o.dx ≤ℤ pos 1) × (negsuc 0 ≤ℤ o.dy) × (o.dy ≤ℤ pos 1)

Each : (Offset → Type 0) → List Offset → Type 0
Each P [] = Unit {0}
Each P (o ∷ os) = P o × Each P os

each_at : (P : Offset → Type 0) (d : Offset) → P d → (os : List Offset) → Each P os → (i : ℕ) → P (get_or os i d)
unfolding Each
each_at P d h [] e i = h
each_at P d h (o ∷ os) e zero = e.0
each_at P d h (o ∷ os) e (suc i) = each_at P d h os e.1 i

pub beside : (i : ℕ) → Beside (get_or around i (record { dx = pos 0; dy = pos 0 }))
unfolding Each
beside i =
    each_at Beside (record { dx = pos 0; dy = pos 0 }) (record { le = tt }, record { le = tt }, record { le = tt }, record { le = tt }) around ((record { le = tt }, record { le = tt }, record { le = tt }, record { le = tt }), ((record { le = tt }, record { le = tt }, record { le = tt }, record { le = tt }), ((record { le = tt }, record { le = tt }, record { le = tt }, record { le = tt }), ((record { le = tt }, record { le = tt }, record { le = tt }, record { le = tt }), ((record { le = tt }, record { le = tt }, record { le = tt }, record { le = tt }), ((record { le = tt }, record { le = tt }, record { le = tt }, record { le = tt }), ((record { le = tt }, record { le = tt }, record { le = tt }, record { le = tt }), ((record { le = tt }, record { le = tt }, record { le = tt }, record { le = tt }), tt)))))))) i
