-- The place of decisions, and that each step raises it.
-- Some of these lemmas no proof cites yet; they stay, since nothing else says what they say.
use Rattle.std.proofs.Common.{◌≡◌, ℕ, zero, suc, ◌+◌, ◌^◌, ◌<◌, ◌≤◌, true, false, List, [], ◌∷◌, ◌++◌, length, arith, pow_pos}
use native.Mathlib.Nat.{two-pow-succ}
use Rattle.histories.specs.Searches.{Decision, sets, Turns, last_off, later, index}

pub index_high : (h : ℕ) (ds : List Decision) → length ds ≤ h → 2 + index h ds ≤ 2 ^ suc h
unfolding index
index_high h [] l = omega (arith, two-pow-succ h, pow_pos h)
index_high zero (d ∷ ds) l = absurd (omega arith)
index_high (suc h) (sets x false ∷ ds) l = omega (arith, two-pow-succ (suc h), pow_pos (suc h), index_high h ds (omega arith))
index_high (suc h) (sets x true ∷ ds) l = omega (arith, two-pow-succ (suc h), index_high h ds (omega arith))

pub turn_length : {ds ds' : List Decision} → Turns ds ds' → length ds' ≤ length ds
turn_length (last_off a) = omega arith
turn_length (later t) = omega (arith, turn_length t)

pub index_turn : {ds ds' : List Decision} (h : ℕ) → Turns ds ds' → length ds ≤ h → index h ds < index h ds'
unfolding index
index_turn zero (last_off a) l = absurd (omega arith)
index_turn (suc h) (last_off {ds} a) l = omega (arith, index_high h ds (omega arith))
index_turn zero (later t) l = absurd (omega arith)
index_turn (suc h) (later {d = sets x false} t) l = omega (arith, index_turn h t (omega arith))
index_turn (suc h) (later {d = sets x true} t) l = omega (arith, index_turn h t (omega arith))

pub index_push : (h : ℕ) (ds : List Decision) (x : ℕ) → length ds < h → index h (ds ++ sets x false ∷ []) ≡ suc (index h ds)
unfolding index
index_push zero ds x l = absurd (omega arith)
index_push (suc h) [] x l = omega arith
index_push (suc h) (sets y false ∷ ds) x l = omega (arith, index_push h ds x (omega arith))
index_push (suc h) (sets y true ∷ ds) x l = omega (arith, index_push h ds x (omega arith))
