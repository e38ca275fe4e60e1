-- On which side of a state a filling lies, move by move.
use Rattle.std.proofs.Common.{ℕ, ◌≤◌, Bool, true, false, List, [], ◌∷◌, ◌++◌, get_or, arith}
use Rattle.histories.specs.Searches.{Decision, sets, AllOn, no_more, one_on, Turns, last_off, later, side_at, side, bit}

side_at_le : (a b : Bool) (s : ℕ) → s ≤ 2 → side_at a b s ≤ 2
side_at_le true true s h = h
side_at_le false false s h = h
side_at_le false true s h = omega arith
side_at_le true false s h = omega arith

pub side_le : (f : List Bool) (ds : List Decision) → side f ds ≤ 2
side_le f [] = omega arith
side_le f (sets x b ∷ ds) = side_at_le (get_or f x false) b (side f ds) (side_le f ds)

on_side_at : (a : Bool) (s : ℕ) → s ≤ 1 → side_at a true s ≤ 1
on_side_at true s h = h
on_side_at false s h = omega arith

pub on_side : (f : List Bool) {ds : List Decision} → AllOn ds → side f ds ≤ 1
on_side f no_more = omega arith
on_side f (one_on {x} {ds} a) = on_side_at (get_or f x false) (side f ds) (on_side f a)

last_side_at : (a : Bool) (s : ℕ) → s ≤ 1 → (side_at a false s ≤ 1 → side_at a true 1 ≤ 0) × (side_at a true 1 ≤ 0 → side_at a false s ≤ 1)
last_side_at true s h = omega arith
last_side_at false s h = omega arith

later_side_at : (a b : Bool) (s t : ℕ) → (s ≤ 1 → t ≤ 0) × (t ≤ 0 → s ≤ 1) → (side_at a b s ≤ 1 → side_at a b t ≤ 0) × (side_at a b t ≤ 0 → side_at a b s ≤ 1)
later_side_at true true s t h = h
later_side_at false false s t h = h
later_side_at false true s t h = omega arith
later_side_at true false s t h = omega arith

pub turn_side : (f : List Bool) {ds ds' : List Decision} → Turns ds ds' → (side f ds ≤ 1 → side f ds' ≤ 0) × (side f ds' ≤ 0 → side f ds ≤ 1)
turn_side f (last_off {x} {ds} a) = last_side_at (get_or f x false) (side f ds) (on_side f a)
turn_side f (later {d = sets x b} {ds} {ds'} t) = later_side_at (get_or f x false) b (side f ds) (side f ds') (turn_side f t)

push_side_at : (a b : Bool) (s t : ℕ) → (s ≤ 0 → t ≤ 0) × (t ≤ 0 → s ≤ 0) → (side_at a b s ≤ 0 → side_at a b t ≤ 0) × (side_at a b t ≤ 0 → side_at a b s ≤ 0)
push_side_at true true s t h = h
push_side_at false false s t h = h
push_side_at false true s t h = omega arith
push_side_at true false s t h = omega arith

end_side_at : (a : Bool) → (1 ≤ 0 → side_at a false 1 ≤ 0) × (side_at a false 1 ≤ 0 → 1 ≤ 0)
end_side_at true = omega arith
end_side_at false = omega arith

pub push_side : (f : List Bool) (ds : List Decision) (x : ℕ) → (side f ds ≤ 0 → side f (ds ++ sets x false ∷ []) ≤ 0) × (side f (ds ++ sets x false ∷ []) ≤ 0 → side f ds ≤ 0)
push_side f [] x = end_side_at (get_or f x false)
push_side f (sets y b ∷ ds) x = push_side_at (get_or f y false) b (side f ds) (side f (ds ++ sets x false ∷ [])) (push_side f ds x)

pub bit_le : (b : Bool) → bit b ≤ 1
bit_le true = omega arith
bit_le false = omega arith
