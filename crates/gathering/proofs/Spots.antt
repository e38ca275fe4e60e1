-- What a spot's looks come to: the classes of its instance.
use Rattle.std.proofs.Common.{◌≡◌, ℕ, zero, suc, ◌+◌, ◌<◌, ◌≤◌, ◌%◌, ltb, List, map, length, get_or, ℤ, pos, negsuc, ◌≤ℤ◌, ◌+ℤ◌, ◌-ℤ◌, Some, None, Option, MatchOption, sym, ap, ◌∙◌, subst, arith, rules, to_z, of_z, w32}
use denote.Param.Members.{Mut}
use Rattle.std.specs.Fn.{Called}
use Rattle.std.specs.Array.{MapsFrom}
use Rattle.std.specs.Option.{unwrap_or}
use Rattle.std.proofs.lemmas.Bool.{cond-false, le-ltb}
use Rattle.std.proofs.lemmas.Int.{wraps}
use Rattle.std.proofs.lemmas.List.{ext_get_or, get_or-map, get_or_default}
use Rattle.std.proofs.lemmas.Option.{cond_some}
use Rattle.frames.specs.Frames.{number_at}
use Rattle.planes.specs.declared.neighbours.Offset.{Offset}
use Rattle.planes.specs.declared.place.Place.{Place}
use Rattle.rolls.specs.Rolls.{Surface, around}
use Rattle.classes.specs.Numbers.{Numbers}
use Rattle.systems.specs.declared.instance.Instance.{Instance}
use Rattle.systems.specs.Spaces.{class_look, class_next, class_seen, instance_at}
use Rattle.gathering.specs.Rendering.{Beside}

-- the class of a cell, where there is one
labelled : (labels : List ℕ) (m cell d e : ℕ) (o : Option ℕ) → m ≡ length labels → cell < m → MatchOption o (m ≤ cell) (λ class. (class ≡ get_or labels cell 0) × (class < e)) → unwrap_or o d ≡ get_or labels cell d
labelled labels m cell d e None q l h = absurd (omega arith)
labelled labels m cell d e (Some class) q l h = h.0 ∙ get_or_default labels cell 0 d (omega arith)

-- the class of the cell that a look falls on
pub looked : (s : Surface) (n : Numbers) (t : ℕ) (x y : ℤ) (p : Place) (m cell d e : ℕ) (o : Option ℕ) → s.look x y ≡ Some p → number_at s.frame (record { x = p.x; y = p.y; t = t }) ≡ Some cell → m ≡ length n.classes → cell < m → d ≡ length n.lowest →
    MatchOption o (m ≤ cell) (λ class. (class ≡ get_or n.classes cell 0) × (class < e)) → unwrap_or o d ≡ class_look s n t x y
looked s n t x y p m cell d e o look number long l q h =
    labelled n.classes m cell d e o long l h
    ∙ ap (get_or n.classes cell) q
    ∙ ap (λ k. get_or n.classes k (length n.lowest)) (sym (cond_some _ _ _ number).1)
    ∙ ap (class_seen s n t) (sym look)

-- the class of the successor past the last generation
pub next_last : (s : Surface) (n : Numbers) (t : ℕ) (x y : ℤ) → s.frame.period ≤ t + 1 → class_look s n 0 (x -ℤ s.frame.dx) (y -ℤ s.frame.dy) ≡ class_next s n t x y
next_last s n t x y l = sym (cond-false (ltb (t + 1) s.frame.period) _ _ (le-ltb (t + 1) s.frame.period l))

-- what holds of an element and what an array's map made of it, where each call gives that and alters nothing
mapped : {F A B : Type 0} (g : Mut F (A × Unit {0}) B) (f : F) (R : A → B → Type 0) (d : A) → ((x : A) (r : B) (q : F) → Called g f (x, tt) r q → (q ≡ f) × R x r) →
    (xs : List A) (ys : List B) (n i : ℕ) → MapsFrom g f xs ys i n → (k j : ℕ) (e : B) → j ≡ i + k → k < n → R (get_or xs j d) (get_or ys j e)
mapped g f R d step xs ys zero i m k j e q l = absurd (omega arith)
mapped g f R d step xs ys (suc n) i m zero j e q l =
    let here : i ≡ j = omega arith in
    let told = step m.1 m.2 m.0 m.5 in
    subst (λ (v : ℕ). R (get_or xs v d) (get_or ys v e)) here (subst (λ v. R v (get_or ys i e)) (sym (m.3.1 d)) (subst (R m.1) (sym (m.4.1 e)) told.1))
mapped g f R d step xs ys (suc n) i m (suc k) j e q l =
    let told = step m.1 m.2 m.0 m.5 in
    let rest : MapsFrom g f xs ys (i + 1) n = subst (λ v. MapsFrom g v xs ys (i + 1) n) told.0 m.6 in
    mapped g f R d step xs ys n (i + 1) rest k j e (omega arith) (omega arith)

-- each neighbour lies one place off at most
still : Offset
still = record { dx = pos 0; dy = pos 0 }

beside : (k : ℕ) → Beside (get_or around k still)
unfolding still
beside zero = omega arith
beside (suc zero) = omega arith
beside (suc (suc zero)) = omega arith
beside (suc (suc (suc zero))) = omega arith
beside (suc (suc (suc (suc zero)))) = omega arith
beside (suc (suc (suc (suc (suc zero))))) = omega arith
beside (suc (suc (suc (suc (suc (suc zero)))))) = omega arith
beside (suc (suc (suc (suc (suc (suc (suc zero))))))) = omega arith
beside (suc (suc (suc (suc (suc (suc (suc (suc k)))))))) = omega arith

-- what the map over the neighbours gives
pub around_mapped : {F : Type 0} (g : Mut F (Offset × Unit {0}) ℕ) (f : F) (h : Offset → ℕ) → ((x : Offset) (r : ℕ) (q : F) → Called g f (x, tt) r q → (q ≡ f) × (Beside x → r ≡ h x)) → (ys : List ℕ) → length ys ≡ 8 → MapsFrom g f around ys 0 8 → ys ≡ map h around
around_mapped g f h step ys long m =
    ext_get_or 0 ys (map h around) long (λ k l.
    let few : k < 8 = omega (arith, long) in
    mapped g f (λ x r. Beside x → r ≡ h x) still step around ys 8 0 m k k 0 (omega arith) few (beside k) ∙ sym (get_or-map h around k still 0 few))

pub around_each : {F : Type 0} (g : Mut F (Offset × Unit {0}) ℕ) (f : F) (R : ℕ → Type 0) → ((x : Offset) (r : ℕ) (q : F) → Called g f (x, tt) r q → (q ≡ f) × R r) → (ys : List ℕ) → MapsFrom g f around ys 0 8 → (k : ℕ) → k < 8 → R (get_or ys k 0)
around_each g f R step ys m k l = mapped g f (λ x r. R r) still step around ys 8 0 m k k 0 (omega arith) l

-- an instance by its parts
pub instance_is : (s : Surface) (n : Numbers) (t : ℕ) (x y : ℤ) (centre successor : ℕ) (ys : List ℕ) → centre ≡ class_look s n t x y → successor ≡ class_next s n t x y → ys ≡ map (λ o. class_look s n t (x +ℤ o.dx) (y +ℤ o.dy)) around →
    ◌≡◌ {A = Instance} (record { centre = centre; successor = successor; neighbours = ys }) (instance_at s n t x y)
unfolding instance_at
instance_is s n t x y centre successor ys p q r = λ i. record { centre = p i; successor = q i; neighbours = r i }

-- so near the box a sum does not wrap
pub near_sum : (x d : ℤ) → negsuc 8 ≤ℤ x → x ≤ℤ pos 40 → negsuc 0 ≤ℤ d → d ≤ℤ pos 1 → to_z w32 ((of_z w32 x + of_z w32 d) % 4294967296) ≡ x +ℤ d
near_sum x d h k l m = search (rules, wraps)
