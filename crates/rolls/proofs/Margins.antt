-- Far outside the box an instance sees nothing, and it holds: births have no 0.
use Rattle.std.proofs.Common.{◌≡◌, ℕ, ◌+◌, ◌-◌, ◌/◌, ◌%◌, ◌<◌, ◌≤◌, Bool, true, false, cond, ◌⊎◌, List, [], ◌∷◌, ℤ, pos, negsuc, ◌+ℤ◌, ◌-ℤ◌, ◌≤ℤ◌, ◌<ℤ◌, Some, None, Option, nat_lt, sym, refl, ap, ◌∙◌, subst, inl, inr, zero-add, arith}
use Rattle.std.proofs.lemmas.Bool.{cond-true, cond-false, lt-ltb, le-ltb, ne_eqb}
use Rattle.std.proofs.lemmas.Int.{by_lt_z, ints}
use Rattle.frames.specs.declared.frame.Frame.{Frame}
use Rattle.rules.specs.declared.rule.Rule.{Rule}
use Rattle.rules.specs.Answers.{answer, holds}
use Rattle.planes.specs.declared.neighbours.Offset.{Offset}
use Rattle.planes.specs.declared.tie.Tie.{Tie}
use Rattle.planes.specs.Looks.{across, plain, within}
use Rattle.rolls.specs.Margins.{Ends, MarginsStand, Outside}
use Rattle.rolls.specs.Rolls.{Surface, surface, InstanceHolds, Keeps, around, ninth, seen, successor, total, value}
use Rattle.rolls.proofs.Generations.{ninth_past}

-- a column or a row that lies more than nine before the box or eight past it
abbrev Beyond : ℕ → ℤ → Type 0
Beyond n x = (x <ℤ negsuc 8) ⊎ (pos (n + 8) <ℤ x)

-- two columns or rows at most nine apart
record Near (x u : ℤ) : Type 0 where
  down : x ≤ℤ (u +ℤ pos 9)
  up : u ≤ℤ (x +ℤ pos 9)

beyond_outside : (n : ℕ) (x u : ℤ) → Beyond n x → Near x u → (u <ℤ pos 0) ⊎ (pos n ≤ℤ u)
beyond_outside n x u (inl low) k = inl (let a = k.up in omega (arith, ints))
beyond_outside n x u (inr high) k = inr (let a = k.down in omega (arith, ints))

-- a count for each column or row that does not
counted : (n : ℕ) (x : ℤ) → negsuc 8 ≤ℤ x → x ≤ℤ pos (n + 8) → (i : ℕ) × (i < n + 18) × (ninth i ≡ x)
counted n (pos a) low high = (a + 9, (let l : a ≤ n + 8 = omega (arith, ints) in omega arith), ninth_past a)
counted n (negsuc a) low high =
    let l : a ≤ 8 = omega (arith, ints) in
    (8 - a, omega arith, cond-true _ _ _ (lt-ltb (8 - a) 9 (omega arith)) ∙ ap negsuc (omega arith))

-- a rule whose births have no 0 leaves nothing as it is
quiet_holds : (r : Rule) → holds r.births 0 ≡ false
quiet_holds r = ne_eqb (r.births / 1 % 2) 1 (λ e. omega (arith, r.quiet))

-- either way nothing
neither : (b u v : Bool) → u ≡ false → v ≡ false → cond b u v ≡ false
neither true u v e d = e
neither false u v e d = d

-- where the neighbours lie, at most one away
abbrev Close : List Offset → Type 0
Close [] = Unit {0}
Close (o ∷ os) = ((negsuc 0 ≤ℤ o.dx) × (o.dx ≤ℤ pos 1) × (negsuc 0 ≤ℤ o.dy) × (o.dy ≤ℤ pos 1)) × Close os

close_around : Close around
close_around = (omega (arith, ints), (omega (arith, ints), (omega (arith, ints), (omega (arith, ints), (omega (arith, ints), (omega (arith, ints), (omega (arith, ints), (omega (arith, ints), tt))))))))

module _ (s : Surface) (r : Rule) (f : List Bool) (ends : Ends s) (x y : ℤ) (far : Beyond s.frame.width x ⊎ Beyond s.frame.height y) where
  outside : (u v : ℤ) → Near x u → Near y v → Beyond s.frame.width x ⊎ Beyond s.frame.height y → Outside s.frame u v
  outside u v k l (inl b) = inl (beyond_outside s.frame.width x u b k)
  outside u v k l (inr b) = inr (beyond_outside s.frame.height y v b l)

  nothing : (t : ℕ) (u v : ℤ) → Near x u → Near y v → value s f t u v ≡ false
  nothing t u v k l = ap (seen s f t) (ends u v (outside u v k l far))

  no_neighbours : (t : ℕ) (os : List Offset) → Close os → total s f t x y os ≡ 0
  no_neighbours t [] c = refl
  no_neighbours t (o ∷ os) c =
      let a = c.0.0 in
      let b = c.0.1 in
      let d = c.0.2 in
      let e = c.0.3 in
      ap (λ v. cond v 1 0 + total s f t x y os) (nothing t (x +ℤ o.dx) (y +ℤ o.dy) (record { down = omega (arith, ints); up = omega (arith, ints) }) (record { down = omega (arith, ints); up = omega (arith, ints) }))
      ∙ zero-add _ ∙ no_neighbours t os c.1

  here : (z : ℤ) → Near z z
  here z = record { down = omega (arith, ints); up = omega (arith, ints) }

  no_successor : (t : ℕ) → successor s f t x y ≡ false
  no_successor t =
      let a = s.frame.left in
      let b = s.frame.right in
      let c = s.frame.up in
      let d = s.frame.down in
      neither (nat_lt (t + 1) s.frame.period) _ _ (nothing (t + 1) x y (here x) (here y))
      (nothing 0 (x -ℤ s.frame.dx) (y -ℤ s.frame.dy) (record { down = omega (arith, ints); up = omega (arith, ints) }) (record { down = omega (arith, ints); up = omega (arith, ints) }))

  far_holds : (t : ℕ) → InstanceHolds s r f t x y
  far_holds t =
      no_successor t
      ∙ sym ((λ i. answer r (nothing t x y (here x) (here y) i) (no_neighbours t around close_around i)) ∙ quiet_holds r)

module _ (s : Surface) (r : Rule) (f : List Bool) (ends : Ends s) (k : Keeps s r f) (t : ℕ) (now : t < s.frame.period) where
  every : (x y : ℤ) → InstanceHolds s r f t x y
  every x y =
      by_lt_z x (negsuc 8) (λ far. far_holds s r f ends x y (inl (inl far)) t) (λ left.
      by_lt_z (pos (s.frame.width + 8)) x (λ far. far_holds s r f ends x y (inl (inr far)) t) (λ right.
      by_lt_z y (negsuc 8) (λ far. far_holds s r f ends x y (inr (inl far)) t) (λ top.
      by_lt_z (pos (s.frame.height + 8)) y (λ far. far_holds s r f ends x y (inr (inr far)) t) (λ bottom.
      let column = counted s.frame.width x left right in
      let row = counted s.frame.height y top bottom in
      let there : InstanceHolds s r f t (ninth column.0) (ninth row.0) = k.instances t row.0 column.0 now row.1 column.1 in
      subst (λ c. InstanceHolds s r f t c y) column.2 (subst (λ c. InstanceHolds s r f t (ninth column.0) c) row.2 there)))))

no_place : (n : ℕ) (x : ℤ) → (x <ℤ pos 0) ⊎ (pos n ≤ℤ x) → within n x ≡ None
no_place n (negsuc a) h = refl
no_place n (pos a) (inl low) = absurd (omega (arith, ints))
no_place n (pos a) (inr high) = cond-false (nat_lt a n) _ _ (le-ltb a n (omega (arith, ints)))

no_column : (x y : Option ℕ) → x ≡ None → across x y ≡ None
no_column x y e = ap (λ o. across o y) e

no_row : (x y : Option ℕ) → y ≡ None → across x y ≡ None
no_row None y e = refl
no_row (Some x) y e = ap (λ o. across (Some x) o) e

plain_ends : (f : Frame) (rows : ℕ) (tie : ℕ → ℕ → Tie) → Ends (surface (plain f) rows tie)
plain_ends f rows tie x y (inl h) = no_column (within f.width x) (within f.height y) (no_place f.width x h)
plain_ends f rows tie x y (inr h) = no_row (within f.width x) (within f.height y) (no_place f.height y h)

pub margins_right : MarginsStand
margins_right = record { plain_ends = plain_ends; enough = every }
