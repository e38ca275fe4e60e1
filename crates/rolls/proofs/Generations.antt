-- Two members of the roll with one first generation are one: each generation follows from the one before.
use Rattle.std.proofs.Common.{◌≡◌, ℕ, zero, suc, ◌+◌, ◌*◌, ◌/◌, ◌%◌, ◌<◌, Bool, false, cond, List, [], ◌∷◌, ℤ, pos, ◌+ℤ◌, Some, None, Option, sym, refl, ap, ◌∙◌, subst, zero-add, zero-mul, add-one, arith}
use Rattle.std.proofs.lemmas.Nat.{mod_below, mul-add-lt}
use Rattle.std.proofs.lemmas.List.{ext_get_or}
use Rattle.std.proofs.lemmas.Bool.{cond-true, cond-false, lt-ltb, le-ltb}
use Rattle.frames.proofs.Cells.{number_back, generation_below}
use Rattle.frames.specs.Frames.{cell_number}
use Rattle.rules.specs.declared.rule.Rule.{Rule}
use Rattle.rules.specs.Answers.{answer}
use Rattle.planes.specs.declared.neighbours.Offset.{Offset}
use Rattle.planes.specs.declared.place.Place.{Place}
use Rattle.planes.specs.Meaning.{InBox}
use Rattle.rolls.specs.Laws.{FirstDecides}
use Rattle.rolls.specs.Rolls.{Surface, Keeps, Lawful, InstanceHolds, at, seen, value, total, around, successor, ninth}

-- the count nine past a column of the box stands for that column
pub ninth_past : (i : ℕ) → ninth (i + 9) ≡ pos i
ninth_past i = cond-false _ _ _ (le-ltb (i + 9) 9 (omega arith)) ∙ ap pos (omega arith)

-- an instance inside the box holds in a filling that keeps the rule
pub holds_inside : (s : Surface) (r : Rule) (f : List Bool) → Keeps s r f → (t x y : ℕ) → t < s.frame.period → x < s.frame.width → y < s.frame.height → InstanceHolds s r f t (pos x) (pos y)
holds_inside s r f k t x y ht hx hy =
    let across : InstanceHolds s r f t (ninth (x + 9)) (ninth (y + 9)) = k.instances t (y + 9) (x + 9) ht (omega arith) (omega arith) in
    subst (λ c. InstanceHolds s r f t c (pos y)) (ninth_past x) (subst (λ c. InstanceHolds s r f t (ninth (x + 9)) c) (ninth_past y) across)

-- what follows a place of the box that is not in the last generation
pub successor_inside : (s : Surface) (f : List Bool) → Lawful s → (t x y : ℕ) → t + 1 < s.frame.period → x < s.frame.width → y < s.frame.height → successor s f t (pos x) (pos y) ≡ at f (cell_number s.frame x y (t + 1))
successor_inside s f law t x y ht hx hy = cond-true _ _ _ (lt-ltb (t + 1) s.frame.period ht) ∙ ap (seen s f (t + 1)) (law.own x y hx hy)

module _ (s : Surface) (r : Rule) (f g : List Bool) (law : Lawful s) where
  -- generation t is the same in both
  abbrev Same : ℕ → Type 0
  Same t = (x y : ℕ) → x < s.frame.width → y < s.frame.height → at f (cell_number s.frame x y t) ≡ at g (cell_number s.frame x y t)

  seen_same : (t : ℕ) → Same t → (o : Option Place) → InBox s.frame o → seen s f t o ≡ seen s g t o
  seen_same t h None b = refl
  seen_same t h (Some p) b = h p.x p.y b.0 b.1

  value_same : (t : ℕ) → Same t → (x y : ℤ) → value s f t x y ≡ value s g t x y
  value_same t h x y = seen_same t h (s.look x y) (law.inside x y)

  total_same : (t : ℕ) → Same t → (x y : ℤ) (os : List Offset) → total s f t x y os ≡ total s g t x y os
  total_same t h x y [] = refl
  total_same t h x y (o ∷ os) = λ i. cond (value_same t h (x +ℤ o.dx) (y +ℤ o.dy) i) 1 0 + total_same t h x y os i

  step : Keeps s r f → Keeps s r g → (t : ℕ) → t + 1 < s.frame.period → Same t → Same (t + 1)
  step kf kg t ht h x y hx hy =
      let now : t < s.frame.period = omega arith in
      let same : answer r (value s f t (pos x) (pos y)) (total s f t (pos x) (pos y) around) ≡ answer r (value s g t (pos x) (pos y)) (total s g t (pos x) (pos y) around) = (λ i. answer r (value_same t h (pos x) (pos y) i) (total_same t h (pos x) (pos y) around i)) in
      sym (successor_inside s f law t x y ht hx hy)
      ∙ holds_inside s r f kf t x y now hx hy
      ∙ same
      ∙ sym (holds_inside s r g kg t x y now hx hy)
      ∙ successor_inside s g law t x y ht hx hy

  every : Keeps s r f → Keeps s r g → ((c : ℕ) → c < s.frame.width * s.frame.height → at f c ≡ at g c) → (t : ℕ) → t < s.frame.period → Same t
  every kf kg start zero ht x y hx hy =
      let first : y * s.frame.width + x ≡ (0 * s.frame.height + y) * s.frame.width + x = sym (ap (λ n. n * s.frame.width + x) (ap (λ n. n + y) (zero-mul s.frame.height) ∙ zero-add y)) in
      subst (λ n. at f n ≡ at g n) first (start (y * s.frame.width + x) (mul-add-lt y s.frame.width x s.frame.height hy hx))
  every kf kg start (suc t) ht x y hx hy =
      let h : t + 1 < s.frame.period = omega arith in
      subst Same (add-one t) (step kf kg t h (every kf kg start t (omega arith))) x y hx hy

pub first_decides : FirstDecides
first_decides s r f g law kf kg start =
    let w = s.frame.width in
    let h = s.frame.height in
    ext_get_or false f g (kf.long ∙ sym kg.long) (λ c less.
    let inside : c < w * h * s.frame.period = omega (arith, kf.long) in
    subst (λ n. at f n ≡ at g n) (number_back w h c)
    (every s r f g law kf kg start (c / w / h) (generation_below w h s.frame.period c s.frame.wide s.frame.tall inside) (c % w) (c / w % h) (mod_below c w s.frame.wide) (mod_below (c / w) h s.frame.tall)))
