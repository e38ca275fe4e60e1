-- What is worked out of a first generation.
use Rattle.std.proofs.Common.{◌≡◌, ℕ, zero, suc, ◌+◌, ◌*◌, ◌-◌, ◌/◌, ◌%◌, ◌<◌, ◌≤◌, Bool, false, cond, List, [], ◌∷◌, ◌++◌, length, take, ℤ, pos, ◌+ℤ◌, Some, None, Option, sym, refl, ap, ◌∙◌, arith, length-append}
use Rattle.std.proofs.lemmas.List.{get_or-take, take_more, take-append-le, take_all}
use Rattle.std.proofs.lemmas.Nat.{mod_below}
use Rattle.frames.proofs.Cells.{number_back, number_below, generation_below}
use Rattle.frames.specs.Frames.{cell_number}
use Rattle.rules.specs.declared.rule.Rule.{Rule}
use Rattle.rules.specs.Answers.{answer}
use Rattle.planes.specs.declared.neighbours.Offset.{Offset}
use Rattle.planes.specs.declared.place.Place.{Place}
use Rattle.planes.specs.Meaning.{InBox}
use Rattle.rolls.proofs.Generations.{holds_inside, successor_inside}
use Rattle.rolls.specs.Rolls.{Surface, Keeps, Lawful, at, seen, value, total, around}
use Rattle.keeping.specs.Asked.{answered}
use Rattle.keeping.specs.Laws.{WorkingLaws}
use Rattle.keeping.specs.Worked.{grown, next_of, worked_out}

-- once a product and its remaining times, or all its times at once
all_times : (a p : ℕ) → 1 ≤ p → a + a * (p - 1) ≡ a * p
all_times a p h =
    let back : p - 1 + 1 ≡ p = omega arith in
    let out : a + a * (p - 1) ≡ a * (p - 1 + 1) = omega arith in
    out ∙ ap (λ n. a * n) back

module _ (s : Surface) (r : Rule) (first : List Bool) where
  grown_long : (n : ℕ) → length (grown s r first n) ≡ length first + n
  unfolding grown
  grown_long zero = omega arith
  grown_long (suc n) = let l = length-append (grown s r first n) (next_of s r (grown s r first n) n ∷ []) in omega (arith, l, grown_long n)

  grown_begins : (n : ℕ) → take (length first) (grown s r first n) ≡ first
  unfolding grown
  grown_begins zero = take_all (length first) first (omega arith)
  grown_begins (suc n) = take-append-le (length first) (grown s r first n) (next_of s r (grown s r first n) n ∷ []) (omega (arith, grown_long n)) ∙ grown_begins n

module _ (s : Surface) (r : Rule) (f : List Bool) (law : Lawful s) where
  -- a front of a filling that has a whole generation shows that generation
  seen_front : (m t : ℕ) → s.frame.width * s.frame.height * (t + 1) ≤ m → (o : Option Place) → InBox s.frame o → seen s f t o ≡ seen s (take m f) t o
  seen_front m t h None b = refl
  seen_front m t h (Some p) b = sym (get_or-take m f (cell_number s.frame p.x p.y t) false (omega (arith, h, number_below s.frame.width s.frame.height (t + 1) p.x p.y t b.0 b.1 (omega arith))))

  value_front : (m t : ℕ) → s.frame.width * s.frame.height * (t + 1) ≤ m → (x y : ℤ) → value s f t x y ≡ value s (take m f) t x y
  value_front m t h x y = seen_front m t h (s.look x y) (law.inside x y)

  total_front : (m t : ℕ) → s.frame.width * s.frame.height * (t + 1) ≤ m → (x y : ℤ) (os : List Offset) → total s f t x y os ≡ total s (take m f) t x y os
  total_front m t h x y [] = refl
  total_front m t h x y (o ∷ os) = λ i. cond (value_front m t h (x +ℤ o.dx) (y +ℤ o.dy) i) 1 0 + total_front m t h x y os i

  answered_front : (m t : ℕ) → s.frame.width * s.frame.height * (t + 1) ≤ m → (x y : ℤ) → answered s r f t x y ≡ answered s r (take m f) t x y
  answered_front m t h x y = λ i. answer r (value_front m t h x y i) (total_front m t h x y around i)

  -- each cell after the first generation is what the rule makes of those before it
  becomes : Keeps s r f → (n : ℕ) → n < s.frame.width * s.frame.height * (s.frame.period - 1) → at f (s.frame.width * s.frame.height + n) ≡ next_of s r (take (s.frame.width * s.frame.height + n) f) n
  becomes k n less =
      let w = s.frame.width in
      let h = s.frame.height in
      let t = n / w / h in
      let x = n % w in
      let y = n / w % h in
      let early : t < s.frame.period - 1 = generation_below w h (s.frame.period - 1) n s.frame.wide s.frame.tall less in
      let back : (t * h + y) * w + x ≡ n = number_back w h n in
      let on : cell_number s.frame x y (t + 1) ≡ w * h + n = omega (arith, back) in
      let whole : w * h * (t + 1) ≤ w * h + n = omega (arith, back) in
      let hx : x < w = mod_below n w s.frame.wide in
      let hy : y < h = mod_below (n / w) h s.frame.tall in
      sym (ap (at f) on) ∙ sym (successor_inside s f law t x y (omega arith) hx hy) ∙ holds_inside s r f k t x y (omega arith) hx hy ∙ answered_front (w * h + n) t whole (pos x) (pos y)

  front : Keeps s r f → (n : ℕ) → n ≤ s.frame.width * s.frame.height * (s.frame.period - 1) → take (s.frame.width * s.frame.height + n) f ≡ grown s r (take (s.frame.width * s.frame.height) f) n
  unfolding grown
  front k zero h = ap (λ m. take m f) (omega arith)
  front k (suc n) h =
      let z = s.frame.width * s.frame.height in
      let all : z + z * (s.frame.period - 1) ≡ z * s.frame.period = all_times z s.frame.period s.frame.lasting in
      let ind = front k n (omega arith) in
      let first = take z f in
      let onward : z + suc n ≡ z + n + 1 = omega arith in
      ap (λ m. take m f) onward ∙ take_more f (z + n) false (omega (arith, k.long, all)) ∙ (λ i. ind i ++ (becomes k n (omega arith) ∙ ap (λ l. next_of s r l n) ind) i ∷ [])

pub working_right : WorkingLaws
working_right = record {
  long = λ s r first e. grown_long s r first _ ∙ ap (λ n. n + s.frame.width * s.frame.height * (s.frame.period - 1)) e ∙ all_times (s.frame.width * s.frame.height) s.frame.period s.frame.lasting;
  begins = λ s r first e. ap (λ n. take n (worked_out s r first)) (sym e) ∙ grown_begins s r first _;
  only = λ s r f law k.
      let z = s.frame.width * s.frame.height in
      let all : z + z * (s.frame.period - 1) ≡ z * s.frame.period = all_times z s.frame.period s.frame.lasting in
      sym (take_all (z + z * (s.frame.period - 1)) f (omega (arith, k.long, all))) ∙ front s r f law k (z * (s.frame.period - 1)) (omega arith);
}
