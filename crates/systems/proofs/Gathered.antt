-- Which instances a space has.
use Rattle.std.proofs.Common.{◌≡◌, ℕ, zero, suc, ◌+◌, ◌<◌, ◌≤◌, ◌⊎◌, List, [], ◌∷◌, ◌++◌, inl, inr, add-zero, arith}
use Rattle.std.specs.List.{range_with_len, flat_map}
use Rattle.rolls.specs.Rolls.{Surface, ninth}
use Rattle.classes.specs.Numbers.{Numbers}
use Rattle.systems.specs.declared.instance.Instance.{Instance}
use Rattle.systems.specs.Systems.{In, here, there}
use Rattle.systems.specs.Spaces.{instance_at, instances_of_row, instances_of, all_instances}
use Rattle.systems.proofs.Base.{in_map, map_in}

pub in_left : {A : Type 0} {a : A} {l : List A} (k : List A) → In a l → In a (l ++ k)
in_left k here = here
in_left k (there m) = there (in_left k m)

pub in_right : {A : Type 0} (l : List A) {k : List A} {a : A} → In a k → In a (l ++ k)
in_right [] m = m
in_right (b ∷ l) m = there (in_right l m)

pub in_either : {A : Type 0} (l k : List A) (a : A) → In a (l ++ k) → In a l ⊎ In a k
in_either [] k a m = inr m
in_either (b ∷ l) k a here = inl here
in_either (b ∷ l) k a (there m) = elim (in_either l k a m) [ inl q ↦ inl (there q) | inr q ↦ inr q ]

pub in_joined : {X A : Type 0} (f : X → List A) {x : X} {xs : List X} {a : A} → In x xs → In a (f x) → In a (flat_map f xs)
in_joined f (here {l = xs}) m = in_left (flat_map f xs) m
in_joined f (there {b = y} k) m = in_right (f y) (in_joined f k m)

pub joined_in : {X A : Type 0} (f : X → List A) (xs : List X) (a : A) → In a (flat_map f xs) → (x : X) × In x xs × In a (f x)
joined_in f [] a m = elim m [ ]
joined_in f (x ∷ xs) a m =
    elim (in_either (f x) (flat_map f xs) a m) [
      | inl q ↦ (x, here, q)
      | inr q ↦ (let k = joined_in f xs a q in (k.0, there k.1, k.2))
    ]

counting_in : (a n k : ℕ) → In k (range_with_len a n) → (a ≤ k) × (k < a + n)
counting_in a zero k m = elim m [ ]
counting_in a (suc n) k here = (omega arith, omega arith)
counting_in a (suc n) k (there m) = let q = counting_in (a + 1) n k m in (omega (arith, q.0), omega (arith, q.1))

in_counting : (a n k : ℕ) → k < n → In (a + k) (range_with_len a n)
in_counting a zero k h = absurd (omega arith)
in_counting a (suc n) zero h = rw (add-zero a) here
in_counting a (suc n) (suc k) h =
    let e : a + suc k ≡ (a + 1) + k = omega arith in rw e (there (in_counting (a + 1) n k (omega arith)))

pub in_range : (n k : ℕ) → k < n → In k (range_with_len 0 n)
in_range n k h = let e : k ≡ 0 + k = omega arith in rw e (in_counting 0 n k h)

pub range_in : (n k : ℕ) → In k (range_with_len 0 n) → k < n
range_in n k m = let q = counting_in 0 n k m in omega (arith, q.1)

module _ (s : Surface) (n : Numbers) where
  -- an instance that there is
  pub instance_in : (t j i : ℕ) → t < s.frame.period → j < s.frame.height + 18 → i < s.frame.width + 18 → In (instance_at s n t (ninth i) (ninth j)) (all_instances s n)
  unfolding all_instances
  instance_in t j i k l m =
      in_joined (instances_of s n) (in_range s.frame.period t k)
      (in_joined (instances_of_row s n t) (in_range (s.frame.height + 18) j l)
      (in_map (λ c. instance_at s n t (ninth c) (ninth j)) (in_range (s.frame.width + 18) i m)))

  -- where an instance is from
  pub record From (a : Instance) : Type 0 where
    pub t : ℕ
    pub j : ℕ
    pub i : ℕ
    pub in_time : t < s.frame.period
    pub in_rows : j < s.frame.height + 18
    pub in_columns : i < s.frame.width + 18
    pub same : a ≡ instance_at s n t (ninth i) (ninth j)

  pub in_instances : (a : Instance) → In a (all_instances s n) → From a
  unfolding all_instances
  in_instances a m =
      let p = joined_in (instances_of s n) (range_with_len 0 s.frame.period) a m in
      let q = joined_in (instances_of_row s n p.0) (range_with_len 0 (s.frame.height + 18)) a p.2 in
      let w = map_in (λ c. instance_at s n p.0 (ninth c) (ninth q.0)) (range_with_len 0 (s.frame.width + 18)) a q.2 in
      record {
        t = p.0;
        j = q.0;
        i = w.0;
        in_time = range_in s.frame.period p.0 p.1;
        in_rows = range_in (s.frame.height + 18) q.0 q.1;
        in_columns = range_in (s.frame.width + 18) w.0 w.1;
        same = w.2;
      }
