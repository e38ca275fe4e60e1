-- The instances that are kept are those of all spots.
use Rattle.std.proofs.Common.{◌≡◌, ℕ, zero, suc, ◌+◌, ◌*◌, ◌/◌, ◌%◌, ◌<◌, Bool, true, false, ◌&&◌, eqb, List, [], ◌∷◌, ◌++◌, get_or, length, ap, refl, sym, ◌∙◌, subst, below_more, inl, inr, arith}
use lib.Pointwise.{pointwise, bytes_decides}
use Rattle.std.specs.List.{list_any, All}
use Rattle.std.specs.Bool.{MatchBool}
use Rattle.std.specs.List.Sorted.{IsPermutation}
use Rattle.std.proofs.Math.ListN.{get_or-eq_default}
use Rattle.std.proofs.lemmas.List.{get_or_default}
use Rattle.std.proofs.lemmas.List.Sums.{sum_by-cons}
use Rattle.std.proofs.lemmas.Bool.{and_parts, cases_lt, eqb-true, or_cases}
use Rattle.std.specs.List.{sum_by}
use Rattle.std.proofs.lemmas.List.Sorted.{All-permutation, sum_by-IsPermutation}
use Rattle.frames.specs.Radix.{joined, joined_below, high_below, last_of, middle_of, first_of}
use Rattle.std.proofs.lemmas.Nat.{mod_below}
use Rattle.planes.specs.declared.tie.Tie.{Tie}
use Rattle.planes.specs.Meaning.{Meaning}
use Rattle.rolls.specs.Rolls.{Surface, ninth, surface}
use Rattle.classes.specs.Numbers.{Numbers}
use Rattle.systems.specs.declared.instance.Instance.{Instance}
use Rattle.systems.specs.Systems.{In, here, there, sum_of}
use Rattle.systems.specs.Alike.{Rearranged, SameLooks}
use Rattle.systems.specs.Spaces.{instance_at, all_instances}
use Rattle.systems.proofs.Base.{get_d_in}
use Rattle.systems.proofs.Gathered.{in_left, in_right, in_either, instance_in, in_instances}
use Rattle.gathering.specs.Rendering.{SameInstances, bare}

-- how many spots have an instance, and the instance of the spot of a number

abbrev pub spots_of : Surface → ℕ
spots_of s = s.frame.period * (s.frame.height + 18) * (s.frame.width + 18)

abbrev pub at_number : Surface → Numbers → ℕ → Instance
at_number s n k = instance_at s n (k / (s.frame.width + 18) / (s.frame.height + 18)) (ninth (k % (s.frame.width + 18))) (ninth (k / (s.frame.width + 18) % (s.frame.height + 18)))

-- the spot of an instance
pub record Spotted (s : Surface) (n : Numbers) (m : ℕ) (i : Instance) : Type 0 where
  pub number : ℕ
  pub below : number < m
  pub same : SameLooks i (at_number s n number)

-- for each of the first m spots an instance is kept that asks the same, and no others
pub record Kept (s : Surface) (n : Numbers) (m : ℕ) (is : List Instance) : Type 0 where
  pub all : (k : ℕ) → k < m → (j : Instance) × In j is × SameLooks (at_number s n k) j
  pub only : (i : Instance) → In i is → Spotted s n m i

-- what asks the same as another is asked the same by it
turned : {i j : Instance} → SameLooks i j → SameLooks j i
turned l = record { centre = sym l.centre; successor = sym l.successor; neighbours = λ g. sym (l.neighbours g) }

module _ (s : Surface) (n : Numbers) where
  pub kept_none : (is : List Instance) → is ≡ [] → Kept s n 0 is
  kept_none is e = subst (Kept s n 0) (sym e) (record { all = λ k l. absurd (omega arith); only = λ i m. elim m [ ] })

  further : (m : ℕ) (i : Instance) → Spotted s n m i → Spotted s n (m + 1) i
  further m i w = record { number = w.number; below = omega (arith, w.below); same = w.same }

  -- one more that is new
  pub kept_more : (m : ℕ) (is js : List Instance) (i : Instance) → Kept s n m is → SameLooks (at_number s n m) i → js ≡ is ++ i ∷ [] → Kept s n (m + 1) js
  kept_more m is js i old e q =
      subst (Kept s n (m + 1)) (sym q) (record {
        all = below_more (λ k. (j : Instance) × In j (is ++ i ∷ []) × SameLooks (at_number s n k) j) m (λ k l. let q = old.all k l in (q.0, in_left (i ∷ []) q.1, q.2)) (i, in_right is here, e);
        only = λ j w. elim (in_either is (i ∷ []) j w) [
          | inl v ↦ further m j (old.only j v)
          | inr v ↦ record { number = m; below = omega arith; same = subst (λ k. SameLooks k (at_number s n m)) (sym (in_one j i v)) (turned e) }
        ];
      })
    where
      in_one : (j i : Instance) → In j (i ∷ []) → j ≡ i
      in_one j i here = refl
      in_one j i (there v) = elim v [ ]

  -- one more that is kept already
  pub kept_same : (m : ℕ) (is : List Instance) (i : Instance) → Kept s n m is → SameLooks (at_number s n m) i → In i is → Kept s n (m + 1) is
  kept_same m is i old e w =
      record {
        all = below_more (λ k. (j : Instance) × In j is × SameLooks (at_number s n k) j) m old.all (i, w, e);
        only = λ j v. further m j (old.only j v);
      }

  -- with all spots these are the instances of the surface
  pub kept_all : (m : ℕ) (is : List Instance) → m ≡ spots_of s → Kept s n m is → SameInstances is (all_instances s n)
  kept_all m is e k = (λ i w. there_is i (k.only i w), λ i w. back i w)
    where
      columns : ℕ
      columns = s.frame.width + 18

      rows : ℕ
      rows = s.frame.height + 18

      there_is : (i : Instance) → Spotted s n m i → (j : Instance) × In j (all_instances s n) × SameLooks i j
      there_is i w =
          let low : w.number < spots_of s = omega (arith, w.below, e) in (
            at_number s n w.number,
            instance_in s n (w.number / columns / rows) (w.number / columns % rows) (w.number % columns)
                (high_below s.frame.period rows columns w.number (omega arith) (omega arith) low)
                (mod_below (w.number / columns) rows (omega arith))
                (mod_below w.number columns (omega arith)),
            w.same,
          )

      back : (i : Instance) → In i (all_instances s n) → (j : Instance) × In j is × SameLooks i j
      back i w =
          let f = in_instances s n i w in
          let number = joined rows columns f.t f.j f.i in
          let low : number < m = subst (λ v. number < v) (sym e) (joined_below s.frame.period rows columns f.t f.j f.i f.in_time f.in_rows f.in_columns) in
          let t = first_of rows columns f.t f.j f.i f.in_rows f.in_columns in
          let j = middle_of rows columns f.t f.j f.i f.in_rows f.in_columns in
          let x = last_of rows columns f.t f.j f.i f.in_columns in
          let same : at_number s n number ≡ i = (λ h. instance_at s n (t h) (ninth (x h)) (ninth (j h))) ∙ sym f.same in
          let q = k.all number low in
          (q.0, q.1, subst (λ v. SameLooks v q.0) same q.2)

-- ---- the instances do not depend on the ties
pub tieless : (plane : Meaning) (rows : ℕ) (tie : ℕ → ℕ → Tie) (n : Numbers) → all_instances (bare plane) n ≡ all_instances (surface plane rows tie) n
unfolding all_instances instance_at
tieless plane rows tie n = refl

-- ---- what is known
-- a key that a test finds, where the test tells equal keys
known_in : {X : Type 0} (eq : X → X → Bool) → ((a b : X) → eq a b ≡ true → a ≡ b) → (x : X) (keys : List X) → list_any (eq x) keys ≡ true → In x keys
known_in eq same x [] e = absurd (cc)
known_in eq same x (y ∷ keys) e =
    elim (or_cases (eq x y) (list_any (eq x) keys) e) [
      | inl h ↦ subst (λ v. In v (y ∷ keys)) (sym (same x y h)) here
      | inr h ↦ there (known_in eq same x keys h)
    ]

all_in : {X : Type 0} (P : X → Type 0) (x : X) (keys : List X) → All P keys → In x keys → P x
all_in P x keys h m = let q = get_d_in keys x x m in subst P q.2 (h q.0 x q.1)

-- equality of instances is the real one
abbrev pub instance_eq : Instance → Instance → Bool
instance_eq a b = eqb a.centre b.centre && (eqb a.successor b.successor && pointwise eqb a.neighbours b.neighbours)

same_instance : (a b : Instance) → instance_eq a b ≡ true → a ≡ b
same_instance a b e =
    let p = and_parts _ _ e in
    let q = and_parts _ _ p.1 in
    let centre = eqb-true a.centre b.centre p.0 in
    let successor = eqb-true a.successor b.successor q.0 in
    let neighbours = (bytes_decides a.neighbours b.neighbours).0 q.1 in
    λ i. record { centre = centre i; successor = successor i; neighbours = neighbours i }

-- what is known is kept
abbrev pub Known : List Instance → List Instance → Type 0
Known keys is = All (λ q. In q is) keys

pub known_none : (keys is : List Instance) → keys ≡ [] → Known keys is
known_none keys is e = subst (λ v. Known v is) (sym e) (λ k d l. absurd (omega arith))

-- an instance that is known is kept
pub known_kept : (keys is : List Instance) (i : Instance) → Known keys is → list_any (instance_eq i) keys ≡ true → In i is
known_kept keys is i h e = all_in (λ q. In q is) i keys h (known_in instance_eq same_instance i keys e)

pub known_more : (old new is js : List Instance) (i : Instance) → IsPermutation (i ∷ old) new → js ≡ is ++ i ∷ [] → Known old is → Known new js
known_more old new is js i moved e h =
    let P : Instance → Type 0 = λ q. In q js in
    let each : All P (i ∷ old) = all_cons P i old (subst (λ v. In i v) (sym e) (in_right is here)) (λ k d l. subst (λ v. In (get_or old k d) v) (sym e) (in_left (i ∷ []) (h k d l))) in
    All-permutation P (i ∷ old) new moved each
  where
    all_cons : {X : Type 0} (P : X → Type 0) (x : X) (xs : List X) → P x → All P xs → All P (x ∷ xs)
    all_cons P x xs p h zero d l = p
    all_cons P x xs p h (suc k) d l = h k d (omega arith)

-- what a set says of an insert that is new, and of one that is not
pub if_new : (A B : Type 0) (added : Bool) → added ≡ true → MatchBool added A B → A
if_new A B true e m = m
if_new A B false e m = absurd (cc)

pub if_known : (A B : Type 0) (added : Bool) → added ≡ false → MatchBool added A B → B
if_known A B false e m = m
if_known A B true e m = absurd (cc)

-- ---- neighbours in another sequence
sum_is : (g : ℕ → ℕ) (xs : List ℕ) → sum_of g xs ≡ sum_by g xs
unfolding sum_of
sum_is g [] = refl
sum_is g (x ∷ xs) = ap (λ (n : ℕ). g x + n) (sum_is g xs) ∙ sym (sum_by-cons g x xs)

pub rearranged : (xs ys : List ℕ) → IsPermutation xs ys → Rearranged xs ys
rearranged xs ys moved g = sum_is g xs ∙ sym (sum_by-IsPermutation g xs ys moved) ∙ sym (sum_is g ys)

-- numbers below a bound are so in every sequence
pub below_still : (top : ℕ) → 0 < top → (xs ys : List ℕ) → IsPermutation xs ys → ((k : ℕ) → k < length xs → get_or xs k 0 < top) → (k : ℕ) → k < 8 → get_or ys k 0 < top
below_still top some xs ys moved h k l =
    elim (cases_lt k (length ys)) [
      | inl m ↦ All-permutation (λ x. x < top) xs ys moved (λ j d q. subst (λ x. x < top) (get_or_default xs j 0 d q) (h j q)) k 0 m
      | inr m ↦ subst (λ x. x < top) (sym (get_or-eq_default ys 0 m)) some
    ]
