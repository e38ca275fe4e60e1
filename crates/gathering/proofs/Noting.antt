-- How the numbers of the instances that touch a class are noted, and what the notes say.
use Rattle.std.proofs.Common.{◌≡◌, ℕ, zero, suc, ◌+◌, ◌<◌, ◌≤◌, Bool, true, false, ◌||◌, eqb, List, [], ◌∷◌, ◌++◌, length, get_or, Some, slice_get, inl, inr, refl, sym, ap, ap₂, ◌∙◌, subst, below_more, arith}
use Rattle.std.proofs.lemmas.Bool.{eq-eqb, eqb-true, ne_eqb, or_cases, or_left}
use Rattle.std.proofs.lemmas.List.Folds.{list_any-append}
use Rattle.classes.proofs.Places.{each_more}
use Rattle.systems.specs.Systems.{In, here, there, Mentions, as_centre, as_successor, as_neighbour}
use Rattle.systems.specs.declared.instance.Instance.{Instance}
use Rattle.gathering.specs.Bounds.{Under, nowhere}
use Rattle.gathering.specs.Rendering.{AllTouching, OnlyTouching, Noted, names, noted}

or_none : (b : Bool) → (b || false) ≡ b
or_none true = refl
or_none false = refl

or_right : (a b : Bool) → b ≡ true → (a || b) ≡ true
or_right true b e = refl
or_right false b e = e

-- a number is not noted among lower ones
unnoted : (n : ℕ) (xs : List ℕ) → Under n xs → noted n xs ≡ false
unnoted n [] h = refl
unnoted n (x ∷ xs) h =
    let low : x < n = h 0 (omega arith) in
    ap₂ ◌||◌ (ne_eqb x n (λ e. omega arith)) (unnoted n xs (λ k l. h (suc k) (omega arith)))

under_more : (n m : ℕ) (xs : List ℕ) → n ≤ m → Under n xs → Under m xs
under_more n m xs l h k q = let low = h k q in omega arith

-- the first n instances are noted, each exactly if it names a class
pub record Begun (is : List Instance) (class n : ℕ) (xs : List ℕ) : Type 0 where
  pub within : Under n xs
  pub noted : (k : ℕ) → k < n → noted k xs ≡ names class (get_or is k nowhere)

module _ (is : List Instance) (class n : ℕ) (xs : List ℕ) (begun : Begun is class n xs) where
  -- one more that names the class is noted
  pub noted_more : (ys : List ℕ) → ys ≡ xs ++ n ∷ [] → names class (get_or is n nowhere) ≡ true → Begun is class (n + 1) ys
  noted_more ys e named =
      record {
        within = each_more (λ k v. v < n + 1) 0 xs ys n e (under_more n (n + 1) xs (omega arith) begun.within) (omega arith);
        noted =
            below_more _ n
            (λ k l. ap (noted k) e ∙ list_any-append (λ v. eqb v k) xs (n ∷ []) ∙ ap₂ ◌||◌ (begun.noted k l) (ap (λ b. b || false) (ne_eqb n k (λ q. omega arith))) ∙ or_none _)
            (ap (noted n) e ∙ list_any-append (λ v. eqb v n) xs (n ∷ []) ∙ ap₂ ◌||◌ (unnoted n xs begun.within) (ap (λ b. b || false) (eq-eqb n n refl)) ∙ sym named);
      }

  -- one more that does not is not
  pub noted_not : names class (get_or is n nowhere) ≡ false → Begun is class (n + 1) xs
  noted_not named =
      record {
        within = under_more n (n + 1) xs (omega arith) begun.within;
        noted = below_more _ n begun.noted (unnoted n xs begun.within ∙ sym named);
      }

-- what holds of each that a list gives holds of one more
pub got_more : {X : Type 0} (P : ℕ → X → Type 0) (xs : List X) (x : X) → ((k : ℕ) (v : X) → slice_get xs k ≡ Some v → P k v) → P (length xs) x → (k : ℕ) (v : X) → slice_get (xs ++ x ∷ []) k ≡ Some v → P k v
got_more P [] x old last zero v e = subst (P 0) (cc) last
got_more P [] x old last (suc k) v e = absurd (cc)
got_more P (y ∷ xs) x old last zero v e = old zero v e
got_more P (y ∷ xs) x old last (suc k) v e = got_more (λ j. P (suc j)) xs x (λ j. old (suc j)) last k v e

-- ---- noted numbers as members
noted_in : (k : ℕ) (xs : List ℕ) → noted k xs ≡ true → In k xs
noted_in k [] e = absurd (cc)
noted_in k (x ∷ xs) e =
    elim (or_cases (eqb x k) (noted k xs) e) [
      | inl h ↦ subst (λ v. In v (x ∷ xs)) (eqb-true x k h) here
      | inr h ↦ there (noted_in k xs h)
    ]

in_noted : (k : ℕ) (xs : List ℕ) → In k xs → noted k xs ≡ true
in_noted k [] m = elim m [ ]
in_noted k (x ∷ xs) here = or_left (eqb k k) (noted k xs) (eq-eqb k k refl)
in_noted k (x ∷ xs) (there m) = or_right (eqb x k) (noted k xs) (in_noted k xs m)

mentions_names : (i : Instance) (class : ℕ) → Mentions i class → names class i ≡ true
mentions_names i class (as_centre e) = or_left (eqb i.centre class || eqb i.successor class) (noted class i.neighbours) (or_left (eqb i.centre class) (eqb i.successor class) (eq-eqb i.centre class e))
mentions_names i class (as_successor e) = or_left (eqb i.centre class || eqb i.successor class) (noted class i.neighbours) (or_right (eqb i.centre class) (eqb i.successor class) (eq-eqb i.successor class e))
mentions_names i class (as_neighbour m) = or_right (eqb i.centre class || eqb i.successor class) (noted class i.neighbours) (in_noted class i.neighbours m)

names_mentions : (i : Instance) (class : ℕ) → names class i ≡ true → Mentions i class
names_mentions i class e =
    elim (or_cases (eqb i.centre class || eqb i.successor class) (noted class i.neighbours) e) [
      | inl h ↦ elim (or_cases (eqb i.centre class) (eqb i.successor class) h) [
        | inl q ↦ as_centre (eqb-true i.centre class q)
        | inr q ↦ as_successor (eqb-true i.successor class q)
      ]
      | inr h ↦ as_neighbour (noted_in class i.neighbours h)
    ]

under_in : (n : ℕ) (xs : List ℕ) → Under n xs → (k : ℕ) → In k xs → k < n
under_in n [] h k m = elim m [ ]
under_in n (x ∷ xs) h k here = h 0 (omega arith)
under_in n (x ∷ xs) h k (there m) = under_in n xs (λ j l. h (suc j) (omega arith)) k m

-- what notes say
pub all_touching : (is : List Instance) (class : ℕ) (xs : List ℕ) → Noted is class xs → AllTouching is class xs
all_touching is class xs h k l m = noted_in k xs (h k l ∙ mentions_names (get_or is k nowhere) class m)

pub only_touching : (is : List Instance) (class : ℕ) (xs : List ℕ) → Noted is class xs → Under (length is) xs → OnlyTouching is class xs
only_touching is class xs h within k m =
    let l : k < length is = under_in (length is) xs within k m in
    (l, names_mentions (get_or is k nowhere) class (sym (h k l) ∙ in_noted k xs m))
