-- Systems with the same instances come to the same.
-- Some of these lemmas no proof cites yet; they stay, since nothing else says what they say.
use Rattle.std.proofs.Common.{◌≡◌, ℕ, ◌+◌, ◌<◌, Bool, false, cond, eqb, List, [], ◌∷◌, ◌++◌, length, get_or, sym, refl, ap, ◌∙◌, subst, ap₂, inl, inr, arith}
use Rattle.std.proofs.lemmas.Bool.{cases_eq, eq-eqb, ne_eqb, cond-true, cond-false}
use Rattle.codes.specs.declared.value.Value.{Value}
use Rattle.codes.specs.Codes.{Parts, code}
use Rattle.systems.specs.declared.instance.Instance.{Instance}
use Rattle.systems.specs.Systems.{In, here, there, Sys, at, sum_of, on_one, unknown_one, code_for, Mentions, as_centre, as_successor, as_neighbour, Holds, Sol, Proper}
use Rattle.systems.specs.Settling.{Closed, Least, Dead}
use Rattle.systems.proofs.Gathered.{in_left, in_right, in_either}
use Rattle.systems.specs.Alike.{Rearranged, SameLooks, Covers, Alike, AlikeLaws}

parts : Value → ℕ → ℕ → Value → Parts
parts c n u s = record { centre = c; on = n; unknown = u; successor = s }

same_parts : {c c' s s' : Value} {n n' u u' : ℕ} → c ≡ c' → n ≡ n' → u ≡ u' → s ≡ s' → parts c n u s ≡ parts c' n' u' s'
same_parts a b c d = cc

sum_same : (g h : ℕ → ℕ) (xs : List ℕ) → ((x : ℕ) → In x xs → g x ≡ h x) → sum_of g xs ≡ sum_of h xs
unfolding sum_of
sum_same g h [] e = refl
sum_same g h (x ∷ xs) e = ap₂ ◌+◌ (e x here) (sum_same g h xs (λ y m. e y (there m)))

-- the code of an instance rests on its own classes alone
pub code_same : (rule : Bool → ℕ → Bool) (v w : ℕ → Value) (i : Instance) → ((x : ℕ) → Mentions i x → v x ≡ w x) → code_for rule v i ≡ code_for rule w i
unfolding code_for parts
code_same rule v w i h =
    ap (code rule)
    (same_parts (h i.centre (as_centre refl)) (sum_same (λ x. on_one (v x)) (λ x. on_one (w x)) i.neighbours (λ x m. ap on_one (h x (as_neighbour m))))
    (sum_same (λ x. unknown_one (v x)) (λ x. unknown_one (w x)) i.neighbours (λ x m. ap unknown_one (h x (as_neighbour m)))) (h i.successor (as_successor refl)))

code_looks : (rule : Bool → ℕ → Bool) (v : ℕ → Value) (i j : Instance) → SameLooks i j → code_for rule v i ≡ code_for rule v j
unfolding code_for parts
code_looks rule v i j s =
    ap (code rule)
    (same_parts (ap v s.centre) (s.neighbours (λ x. on_one (v x))) (s.neighbours (λ x. unknown_one (v x))) (ap v s.successor))

holds_looks : (rule : Bool → ℕ → Bool) (f : List Bool) (i j : Instance) → SameLooks i j → Holds rule f i → Holds rule f j
holds_looks rule f i j s h =
    ap (λ (x : ℕ). get_or f x false) (sym s.successor) ∙ h
    ∙ ap₂ rule (ap (λ (x : ℕ). get_or f x false) s.centre) (s.neighbours (λ x. cond (get_or f x false) 1 0))

looks_turned : (i j : Instance) → SameLooks i j → SameLooks j i
looks_turned i j s = record { centre = sym s.centre; successor = sym s.successor; neighbours = λ g. sym (s.neighbours g) }

-- ---- the classes of lists with the same sums
is_one : ℕ → ℕ → ℕ
is_one x y = cond (eqb x y) 1 0

in_sum : (x : ℕ) {xs : List ℕ} → In x xs → 0 < sum_of (is_one x) xs
unfolding sum_of is_one
in_sum x here = let e = cond-true {A = ℕ} (eqb x x) 1 0 (eq-eqb x x refl) in omega (arith, e)
in_sum x (there m) = omega (arith, in_sum x m)

sum_in : (x : ℕ) (xs : List ℕ) → 0 < sum_of (is_one x) xs → In x xs
unfolding sum_of is_one
sum_in x [] l = absurd (omega arith)
sum_in x (y ∷ ys) l =
    elim (cases_eq x y) [
      | inl e ↦ rw e here
      | inr n ↦ (let e = cond-false {A = ℕ} (eqb x y) 1 0 (ne_eqb x y n) in there (sum_in x ys (omega (arith, e))))
    ]

pub rearranged_in : (xs ys : List ℕ) → Rearranged xs ys → (x : ℕ) → In x xs → In x ys
rearranged_in xs ys r x m = sum_in x ys (omega (arith, in_sum x m, r (is_one x)))

ones_long : (xs : List ℕ) → sum_of (λ x. 1) xs ≡ length xs
unfolding sum_of
ones_long [] = refl
ones_long (x ∷ xs) = omega (arith, ones_long xs)

pub rearranged_long : (xs ys : List ℕ) → Rearranged xs ys → length xs ≡ length ys
rearranged_long xs ys r = sym (ones_long xs) ∙ r (λ x. 1) ∙ ones_long ys

looks_name : (i j : Instance) → SameLooks i j → (x : ℕ) → Mentions i x → Mentions j x
looks_name i j s x (as_centre e) = as_centre (sym s.centre ∙ e)
looks_name i j s x (as_successor e) = as_successor (sym s.successor ∙ e)
looks_name i j s x (as_neighbour m) = as_neighbour (rearranged_in i.neighbours j.neighbours s.neighbours x m)

-- instances that were compared and found the same ask the same
pub same_looks : (i j : Instance) → i ≡ j → SameLooks i j
same_looks i j e = record { centre = ap (λ (k : Instance). k.centre) e; successor = ap (λ (k : Instance). k.successor) e; neighbours = λ g. ap (λ (k : Instance). sum_of g k.neighbours) e }

-- ---- instances kept once while they are gathered
looks_itself : (i : Instance) → SameLooks i i
looks_itself i = record { centre = refl; successor = refl; neighbours = λ g. refl }

pub covers_none : (js : List Instance) → Covers [] js
covers_none js i m = elim m [ ]

pub covers_wider : (is js ks : List Instance) → Covers is js → Covers is (js ++ ks)
covers_wider is js ks c i m = let q = c i m in (q.0, in_left ks q.1, q.2)

-- one instance more, which asks what one of the others asks
pub covers_skip : (is js : List Instance) (i j : Instance) → Covers is js → In j js → SameLooks i j → Covers (is ++ i ∷ []) js
covers_skip is js i j c m s k n = elim (in_either is (i ∷ []) k n) [ inl q ↦ c k q | inr q ↦ (j, m, only i j k s q) ]
  where
    only : (i j k : Instance) → SameLooks i j → In k (i ∷ []) → SameLooks k j
    only i j k s here = s
    only i j k s (there m) = elim m [ ]

-- one instance more in both
pub covers_push : (is js : List Instance) (i : Instance) → Covers is js → Covers (is ++ i ∷ []) (js ++ i ∷ [])
covers_push is js i c = covers_skip is (js ++ i ∷ []) i i (covers_wider is js (i ∷ []) c) (in_right js here) (looks_itself i)

pub alike_turned : (S S' : Sys) → Alike S S' → Alike S' S
alike_turned S S' a =
    record { rule = sym a.rule; start = sym a.start; torn = sym a.torn; order = sym a.order; forth = a.back; back = a.forth }

module _ (S S' : Sys) (a : Alike S S') where
  pub closed_alike : (v : ℕ → Value) → Closed S v → Closed S' v
  closed_alike v c =
      record {
        not_torn = sym a.torn ∙ c.not_torn;
        quiet = λ j m.
            let q = a.back j m in
            code_looks S'.rule v j q.0 q.2 ∙ ap (λ (r : Bool → ℕ → Bool). code_for r v q.0) (sym a.rule) ∙ c.quiet q.0 q.1;
      }

  pub sol_alike : (f : List Bool) → Sol S f → Sol S' f
  sol_alike f s =
      record {
        size = s.size ∙ ap length a.start;
        not_torn = sym a.torn ∙ s.not_torn;
        musts = λ x b e. s.musts x b (ap (λ (ρ : List Value). at ρ x) a.start ∙ e);
        holds = λ j m.
            let q = a.back j m in
            subst (λ (r : Bool → ℕ → Bool). Holds r f j) a.rule
            (holds_looks S.rule f q.0 j (looks_turned j q.0 q.2) (s.holds q.0 q.1));
      }

  pub proper_alike : Proper S → Proper S'
  proper_alike p =
      let e = ap length a.start in
      record {
        mentions = λ j m x k.
            let q = a.back j m in
            omega (arith, p.mentions q.0 q.1 x (looks_name j q.0 q.2 x k));
        chosen = λ x m. omega (arith, p.chosen x (subst (In x) (sym a.order) m));
        choosable = λ x l u. subst (In x) a.order (p.choosable x (omega arith) (ap (λ (ρ : List Value). at ρ x) a.start ∙ u));
      }

module _ (S S' : Sys) (a : Alike S S') where
  pub least_alike : (ρ σ : List Value) → Least S ρ σ → Least S' ρ σ
  least_alike ρ σ l =
      record {
        closed = closed_alike S S' a (at σ) l.closed;
        above = l.above;
        least = λ v c h. l.least v (closed_alike S' S (alike_turned S S' a) v c) h;
        long = l.long;
      }

  pub dead_alike : (ρ : List Value) → Dead S ρ → Dead S' ρ
  dead_alike ρ d v c h = d v (closed_alike S' S (alike_turned S S' a) v c) h

pub alike_laws : AlikeLaws
alike_laws =
    record {
      turned = alike_turned;
      closed = closed_alike;
      least = least_alike;
      dead = dead_alike;
      proper = proper_alike;
      solutions = sol_alike;
    }
