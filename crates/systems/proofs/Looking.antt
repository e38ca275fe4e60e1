-- Looking at one instance after another is a sequence of forcing steps, and it ends.
use Rattle.std.proofs.Common.{◌≡◌, ℕ, zero, suc, ◌+◌, ◌*◌, ◌/◌, ◌%◌, ◌<◌, ◌≤◌, Bool, true, false, cond, eqb, ◌⊎◌, List, [], ◌∷◌, length, Some, None, Option, sym, refl, ap, ◌∙◌, inl, inr, arith, length-set}
use native.Mathlib.Nat.{div-div-eq-div-mul}
use Rattle.std.proofs.lemmas.List.{get_or-set_same}
use Rattle.std.proofs.lemmas.Bool.{cases_Bool, both_ways, eqb-true, eqb-false, eq-eqb, ltb-true}
use Rattle.rules.specs.Answers.{holds}
use Rattle.codes.specs.declared.value.Value.{Value}
use Rattle.codes.specs.declared.value.Value.TheVariants.{Off, On, Unknown}
use Rattle.codes.specs.Codes.{Parts, code}
use Rattle.codes.specs.Laws.{known, centre_bit, successor_bit, neighbour_bit}
use Rattle.codes.proofs.Bits.{lowest, few, centre_tells, successor_tells, neighbours_tell}
use Rattle.systems.specs.declared.instance.Instance.{Instance}
use Rattle.systems.specs.Systems.{In, here, there, Sys, at, sum_of, unknown_one, unknown_among, descriptor_of, code_for, AllSay, Forces, in_centre, in_successor, in_neighbour, Mentions, as_centre, as_successor, as_neighbour, Below, unknowns, Proper}
use Rattle.systems.specs.Settling.{Step, Steps, stop, more, torn_class, no_fit, Settles, Meets, set_if, set_one, set_each, said_by, said_centre, said_successor, said_neighbours, set_by, first_loud, and_then, settle_at, settle, unless_torn, settled}
use Rattle.codes.proofs.Pairs.{unknown_value}
use Rattle.systems.proofs.Base.{never, known_unknown, view}
use Rattle.systems.proofs.Settle.{set_adds, forces_up, steps_add, steps_long, steps_then, unknowns_set}

-- what two bits say
said_bit : (n off on : ℕ) (b : Bool) → said_by n off on ≡ known b → holds n (cond b on off) ≡ true
said_bit n off on b e = by (holds n on) (holds n off) b refl refl e
  where
    by : (s t b : Bool) → holds n on ≡ s → holds n off ≡ t → cond s On (cond t Off Unknown) ≡ known b → holds n (cond b on off) ≡ true
    by true t true p q e = p
    by true t false p q e = never (cc)
    by false true false p q e = q
    by false true true p q e = never (cc)
    by false false b p q e = absurd (known_unknown b (sym e))

bit_said : (n off on : ℕ) (b : Bool) → holds n (cond b on off) ≡ true → (a : Bool) × (said_by n off on ≡ known a)
bit_said n off on b h = by (holds n on) (holds n off) b refl refl h
  where
    by : (s t b : Bool) → holds n on ≡ s → holds n off ≡ t → holds n (cond b on off) ≡ true → (a : Bool) × (cond s On (cond t Off Unknown) ≡ known a)
    by true t b p q h = (true, refl)
    by false true b p q h = (false, refl)
    by false false true p q h = absurd (both_ways (holds n on) p h)
    by false false false p q h = absurd (both_ways (holds n off) q h)

module _ (S : Sys) (i : Instance) (m : In i S.instances) where
  if_steps : (ρ : List Value) (x : ℕ) (b : Bool) → Forces S.rule (at ρ) i x b → (u : Value) → at ρ x ≡ u → Steps S ρ (set_if u x b ρ)
  if_steps ρ x b f Off e = stop
  if_steps ρ x b f On e = stop
  if_steps ρ x b f Unknown e = more (record { by = i; one_of = m; class = x; on = b; unknown = e; forces = f; sets = refl }) stop

  one_steps : (ρ : List Value) (x : ℕ) (w : Value) → ((b : Bool) → w ≡ known b → Forces S.rule (at ρ) i x b) → Steps S ρ (set_one w x ρ)
  one_steps ρ x Off h = if_steps ρ x false (h false refl) (at ρ x) refl
  one_steps ρ x On h = if_steps ρ x true (h true refl) (at ρ x) refl
  one_steps ρ x Unknown h = stop

  each_steps : (ρ : List Value) (xs : List ℕ) (w : Value) → ((x : ℕ) (b : Bool) → In x xs → w ≡ known b → Forces S.rule (at ρ) i x b) → Steps S ρ (set_each w xs ρ)
  each_steps ρ [] w h = stop
  each_steps ρ (x ∷ xs) w h =
      let s = one_steps ρ x w (λ b e. h x b here e) in
      steps_then s (each_steps (set_one w x ρ) xs w (λ y b q e. forces_up (at ρ) (at (set_one w x ρ)) (steps_add S s) S.rule i (h y b (there q) e)))

  -- to set what the code of an instance says is a sequence of forcing steps
  pub set_steps : (ρ : List Value) (n : ℕ) → code_for S.rule (at ρ) i ≡ n → Steps S ρ (set_by n i ρ)
  unfolding set_by code_for AllSay
  set_steps ρ n e =
      let d : Parts = descriptor_of (at ρ) i in
      let bit : (k : ℕ) → holds n k ≡ true → holds (code S.rule d) k ≡ true = λ k h. ap (λ (c : ℕ). holds c k) e ∙ h in
      let ρ₁ : List Value = set_one (said_centre n) i.centre ρ in
      let ρ₂ : List Value = set_one (said_successor n) i.successor ρ₁ in
      let s₁ : Steps S ρ ρ₁ = one_steps ρ i.centre (said_centre n)
      (λ b q. in_centre refl ((centre_tells S.rule d b).says (bit (centre_bit b) (said_bit n (centre_bit false) (centre_bit true) b q)))) in
      let s₂ : Steps S ρ₁ ρ₂ = one_steps ρ₁ i.successor (said_successor n)
      (λ b q. forces_up (at ρ) (at ρ₁) (steps_add S s₁) S.rule i
      (in_successor refl ((successor_tells S.rule d b).says (bit (successor_bit b) (said_bit n (successor_bit false) (successor_bit true) b q))))) in
      let s₁₂ : Steps S ρ ρ₂ = steps_then s₁ s₂ in
      steps_then s₁₂ (each_steps ρ₂ i.neighbours (said_neighbours n)
      (λ x b q w. forces_up (at ρ) (at ρ₂) (steps_add S s₁₂) S.rule i
      (in_neighbour q ((neighbours_tell S.rule d b).says (bit (neighbour_bit b) (said_bit n (neighbour_bit false) (neighbour_bit true) b w))))))

-- ---- setting only adds
if_adds : (ρ : List Value) (x : ℕ) (b : Bool) (u : Value) → at ρ x ≡ u → Below (at ρ) (at (set_if u x b ρ))
if_adds ρ x b Off e y a k = k
if_adds ρ x b On e y a k = k
if_adds ρ x b Unknown e y a k = set_adds ρ x b e y a k

one_adds : (ρ : List Value) (w : Value) (x : ℕ) → Below (at ρ) (at (set_one w x ρ))
one_adds ρ Off x y a k = if_adds ρ x false (at ρ x) refl y a k
one_adds ρ On x y a k = if_adds ρ x true (at ρ x) refl y a k
one_adds ρ Unknown x y a k = k

each_adds : (ρ : List Value) (w : Value) (xs : List ℕ) → Below (at ρ) (at (set_each w xs ρ))
each_adds ρ w [] y a k = k
each_adds ρ w (x ∷ xs) y a k = each_adds (set_one w x ρ) w xs y a (one_adds ρ w x y a k)

if_long : (ρ : List Value) (x : ℕ) (b : Bool) (u : Value) → length (set_if u x b ρ) ≡ length ρ
if_long ρ x b Off = refl
if_long ρ x b On = refl
if_long ρ x b Unknown = length-set ρ x (known b)

one_long : (ρ : List Value) (w : Value) (x : ℕ) → length (set_one w x ρ) ≡ length ρ
one_long ρ Off x = if_long ρ x false (at ρ x)
one_long ρ On x = if_long ρ x true (at ρ x)
one_long ρ Unknown x = refl

-- a class that is set is known
if_known : (ρ : List Value) (x : ℕ) (b : Bool) → x < length ρ → (u : Value) → at ρ x ≡ u → (a : Bool) × (at (set_if u x b ρ) x ≡ known a)
if_known ρ x b l Off e = (false, e)
if_known ρ x b l On e = (true, e)
if_known ρ x b l Unknown e = (b, get_or-set_same ρ x (known b) Unknown l)

one_known : (ρ : List Value) (x : ℕ) → x < length ρ → (w : Value) (b : Bool) → w ≡ known b → (a : Bool) × (at (set_one w x ρ) x ≡ known a)
one_known ρ x l Off b e = if_known ρ x false l (at ρ x) refl
one_known ρ x l On b e = if_known ρ x true l (at ρ x) refl
one_known ρ x l Unknown b e = absurd (known_unknown b (sym e))

each_known : (ρ : List Value) (x : ℕ) → x < length ρ → (w : Value) (b : Bool) → w ≡ known b → (xs : List ℕ) → In x xs → (a : Bool) × (at (set_each w xs ρ) x ≡ known a)
each_known ρ x l w b e [] m = elim m [ ]
each_known ρ x l w b e (y ∷ xs) here =
    let q = one_known ρ x l w b e in (q.0, each_adds (set_one w x ρ) w xs x q.0 q.1)
each_known ρ x l w b e (y ∷ xs) (there m) = each_known (set_one w y ρ) x (omega (arith, one_long ρ w y)) w b e xs m

-- ---- a code that is neither 0 nor 1 says something
halved : (n j k : ℕ) → j * 2 ≡ k → n / j % 2 ≡ 0 → n / j ≡ 2 * (n / k)
halved n j k e h =
    let q : n / j / 2 ≡ n / k = div-div-eq-div-mul n j 2 ∙ ap (λ (m : ℕ). n / m) e in
    let p : n / j ≡ 2 * (n / j / 2) = even (n / j) h in
    omega (arith, p, q)
  where
    even : (m : ℕ) → m % 2 ≡ 0 → m ≡ 2 * (m / 2)
    even m h = omega arith

some_bit : (n : ℕ) → n < 128 → (n ≡ 0 → ⊥) → (holds n 0 ≡ true → ⊥) →
    ((b : Bool) × (holds n (centre_bit b) ≡ true)) ⊎ (((b : Bool) × (holds n (successor_bit b) ≡ true)) ⊎ ((b : Bool) × (holds n (neighbour_bit b) ≡ true)))
some_bit n l z o =
    elim (cases_Bool (holds n 1)) [
      | inl e ↦ inl (false, e)
      | inr c ↦ elim (cases_Bool (holds n 2)) [
        | inl e ↦ inl (true, e)
        | inr d ↦ elim (cases_Bool (holds n 3)) [
          | inl e ↦ inr (inl (false, e))
          | inr f ↦ elim (cases_Bool (holds n 4)) [
            | inl e ↦ inr (inl (true, e))
            | inr g ↦ elim (cases_Bool (holds n 5)) [
              | inl e ↦ inr (inr (false, e))
              | inr h ↦ elim (cases_Bool (holds n 6)) [
                | inl e ↦ inr (inr (true, e))
                | inr k ↦ absurd (none_left n l z (λ e. o (eq-eqb (n / 1 % 2) 1 e)) (eqb-false (n / 2 % 2) 1 c) (eqb-false (n / 4 % 2) 1 d) (eqb-false (n / 8 % 2) 1 f) (eqb-false (n / 16 % 2) 1 g) (eqb-false (n / 32 % 2) 1 h) (eqb-false (n / 64 % 2) 1 k))
              ]
            ]
          ]
        ]
      ]
    ]
  where
    digit : (k : ℕ) → (k % 2 ≡ 1 → ⊥) → k % 2 ≡ 0
    digit k h = omega arith

    digits : (n : ℕ) → n < 128 → n / 1 % 2 ≡ 0 → n / 2 % 2 ≡ 0 → n / 4 % 2 ≡ 0 → n / 8 % 2 ≡ 0 → n / 16 % 2 ≡ 0 → n / 32 % 2 ≡ 0 → n / 64 % 2 ≡ 0 → n ≡ 0
    digits n l a b c d e f g =
        let p : n ≡ 2 * (n / 2) = omega arith in
        let q = halved n 2 4 refl b in
        let r = halved n 4 8 refl c in
        let s = halved n 8 16 refl d in
        let t = halved n 16 32 refl e in
        let u = halved n 32 64 refl f in
        let w = halved n 64 128 refl g in
        let z : n / 128 ≡ 0 = omega arith in
        omega (arith, p, q, r, s, t, u, w, z)

    none_left : (n : ℕ) → n < 128 → (n ≡ 0 → ⊥) → (n / 1 % 2 ≡ 1 → ⊥) → (n / 2 % 2 ≡ 1 → ⊥) → (n / 4 % 2 ≡ 1 → ⊥) → (n / 8 % 2 ≡ 1 → ⊥) → (n / 16 % 2 ≡ 1 → ⊥) → (n / 32 % 2 ≡ 1 → ⊥) → (n / 64 % 2 ≡ 1 → ⊥) → ⊥
    none_left n l z a b c d e f g = z (digits n l (digit (n / 1) a) (digit (n / 2) b) (digit (n / 4) c) (digit (n / 8) d) (digit (n / 16) e) (digit (n / 32) f) (digit (n / 64) g))

-- an unknown class among some of which there is one
some_unknown : (v : ℕ → Value) (xs : List ℕ) → 0 < unknown_among v xs → (x : ℕ) × In x xs × (v x ≡ Unknown)
unfolding sum_of
some_unknown v [] l = absurd (omega arith)
some_unknown v (x ∷ xs) l =
    elim (view (v x)) [
      | inl e ↦ (x, here, e)
      | inr k ↦ let q = some_unknown v xs (omega (arith, ap unknown_one k.1, none k.0)) in (q.0, there q.1, q.2)
    ]
  where
    none : (b : Bool) → unknown_one (known b) ≡ 0
    none false = refl
    none true = refl

module _ (S : Sys) (proper : Proper S) where
  forces_names : {v : ℕ → Value} {i : Instance} {x : ℕ} {b : Bool} → Forces S.rule v i x b → Mentions i x
  forces_names (in_centre e all) = as_centre e
  forces_names (in_successor e all) = as_successor e
  forces_names (in_neighbour m all) = as_neighbour m

  -- each step leaves one unknown class fewer
  pub step_fewer : (ρ ρ' : List Value) → length ρ ≡ length S.start → Step S ρ ρ' → unknowns ρ' + 1 ≡ unknowns ρ
  step_fewer ρ ρ' l s =
      rw s.sets
      (unknowns_set ρ s.class s.on s.unknown (omega (arith, proper.mentions s.by s.one_of s.class (forces_names s.forces))))

  steps_fewer : {ρ σ : List Value} → Steps S ρ σ → length ρ ≡ length S.start → (σ ≡ ρ) ⊎ (unknowns σ < unknowns ρ)
  steps_fewer stop l = inl refl
  steps_fewer (more {ρ} {ρ'} s ss) l =
      elim (steps_fewer ss (steps_long S (more s stop) ∙ l)) [
        | inl e ↦ inr (rw e (omega (arith, step_fewer ρ ρ' l s)))
        | inr k ↦ inr (omega (arith, step_fewer ρ ρ' l s))
      ]

  -- an instance that is not quiet and no contradiction sets a class
  module _ (i : Instance) (m : In i S.instances) (ρ : List Value) (long : length ρ ≡ length S.start) (n : ℕ) (is_code : code_for S.rule (at ρ) i ≡ n) where
    named : (x : ℕ) → Mentions i x → x < length ρ
    named x k = omega (arith, proper.mentions i m x k)

    pub loud_sets : (n ≡ 0 → ⊥) → (n ≡ 1 → ⊥) → (x : ℕ) × (a : Bool) × (at ρ x ≡ Unknown) × (at (set_by n i ρ) x ≡ known a) × Mentions i x
    unfolding set_by code_for
    loud_sets z o =
        let d : Parts = descriptor_of (at ρ) i in
        let r : Bool → ℕ → Bool = S.rule in
        let ρ₁ : List Value = set_one (said_centre n) i.centre ρ in
        let ρ₂ : List Value = set_one (said_successor n) i.successor ρ₁ in
        let bit : (k : ℕ) → holds n k ≡ true → holds (code r d) k ≡ true = λ k h. ap (λ (c : ℕ). holds c k) is_code ∙ h in
        elim (some_bit n (rw (← is_code) (few r d)) z (λ h. o (sym is_code ∙ lowest r d (bit 0 h)))) [
          | inl (b, h) ↦
              (let u = unknown_value (at ρ i.centre) ((centre_tells r d b).opened (bit (centre_bit b) h)) in
              let w = bit_said n (centre_bit false) (centre_bit true) b h in
              let k = one_known ρ i.centre (named i.centre (as_centre refl)) (said_centre n) w.0 w.1 in
              (i.centre, k.0, u, each_adds ρ₂ (said_neighbours n) i.neighbours i.centre k.0 (one_adds ρ₁ (said_successor n) i.successor i.centre k.0 k.1), as_centre refl))
          | inr (inl (b, h)) ↦
              (let u = unknown_value (at ρ i.successor) ((successor_tells r d b).opened (bit (successor_bit b) h)) in
              let w = bit_said n (successor_bit false) (successor_bit true) b h in
              let l : i.successor < length ρ₁ = omega (arith, one_long ρ (said_centre n) i.centre, named i.successor (as_successor refl)) in
              let k = one_known ρ₁ i.successor l (said_successor n) w.0 w.1 in
              (i.successor, k.0, u, each_adds ρ₂ (said_neighbours n) i.neighbours i.successor k.0 k.1, as_successor refl))
          | inr (inr (b, h)) ↦
              (let u = some_unknown (at ρ) i.neighbours (ltb-true 0 (unknown_among (at ρ) i.neighbours) ((neighbours_tell r d b).opened (bit (neighbour_bit b) h))) in
              let w = bit_said n (neighbour_bit false) (neighbour_bit true) b h in
              let l : u.0 < length ρ₂ = omega (arith, one_long ρ (said_centre n) i.centre, one_long ρ₁ (said_successor n) i.successor, named u.0 (as_neighbour u.1)) in
              let k = each_known ρ₂ u.0 l (said_neighbours n) w.0 w.1 i.neighbours u.1 in
              (u.0, k.0, u.2, k.1, as_neighbour u.1))
        ]

    pub loud_fewer : (n ≡ 0 → ⊥) → (n ≡ 1 → ⊥) → unknowns (set_by n i ρ) < unknowns ρ
    loud_fewer z o =
        let q = loud_sets z o in
        elim (steps_fewer (set_steps S i m ρ n is_code) long) [
          | inl e ↦ absurd (known_unknown q.1 (sym q.3 ∙ ap (λ (σ : List Value). at σ q.0) e ∙ q.2))
          | inr k ↦ k
        ]

-- ---- looking until every instance is quiet
loud_none : (rule : Bool → ℕ → Bool) (ρ : List Value) (l : List Instance) → first_loud rule ρ l ≡ None → (i : Instance) → In i l → code_for rule (at ρ) i ≡ 0
loud_none rule ρ [] e i m = elim m [ ]
loud_none rule ρ (j ∷ l) e i m = by (eqb (code_for rule (at ρ) j) 0) refl e (loud_none rule ρ l) i m
  where
    by : (t : Bool) → eqb (code_for rule (at ρ) j) 0 ≡ t → cond t (first_loud rule ρ l) (Some j) ≡ None → (first_loud rule ρ l ≡ None → (k : Instance) → In k l → code_for rule (at ρ) k ≡ 0) → (k : Instance) → In k (j ∷ l) → code_for rule (at ρ) k ≡ 0
    by true q e rest k here = eqb-true (code_for rule (at ρ) j) 0 q
    by true q e rest k (there m) = rest e k m
    by false q e rest k m = never (cc)

loud_some : (rule : Bool → ℕ → Bool) (ρ : List Value) (l : List Instance) (i : Instance) → first_loud rule ρ l ≡ Some i → In i l × (code_for rule (at ρ) i ≡ 0 → ⊥)
loud_some rule ρ [] i e = never (cc)
loud_some rule ρ (j ∷ l) i e = by (eqb (code_for rule (at ρ) j) 0) refl e (loud_some rule ρ l i)
  where
    by : (t : Bool) → eqb (code_for rule (at ρ) j) 0 ≡ t → cond t (first_loud rule ρ l) (Some j) ≡ Some i → (first_loud rule ρ l ≡ Some i → In i l × (code_for rule (at ρ) i ≡ 0 → ⊥)) → In i (j ∷ l) × (code_for rule (at ρ) i ≡ 0 → ⊥)
    by true q e rest = let k = rest e in (there k.0, k.1)
    by false q e rest = let k : j ≡ i = cc in (rw k here, rw k at (eqb-false (code_for rule (at ρ) j) 0 q))

module _ (S : Sys) where
  -- what settling as it is computed says
  unfoldable pub Comes : List Value → Option (List Value) → Type 0
  Comes ρ None = Meets S ρ
  Comes ρ (Some σ) = Settles S ρ σ

  comes_then : (ρ σ : List Value) (o : Option (List Value)) → Steps S ρ σ → Comes σ o → Comes ρ o
  unfolding Comes
  comes_then ρ σ None s k = record { last = k.last; steps = steps_then s k.steps; contra = k.contra }
  comes_then ρ σ (Some τ) s k = record { steps = steps_then s k.steps; closed = k.closed }

module _ (S : Sys) (proper : Proper S) where
  examined_comes : (ρ : List Value) → length ρ ≡ length S.start → (k : List Value → Option (List Value)) → ((σ : List Value) → length σ ≡ length S.start → unknowns σ < unknowns ρ → Comes S σ (k σ)) →
      (i : Instance) → In i S.instances → (code_for S.rule (at ρ) i ≡ 0 → ⊥) → (t : Bool) → eqb (code_for S.rule (at ρ) i) 1 ≡ t → Comes S ρ (and_then (cond t None (Some (set_by (code_for S.rule (at ρ) i) i ρ))) k)
  unfolding Comes
  examined_comes ρ l k h i m z true q = record { last = ρ; steps = stop; contra = no_fit m (eqb-true (code_for S.rule (at ρ) i) 1 q) }
  examined_comes ρ l k h i m z false q =
      let n : ℕ = code_for S.rule (at ρ) i in
      let s = set_steps S i m ρ n refl in
      comes_then S ρ (set_by n i ρ) (k (set_by n i ρ)) s (h (set_by n i ρ) (steps_long S s ∙ l) (loud_fewer S proper i m ρ l n refl z (eqb-false n 1 q)))

  settle_comes : S.torn ≡ false → (n : ℕ) (ρ : List Value) → length ρ ≡ length S.start → unknowns ρ < n → Comes S ρ (settle n S.rule S.instances ρ)
  unfolding Comes settle
  settle_comes t zero ρ l h = absurd (omega arith)
  settle_comes t (suc n) ρ l h =
      by (first_loud S.rule ρ S.instances) refl (λ σ k q. settle_comes t n σ k (omega arith))
    where
      by : (o : Option Instance) → first_loud S.rule ρ S.instances ≡ o → ((σ : List Value) → length σ ≡ length S.start → unknowns σ < unknowns ρ → Comes S σ (settle n S.rule S.instances σ)) →
          Comes S ρ (settle_at S.rule (settle n S.rule S.instances) ρ o)
      by None e rest = record { steps = stop; closed = record { not_torn = t; quiet = loud_none S.rule ρ S.instances e } }
      by (Some i) e rest =
          let q = loud_some S.rule ρ S.instances i e in
          examined_comes ρ l (settle n S.rule S.instances) rest i q.0 q.1 (eqb (code_for S.rule (at ρ) i) 1) refl

  unknowns_few : (ρ : List Value) → unknowns ρ ≤ length ρ
  unfolding unknowns
  unknowns_few [] = omega arith
  unknowns_few (Off ∷ ρ) = omega (arith, unknowns_few ρ)
  unknowns_few (On ∷ ρ) = omega (arith, unknowns_few ρ)
  unknowns_few (Unknown ∷ ρ) = omega (arith, unknowns_few ρ)

  torn_comes : (ρ : List Value) (o : Option (List Value)) (t : Bool) → S.torn ≡ t → (S.torn ≡ false → Comes S ρ o) → Comes S ρ (unless_torn t o)
  unfolding Comes
  torn_comes ρ o true e h = record { last = ρ; steps = stop; contra = torn_class e }
  torn_comes ρ o false e h = h e

  pub settled_comes : (ρ : List Value) → length ρ ≡ length S.start → Comes S ρ (settled S ρ)
  unfolding settled
  settled_comes ρ l =
      torn_comes ρ (settle (suc (length ρ)) S.rule S.instances ρ) S.torn refl (λ t. settle_comes t (suc (length ρ)) ρ l (omega (arith, unknowns_few ρ)))
