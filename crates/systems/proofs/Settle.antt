-- Settling: steps stay below closed values, so that its sequence does not matter.
use Rattle.std.proofs.Common.{◌≡◌, ℕ, zero, suc, ◌+◌, ◌%◌, ◌^◌, ◌<◌, ◌≤◌, Bool, true, false, eqb, ◌⊎◌, List, [], ◌∷◌, length, set, sym, refl, ap, ◌∙◌, inl, inr, arith, length-set}
use Rattle.std.proofs.Math.Nat.{zero-div}
use Rattle.std.proofs.lemmas.List.{ext_get_or, get_or-set_same}
use Rattle.std.proofs.lemmas.Bool.{cases_Bool, both_ways, eqb-true, eq-eqb, lt-ltb}
use Rattle.rules.specs.Answers.{holds}
use Rattle.codes.specs.declared.value.Value.{Value}
use Rattle.codes.specs.declared.value.Value.TheVariants.{Off, On, Unknown}
use Rattle.codes.specs.Values.{agrees}
use Rattle.codes.specs.Codes.{Parts, Pair, fitting, is_empty, is_unknown, says_centre, says_successor, says_neighbours, edge, code}
use Rattle.codes.specs.Laws.{known, KnowsMore, centre_bit, successor_bit, neighbour_bit}
use Rattle.codes.proofs.Pairs.{is_state, Fit, every_fit, fit_every, fit_empty}
use Rattle.codes.proofs.Bits.{contradicted, centre_tells, successor_tells, neighbours_tell}
use Rattle.codes.proofs.Knowing.{fit_less, same_edge, stays_forced}
use Rattle.systems.specs.declared.instance.Instance.{Instance}
use Rattle.systems.specs.Systems.{In, here, there, Sys, at, sum_of, on_one, unknown_one, on_among, unknown_among, descriptor_of, code_for, AllSay, Forces, in_centre, in_successor, in_neighbour, Below, unknowns}
use Rattle.systems.specs.Settling.{Closed, Step, Steps, stop, more, Contra, torn_class, no_fit, Settles, Meets, Least, Dead}
use Rattle.systems.proofs.Base.{never, known_unknown, view, same_bool}

val_mono : (a c : Value) → ((b : Bool) → a ≡ known b → c ≡ known b) → (on_one a ≤ on_one c) × (on_one c + unknown_one c ≤ on_one a + unknown_one a)
val_mono Unknown Off h = omega arith
val_mono Unknown On h = omega arith
val_mono Unknown Unknown h = omega arith
val_mono Off c h = rw (h false refl) (omega arith)
val_mono On c h = rw (h true refl) (omega arith)

-- what a pair that fits says of a part whose value is known
pub agreed : (u : Value) (c a : Bool) → agrees u c ≡ true → u ≡ known a → c ≡ a
agreed Off false false g e = refl
agreed Off false true g e = never (cc)
agreed Off true a g e = never (cc)
agreed On true true g e = refl
agreed On true false g e = never (cc)
agreed On false a g e = never (cc)
agreed Unknown c a g e = absurd (known_unknown a (sym e))

-- where some pair fits, what every fitting pair shows of two states stands
pub by_fit : (rule : Bool → ℕ → Bool) (d : Parts) → (code rule d ≡ 1 → ⊥) → (a b : Bool) → ((p : Pair) → Fit rule d p → a ≡ b) → a ≡ b
by_fit rule d n a b h = same_bool a b (λ ne. n (contradicted rule d (fit_empty rule d (λ p f. ne (h p f)))))

pub unknown_some : (v : ℕ → Value) {x : ℕ} {xs : List ℕ} → v x ≡ Unknown → In x xs → 0 < unknown_among v xs
unfolding sum_of
unknown_some v e here = omega (arith, ap unknown_one e)
unknown_some v e (there m) = omega (arith, unknown_some v e m)

-- ---- more known: what is forced stays forced
module _ (v w : ℕ → Value) (h : Below v w) where
  counts_mono : (xs : List ℕ) → (on_among v xs ≤ on_among w xs) × (on_among w xs + unknown_among w xs ≤ on_among v xs + unknown_among v xs)
  unfolding sum_of
  counts_mono [] = omega arith
  counts_mono (x ∷ xs) =
      let a = val_mono (v x) (w x) (h x) in
      let c = counts_mono xs in
      omega arith

  on_grow : {x : ℕ} {xs : List ℕ} → v x ≡ Unknown → w x ≡ On → In x xs → on_among v xs < on_among w xs
  unfolding sum_of
  on_grow e k (here {l = xs}) = omega (arith, ap on_one e, ap on_one k, counts_mono xs)
  on_grow e k (there {b = y} {l = xs} m) = omega (arith, on_grow e k m, val_mono (v y) (w y) (h y))

  off_grow : {x : ℕ} {xs : List ℕ} → v x ≡ Unknown → w x ≡ Off → In x xs → on_among w xs + unknown_among w xs < on_among v xs + unknown_among v xs
  unfolding sum_of
  off_grow e k (here {l = xs}) = omega (arith, ap on_one e, ap on_one k, ap unknown_one e, ap unknown_one k, counts_mono xs)
  off_grow e k (there {b = y} {l = xs} m) = omega (arith, off_grow e k m, val_mono (v y) (w y) (h y))

  part_more : (x : ℕ) → (v x ≡ Unknown) ⊎ (w x ≡ v x)
  part_more x = elim (view (v x)) [ inl e ↦ inl e | inr q ↦ inr (h x q.0 q.1 ∙ sym q.1) ]

  pub knows_more : (i : Instance) → KnowsMore (descriptor_of v i) (descriptor_of w i)
  knows_more i =
      let c = counts_mono i.neighbours in
      record { centre = part_more i.centre; successor = part_more i.successor; on = c.0; unknown = c.1 }

  module _ (rule : Bool → ℕ → Bool) (i : Instance) where
    less : (p : Pair) → Fit rule (descriptor_of w i) p → Fit rule (descriptor_of v i) p
    less p f = fit_less rule (descriptor_of v i) (descriptor_of w i) (knows_more i) p f

    says_still : (says : Pair → Bool) → AllSay rule v i says → AllSay rule w i says
    unfolding AllSay
    says_still says all = fit_every says rule (descriptor_of w i) (λ p f. every_fit says rule (descriptor_of v i) all p (less p f))

    sum_at : (b : Bool) → AllSay rule v i (says_neighbours (descriptor_of v i) b) → (p : Pair) → Fit rule (descriptor_of w i) p → p.sum ≡ edge (descriptor_of v i) b
    unfolding AllSay
    sum_at b all p f = eqb-true p.sum (edge (descriptor_of v i) b) (every_fit (says_neighbours (descriptor_of v i) b) rule (descriptor_of v i) all p (less p f))

    pub forces_up : {x : ℕ} {b : Bool} → Forces rule v i x b → Forces rule w i x b
    unfolding AllSay
    forces_up (in_centre e all) = in_centre e (says_still _ all)
    forces_up (in_successor e all) = in_successor e (says_still _ all)
    forces_up {b = b} (in_neighbour m all) =
        in_neighbour m
        (fit_every (says_neighbours (descriptor_of w i) b) rule (descriptor_of w i)
        (λ p f. eq-eqb p.sum (edge (descriptor_of w i) b)
        (sum_at b all p f ∙ sym (same_edge rule (descriptor_of v i) (descriptor_of w i) (knows_more i) b p f (sum_at b all p f)))))

    -- at a pair that fits, a class that is known has the value that was forced
    forces_known : (p : Pair) → Fit rule (descriptor_of w i) p → {x : ℕ} {b : Bool} → v x ≡ Unknown → Forces rule v i x b → (a : Bool) → w x ≡ known a → a ≡ b
    unfolding AllSay
    forces_known p f {b = b} e (in_centre s all) a k =
        sym (agreed (w i.centre) p.centre a f.centre (ap w s ∙ k)) ∙ is_state b p.centre (every_fit (says_centre b) rule (descriptor_of v i) all p (less p f))
    forces_known p f {b = b} e (in_successor s all) a k =
        sym (agreed (w i.successor) (rule p.centre p.sum) a f.successor (ap w s ∙ k)) ∙ is_state b (rule p.centre p.sum) (every_fit (says_successor rule b) rule (descriptor_of v i) all p (less p f))
    forces_known p f {b = false} e (in_neighbour m all) false k = refl
    forces_known p f {b = false} e (in_neighbour m all) true k = absurd (omega (arith, sum_at false all p f, f.low, on_grow e k m))
    forces_known p f {b = true} e (in_neighbour m all) true k = refl
    forces_known p f {b = true} e (in_neighbour m all) false k = absurd (omega (arith, sum_at true all p f, f.high, off_grow e k m))

    pub one_stays : code_for rule v i ≡ 1 → code_for rule w i ≡ 1
    unfolding code_for
    one_stays e = (stays_forced rule (descriptor_of v i) (descriptor_of w i) (knows_more i)).contradiction e

-- ---- a quiet instance
zero_bit : (bit : ℕ) → holds 0 bit ≡ false
zero_bit bit = ap (λ (n : ℕ). eqb (n % 2) 1) (zero-div (2 ^ bit))

module _ (rule : Bool → ℕ → Bool) (v : ℕ → Value) (i : Instance) (q : code_for rule v i ≡ 0) where
  pub not_one : code rule (descriptor_of v i) ≡ 1 → ⊥
  unfolding code_for
  not_one e = omega (arith, q)

  pub some_fits : is_empty (fitting rule (descriptor_of v i)) ≡ false
  some_fits = elim (cases_Bool (is_empty (fitting rule (descriptor_of v i)))) [ inl e ↦ absurd (not_one (contradicted rule (descriptor_of v i) e)) | inr e ↦ e ]

  silent : (bit : ℕ) → holds (code rule (descriptor_of v i)) bit ≡ true → ⊥
  unfolding code_for
  silent bit e = both_ways (holds 0 bit) (zero_bit bit) (ap (λ (n : ℕ). holds n bit) (sym q) ∙ e)

  -- it forces no class that is unknown
  pub none_forced : (x : ℕ) (b : Bool) → v x ≡ Unknown → Forces rule v i x b → ⊥
  unfolding AllSay
  none_forced x b u (in_centre e all) =
      silent (centre_bit b) ((centre_tells rule (descriptor_of v i) b).stands some_fits (ap is_unknown (ap v e ∙ u)) all)
  none_forced x b u (in_successor e all) =
      silent (successor_bit b) ((successor_tells rule (descriptor_of v i) b).stands some_fits (ap is_unknown (ap v e ∙ u)) all)
  none_forced x b u (in_neighbour m all) =
      silent (neighbour_bit b)
      ((neighbours_tell rule (descriptor_of v i) b).stands some_fits (lt-ltb 0 (unknown_among v i.neighbours) (unknown_some v u m)) all)

-- ---- setting one class
pub at_set : (ρ : List Value) (x y : ℕ) (w : Value) → (at (set ρ x w) y ≡ at ρ y) ⊎ ((y ≡ x) × (at (set ρ x w) y ≡ w))
at_set [] x y w = inl refl
at_set (a ∷ l) zero zero w = inr (refl, refl)
at_set (a ∷ l) zero (suc y) w = inl refl
at_set (a ∷ l) (suc x) zero w = inl refl
at_set (a ∷ l) (suc x) (suc y) w = elim (at_set l x y w) [ inl e ↦ inl e | inr p ↦ inr (ap suc p.0, p.1) ]

-- setting a class to what v has of it
pub below_set : (ρ : List Value) (v : ℕ → Value) → Below (at ρ) v → (x : ℕ) (b : Bool) → v x ≡ known b → Below (at (set ρ x (known b))) v
below_set ρ v h x b k y a e =
    elim (at_set ρ x y (known b)) [
      | inl q ↦ h y a (sym q ∙ e)
      | inr q ↦ ap v q.0 ∙ k ∙ sym q.1 ∙ e
    ]

-- setting an unknown class only adds
pub set_adds : (ρ : List Value) (x : ℕ) (b : Bool) → at ρ x ≡ Unknown → Below (at ρ) (at (set ρ x (known b)))
set_adds ρ x b u y a e =
    elim (at_set ρ x y (known b)) [
      | inl q ↦ q ∙ e
      | inr q ↦ absurd (known_unknown a (sym e ∙ ap (at ρ) q.0 ∙ u))
    ]

pub unknowns_set : (ρ : List Value) (x : ℕ) (b : Bool) → at ρ x ≡ Unknown → x < length ρ → unknowns (set ρ x (known b)) + 1 ≡ unknowns ρ
unfolding unknowns
unknowns_set [] x b e l = absurd (omega arith)
unknowns_set (w ∷ ρ) zero false e l = omega (arith, ap unknown_one e)
unknowns_set (w ∷ ρ) zero true e l = omega (arith, ap unknown_one e)
unknowns_set (w ∷ ρ) (suc x) b e l = omega (arith, unknowns_set ρ x b e (omega arith))

-- ---- steps stay below closed values
module _ (S : Sys) (v : ℕ → Value) (closed : Closed S v) where
  forced_known : (ρ : List Value) → Below (at ρ) v → (i : Instance) → In i S.instances → (x : ℕ) (b : Bool) → at ρ x ≡ Unknown → Forces S.rule (at ρ) i x b → v x ≡ known b
  forced_known ρ h i m x b e g =
      elim (view (v x)) [
        | inl k ↦ absurd (none_forced S.rule v i (closed.quiet i m) x b k (forces_up (at ρ) v h S.rule i g))
        | inr k ↦ k.1 ∙ ap known (by_fit S.rule (descriptor_of v i) (not_one S.rule v i (closed.quiet i m)) k.0 b
            (λ p f. forces_known (at ρ) v h S.rule i p f e g k.0 k.1))
      ]

  step_below : {ρ ρ' : List Value} → Below (at ρ) v → Step S ρ ρ' → Below (at ρ') v
  step_below {ρ} {ρ'} h s =
      rw s.sets
      (below_set ρ v h s.class s.on (forced_known ρ h s.by s.one_of s.class s.on s.unknown s.forces))

  pub steps_below : {ρ σ : List Value} → Steps S ρ σ → Below (at ρ) v → Below (at σ) v
  steps_below stop h = h
  steps_below (more s ss) h = steps_below ss (step_below h s)

  no_contra : (ρ : List Value) → Below (at ρ) v → Contra S (at ρ) → ⊥
  no_contra ρ h (torn_class e) = never (cc closed.not_torn)
  no_contra ρ h (no_fit {i} m e) = omega (arith, one_stays (at ρ) v h S.rule i e, closed.quiet i m)

step_adds : (S : Sys) {ρ ρ' : List Value} → Step S ρ ρ' → Below (at ρ) (at ρ')
step_adds S {ρ} {ρ'} s = rw s.sets (set_adds ρ s.class s.on s.unknown)

pub steps_add : (S : Sys) {ρ σ : List Value} → Steps S ρ σ → Below (at ρ) (at σ)
steps_add S stop y a e = e
steps_add S (more s ss) y a e = steps_add S ss y a (step_adds S s y a e)

pub steps_long : (S : Sys) {ρ σ : List Value} → Steps S ρ σ → length σ ≡ length ρ
steps_long S stop = refl
steps_long S (more {ρ} s ss) = steps_long S ss ∙ ap length s.sets ∙ length-set ρ s.class (known s.on)

pub steps_then : {S : Sys} {ρ σ τ : List Value} → Steps S ρ σ → Steps S σ τ → Steps S ρ τ
steps_then stop t = t
steps_then (more s r) t = more s (steps_then r t)

-- whatever the sequence, settling comes to the least closed values above, and a contradiction met says that there are none
pub settles_least : (S : Sys) {ρ σ : List Value} → Settles S ρ σ → Least S ρ σ
settles_least S s =
    record { closed = s.closed; above = steps_add S s.steps; least = λ v c h. steps_below S v c s.steps h; long = steps_long S s.steps }

pub meets_dead : (S : Sys) {ρ : List Value} → Meets S ρ → Dead S ρ
meets_dead S m v c h = no_contra S v c m.last (steps_below S v c m.steps h) m.contra

-- values that know the same are the same
same_val : (a c : Value) → ((b : Bool) → a ≡ known b → c ≡ known b) → ((b : Bool) → c ≡ known b → a ≡ known b) → a ≡ c
same_val Off c f g = sym (f false refl)
same_val On c f g = sym (f true refl)
same_val Unknown Off f g = g false refl
same_val Unknown On f g = g true refl
same_val Unknown Unknown f g = refl

pub least_one : (S : Sys) {ρ σ τ : List Value} → Least S ρ σ → Least S ρ τ → σ ≡ τ
least_one S {ρ} {σ} {τ} s t =
    ext_get_or Unknown σ τ (s.long ∙ sym t.long)
    (λ i l. same_val (at σ i) (at τ i) (s.least (at τ) t.closed t.above i) (t.least (at σ) s.closed s.above i))

pub least_dead : (S : Sys) {ρ σ : List Value} → Least S ρ σ → Dead S ρ → ⊥
least_dead S {σ = σ} l d = d (at σ) l.closed l.above

-- ---- settling in two goes: decide after settling, and settle again
module _ (S : Sys) (ρ σ : List Value) (x : ℕ) (b : Bool) (open-still : at σ x ≡ Unknown) (within : x < length ρ) (s : Least S ρ σ) where
  pub unknown_before : at ρ x ≡ Unknown
  unknown_before = elim (view (at ρ x)) [ inl e ↦ e | inr q ↦ absurd (known_unknown q.0 (sym (s.above x q.0 q.1) ∙ open-still)) ]

  above_set : (v : ℕ → Value) → Closed S v → Below (at (set ρ x (known b))) v → Below (at (set σ x (known b))) v
  above_set v c h =
      below_set σ v (s.least v c (λ y a q. h y a (set_adds ρ x b unknown_before y a q))) x b
      (h x b (get_or-set_same ρ x (known b) Unknown within))

  pub least_then : (τ : List Value) → Least S (set σ x (known b)) τ → Least S (set ρ x (known b)) τ
  least_then τ t =
      let l : x < length σ = omega (arith, s.long) in
      record {
        closed = t.closed;
        above = below_set ρ (at τ) (λ y a q. t.above y a (set_adds σ x b open-still y a (s.above y a q))) x b (t.above x b (get_or-set_same σ x (known b) Unknown l));
        least = λ v c h. t.least v c (above_set v c h);
        long = t.long ∙ length-set σ x (known b) ∙ s.long ∙ sym (length-set ρ x (known b));
      }

  pub dead_then : Dead S (set σ x (known b)) → Dead S (set ρ x (known b))
  dead_then d v c h = d v c (above_set v c h)
