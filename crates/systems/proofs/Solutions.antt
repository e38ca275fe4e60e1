-- Solutions are closed values, and closed values that are all known are a solution.
use Rattle.std.proofs.Common.{◌≡◌, ℕ, zero, suc, ◌+◌, ◌<◌, Bool, true, false, cond, ltb, List, [], ◌∷◌, map, length, get_or, sym, refl, ap, ◌∙◌, ap₂, inl, inr, arith}
use lib.ListN.{length-map}
use Rattle.std.proofs.lemmas.Bool.{cases_Bool, cond-false, le-ltb}
use Rattle.codes.specs.declared.value.Value.{Value}
use Rattle.codes.specs.Values.{agrees}
use Rattle.codes.specs.Codes.{Parts, Pair, fitting, is_empty, is_unknown, code}
use Rattle.codes.specs.Laws.{known}
use Rattle.codes.proofs.Pairs.{Fit, empty_fit}
use Rattle.systems.specs.declared.instance.Instance.{Instance}
use Rattle.systems.specs.Systems.{In, here, there, Sys, at, sum_of, on_one, unknown_one, on_among, unknown_among, descriptor_of, code_for, Mentions, as_centre, as_successor, as_neighbour, Below, whole, on_in, Holds, Sol, Proper}
use Rattle.systems.specs.Settling.{Closed, Steps, Meets}
use Rattle.systems.specs.Laws.{FillingLaws}
use Rattle.systems.proofs.Base.{known_unknown}
use Rattle.systems.proofs.Settle.{agreed, by_fit, not_one, steps_below, meets_dead, settles_least}

on_known : (b : Bool) → on_one (known b) ≡ cond b 1 0
on_known true = refl
on_known false = refl

unknown_known : (b : Bool) → unknown_one (known b) ≡ 0
unknown_known true = refl
unknown_known false = refl

shut : (b : Bool) → is_unknown (known b) ≡ false
shut true = refl
shut false = refl

agrees_known : (b : Bool) → agrees (known b) b ≡ true
agrees_known true = refl
agrees_known false = refl

module _ (f : List Bool) (v : ℕ → Value) where
  -- values that are a filling's at some classes
  counts_known : (xs : List ℕ) → ((x : ℕ) → In x xs → v x ≡ whole f x) → (on_among v xs ≡ on_in f xs) × (unknown_among v xs ≡ 0)
  unfolding sum_of
  counts_known [] h = (refl, refl)
  counts_known (x ∷ xs) h =
      let e = h x here in
      let c = counts_known xs (λ y m. h y (there m)) in (
        omega (arith, ap on_one e ∙ on_known (get_or f x false)),
        omega (arith, ap unknown_one e ∙ unknown_known (get_or f x false)),
      )

  -- where they are at the classes of an instance that is no contradiction, the instance holds
  pub fit_holds : (rule : Bool → ℕ → Bool) (i : Instance) → (code rule (descriptor_of v i) ≡ 1 → ⊥) → ((x : ℕ) → Mentions i x → v x ≡ whole f x) → Holds rule f i
  fit_holds rule i n h =
      let c = counts_known i.neighbours (λ x m. h x (as_neighbour m)) in
      by_fit rule (descriptor_of v i) n (get_or f i.successor false) (rule (get_or f i.centre false) (on_in f i.neighbours))
      (λ p q.
      let same_sum : p.sum ≡ on_in f i.neighbours = omega (arith, q.low, q.high) in
      let same-centre = agreed (v i.centre) p.centre (get_or f i.centre false) q.centre (h i.centre (as_centre refl)) in
      sym (agreed (v i.successor) (rule p.centre p.sum) (get_or f i.successor false) q.successor (h i.successor (as_successor refl)))
      ∙ ap₂ rule same-centre same_sum)

-- nothing is said of what is known
known_quiet : (rule : Bool → ℕ → Bool) (d : Parts) → is_empty (fitting rule d) ≡ false → is_unknown d.centre ≡ false → is_unknown d.successor ≡ false → d.unknown ≡ 0 → code rule d ≡ 0
known_quiet rule d e c s u =
    cond-false (is_empty (fitting rule d)) 1 _ e
    ∙ ap₂ ◌+◌ (ap₂ ◌+◌ (cond-false (is_unknown d.centre) _ 0 c) (cond-false (is_unknown d.successor) _ 0 s)) (cond-false (ltb 0 d.unknown) _ 0 (le-ltb 0 d.unknown (omega arith)))

holds_quiet : (rule : Bool → ℕ → Bool) (f : List Bool) (i : Instance) → Holds rule f i → code_for rule (whole f) i ≡ 0
unfolding code_for
holds_quiet rule f i h =
    let c = counts_known f (whole f) i.neighbours (λ x m. refl) in
    let p : Pair = record { centre = get_or f i.centre false; sum = on_in f i.neighbours } in
    let fit : Fit rule (descriptor_of (whole f) i) p =
    record {
      centre = agrees_known (get_or f i.centre false);
      successor = ap (agrees (whole f i.successor)) (sym h) ∙ agrees_known (get_or f i.successor false);
      low = omega arith;
      high = omega arith;
    } in
    known_quiet rule (descriptor_of (whole f) i)
    (elim (cases_Bool (is_empty (fitting rule (descriptor_of (whole f) i)))) [ inl e ↦ absurd (empty_fit rule (descriptor_of (whole f) i) e p fit) | inr e ↦ e ])
    (shut (get_or f i.centre false)) (shut (get_or f i.successor false)) c.1

pub sol_closed : (S : Sys) (f : List Bool) → Sol S f → Closed S (whole f)
sol_closed S f s = record { not_torn = s.not_torn; quiet = λ i m. holds_quiet S.rule f i (s.holds i m) }

-- a solution above ρ is above all that settling reaches, and no contradiction is met
pub sol_steps : (S : Sys) (f : List Bool) → Sol S f → {ρ σ : List Value} → Steps S ρ σ → Below (at ρ) (whole f) → Below (at σ) (whole f)
sol_steps S f s ss h = steps_below S (whole f) (sol_closed S f s) ss h

pub sol_meets : (S : Sys) (f : List Bool) → Sol S f → (ρ : List Value) → Below (at ρ) (whole f) → Meets S ρ → ⊥
sol_meets S f s ρ h m = meets_dead S m (whole f) (sol_closed S f s) h

-- ---- values that are all known
pub at_known : (f : List Bool) (x : ℕ) (b : Bool) → at (map known f) x ≡ known b → whole f x ≡ known b
at_known [] x b e = absurd (known_unknown b (sym e))
at_known (a ∷ f) zero b e = e
at_known (a ∷ f) (suc x) b e = at_known f x b e

pub at_map : (f : List Bool) (x : ℕ) → x < length f → at (map known f) x ≡ whole f x
at_map [] x l = absurd (omega arith)
at_map (a ∷ f) zero l = refl
at_map (a ∷ f) (suc x) l = at_map f x (omega arith)

pub closed_sol : (S : Sys) → Proper S → (f : List Bool) → length f ≡ length S.start → Below (at S.start) (at (map known f)) → Closed S (at (map known f)) → Sol S f
closed_sol S proper f l h c =
    record {
      size = l;
      not_torn = c.not_torn;
      musts = λ x b e. at_known f x b (h x b e);
      holds = λ i m. fit_holds f (at (map known f)) S.rule i (not_one S.rule (at (map known f)) i (c.quiet i m))
          (λ x k. at_map f x (omega (arith, proper.mentions i m x k)));
    }

pub filling_laws : FillingLaws
filling_laws =
    record {
      forced = λ S f s ρ σ h ss. sol_steps S f s ss h;
      possible = λ S f s ρ h m. sol_meets S f s ρ h m;
      full = λ S proper f ρ l h s.
          let k = settles_least S s in
          closed_sol S proper f (sym (length-map f known) ∙ k.long ∙ l) (λ x b e. k.above x b (h x b e)) s.closed;
    }
