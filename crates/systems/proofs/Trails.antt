-- Settling with a trail: what was set can be put back, and an instance that names no class set since is quiet still.
-- Some of these lemmas no proof cites yet; they stay, since nothing else says what they say.
use Rattle.std.proofs.Common.{◌≡◌, ℕ, ◌<◌, Bool, true, false, ◌⊎◌, List, [], ◌∷◌, ◌++◌, length, set, sym, refl, ap, ◌∙◌, subst, inl, inr, append_assoc, append-nil, arith, length-set}
use Rattle.std.proofs.lemmas.List.{same_from_push, length_push, set-set, set-get_or}
use Rattle.std.proofs.lemmas.Bool.{cases_eq}
use Rattle.codes.specs.declared.value.Value.{Value}
use Rattle.codes.specs.declared.value.Value.TheVariants.{Off, On, Unknown}
use Rattle.codes.specs.Laws.{known}
use Rattle.systems.specs.declared.instance.Instance.{Instance}
use Rattle.systems.specs.Systems.{In, here, there, Sys, at, code_for, Mentions, as_centre, as_successor, as_neighbour, Below, Proper}
use Rattle.systems.specs.Settling.{Closed, Steps, set_if, set_one, set_each, set_by, said_centre, said_successor, said_neighbours}
use Rattle.systems.specs.Trails.{Trailed, not_yet, one_more, Held, hold_if, hold, hold_one, hold_each, hold_by, Grows, QuietUnless, QuietBut, TrailLaws}
use Rattle.systems.proofs.Base.{known_unknown}
use Rattle.systems.proofs.Settle.{at_set, set_adds}
use Rattle.systems.proofs.Looking.{set_steps, loud_sets}
use Rattle.systems.proofs.Alike.{code_same}
use Rattle.systems.proofs.Gathered.{in_left, in_right}

-- ---- trails
pub trailed_long : {ρ σ : List Value} {xs : List ℕ} → Trailed ρ σ xs → length σ ≡ length ρ
trailed_long not_yet = refl
trailed_long (one_more {σ = σ} x b t u l) = length-set σ x (known b) ∙ trailed_long t

pub trailed_adds : {ρ σ : List Value} {xs : List ℕ} → Trailed ρ σ xs → Below (at ρ) (at σ)
trailed_adds not_yet y a e = e
trailed_adds (one_more {σ = σ} x b t u l) y a e = set_adds σ x b u y a (trailed_adds t y a e)

-- a class that is not on the trail has the value that it had
pub trailed_same : {ρ σ : List Value} {xs : List ℕ} → Trailed ρ σ xs → (y : ℕ) → (In y xs → ⊥) → at σ y ≡ at ρ y
trailed_same not_yet y out = refl
trailed_same (one_more {σ = σ} {xs = xs} x b t u l) y out =
    elim (at_set σ x y (known b)) [
      | inl e ↦ e ∙ trailed_same t y (λ m. out (in_left (x ∷ []) m))
      | inr q ↦ absurd (out (rw q.0 (in_right xs here)))
    ]

pub trailed_then : {ρ σ τ : List Value} {xs ys : List ℕ} → Trailed ρ σ xs → Trailed σ τ ys → Trailed ρ τ (xs ++ ys)
trailed_then {xs = xs} t not_yet = rw (append-nil xs) t
trailed_then {xs = xs} t (one_more {xs = ys} x b u k l) = rw (← append_assoc xs ys (x ∷ [])) (one_more x b (trailed_then t u) k l)

-- to forget a class that was unknown
forgotten : (σ : List Value) (x : ℕ) (b : Bool) → at σ x ≡ Unknown → set (set σ x (known b)) x Unknown ≡ σ
forgotten σ x b u = set-set σ x (known b) Unknown ∙ ap (set σ x) (sym u) ∙ set-get_or σ x Unknown

nil_push : (xs : List ℕ) (x : ℕ) → [] ≡ xs ++ x ∷ [] → ⊥
nil_push xs x e = let l = ap length e in omega (arith, l, length_push xs x)

back_at : {ρ σ : List Value} {ys : List ℕ} → Trailed ρ σ ys → (xs : List ℕ) (x : ℕ) → ys ≡ xs ++ x ∷ [] → Trailed ρ (set σ x Unknown) xs
back_at not_yet xs x e = absurd (nil_push xs x e)
back_at {ρ = ρ} (one_more {σ = σ} {xs = ys} y b t u l) xs x e =
    let q = same_from_push ys xs y x e in
    rw (← q.1, forgotten σ y b u) (rw (← q.0) t)

begun_at : {ρ σ : List Value} {ys : List ℕ} → Trailed ρ σ ys → ys ≡ [] → σ ≡ ρ
begun_at not_yet e = refl
begun_at (one_more {xs = xs} x b t u l) e = absurd (nil_push xs x (sym e))

-- ---- the values of what is held are those of the computed settling
if_values : (x : ℕ) (b : Bool) (h : Held) (u : Value) → (hold_if u x b h).values ≡ set_if u x b h.values
if_values x b h Off = refl
if_values x b h On = refl
if_values x b h Unknown = refl

one_values : (w : Value) (x : ℕ) (h : Held) → (hold_one w x h).values ≡ set_one w x h.values
unfolding hold
one_values Off x h = if_values x false h (at h.values x)
one_values On x h = if_values x true h (at h.values x)
one_values Unknown x h = refl

each_values : (w : Value) (xs : List ℕ) (h : Held) → (hold_each w xs h).values ≡ set_each w xs h.values
each_values w [] h = refl
each_values w (x ∷ xs) h = each_values w xs (hold_one w x h) ∙ ap (set_each w xs) (one_values w x h)

pub by_values : (n : ℕ) (i : Instance) (h : Held) → (hold_by n i h).values ≡ set_by n i h.values
unfolding hold_by set_by
by_values n i h =
    each_values (said_neighbours n) i.neighbours (hold_one (said_successor n) i.successor (hold_one (said_centre n) i.centre h))
    ∙ ap (set_each (said_neighbours n) i.neighbours)
    (one_values (said_successor n) i.successor (hold_one (said_centre n) i.centre h) ∙ ap (set_one (said_successor n) i.successor) (one_values (said_centre n) i.centre h))

-- ---- what is held grows
pub grows_none : (h : Held) → Grows h h
grows_none h = record { added = []; trail = sym (append-nil h.trail); values = not_yet }

pub grows_then : {h h' h'' : Held} → Grows h h' → Grows h' h'' → Grows h h''
grows_then {h} g k =
    record {
      added = g.added ++ k.added;
      trail = k.trail ∙ ap (λ (t : List ℕ). t ++ k.added) g.trail ∙ append_assoc h.trail g.added k.added;
      values = trailed_then g.values k.values;
    }

grows_if : (x : ℕ) (b : Bool) (h : Held) → x < length h.values → (u : Value) → at h.values x ≡ u → Grows h (hold_if u x b h)
grows_if x b h l Off e = grows_none h
grows_if x b h l On e = grows_none h
grows_if x b h l Unknown e = record { added = x ∷ []; trail = refl; values = one_more x b not_yet e l }

pub grows_hold : (x : ℕ) (b : Bool) (h : Held) → x < length h.values → Grows h (hold x b h)
unfolding hold
grows_hold x b h l = grows_if x b h l (at h.values x) refl

grows_one : (w : Value) (x : ℕ) (h : Held) → x < length h.values → Grows h (hold_one w x h)
grows_one Off x h l = grows_hold x false h l
grows_one On x h l = grows_hold x true h l
grows_one Unknown x h l = grows_none h

grown_long : {h h' : Held} → Grows h h' → length h'.values ≡ length h.values
grown_long g = trailed_long g.values

grows_each : (w : Value) (xs : List ℕ) (h : Held) → ((x : ℕ) → In x xs → x < length h.values) → Grows h (hold_each w xs h)
grows_each w [] h l = grows_none h
grows_each w (x ∷ xs) h l =
    let g = grows_one w x h (l x here) in
    grows_then g (grows_each w xs (hold_one w x h) (λ y m. omega (arith, l y (there m), grown_long g)))

pub grows_by : (n : ℕ) (i : Instance) (h : Held) → ((x : ℕ) → Mentions i x → x < length h.values) → Grows h (hold_by n i h)
unfolding hold_by
grows_by n i h l =
    let h₁ : Held = hold_one (said_centre n) i.centre h in
    let h₂ : Held = hold_one (said_successor n) i.successor h₁ in
    let g₁ : Grows h h₁ = grows_one (said_centre n) i.centre h (l i.centre (as_centre refl)) in
    let g₂ : Grows h₁ h₂ = grows_one (said_successor n) i.successor h₁ (omega (arith, l i.successor (as_successor refl), grown_long g₁)) in
    let g₁₂ : Grows h h₂ = grows_then g₁ g₂ in
    grows_then g₁₂ (grows_each (said_neighbours n) i.neighbours h₂ (λ x m. omega (arith, l x (as_neighbour m), grown_long g₁₂)))

-- ---- which instances are quiet
pub quiet_still : (rule : Bool → ℕ → Bool) (ρ σ : List Value) (xs ys : List ℕ) (i : Instance) → QuietUnless rule (at ρ) xs i → Trailed ρ σ ys → QuietUnless rule (at σ) (xs ++ ys) i
quiet_still rule ρ σ xs ys i q t out =
    code_same rule (at σ) (at ρ) i (λ x m. trailed_same t x (λ k. out x m (in_right xs k)))
    ∙ q (λ x m k. out x m (in_left ys k))

pub quiet_looked : (S : Sys) → Proper S → (i : Instance) → In i S.instances → (h : Held) → length h.values ≡ length S.start → (n : ℕ) → code_for S.rule (at h.values) i ≡ n → (n ≡ 1 → ⊥) →
    (g : Grows h (hold_by n i h)) → QuietUnless S.rule (at (hold_by n i h).values) g.added i
quiet_looked S proper i m h l n e o g out =
    let same : (x : ℕ) → Mentions i x → at (hold_by n i h).values x ≡ at h.values x = λ x k. trailed_same g.values x (out x k) in
    elim (cases_eq n 0) [
      | inl z ↦ code_same S.rule (at (hold_by n i h).values) (at h.values) i same ∙ e ∙ z
      | inr z ↦ (let q = loud_sets S proper i m h.values l n e z o in
          absurd (known_unknown q.1 (sym q.3 ∙ ap (λ (ρ : List Value). at ρ q.0) (sym (by_values n i h)) ∙ same q.0 q.4 ∙ q.2)))
    ]

-- whether a class is one of a list, and whether an instance names it
not_in : (x y : ℕ) (ys : List ℕ) → (x ≡ y → ⊥) → (In x ys → ⊥) → In x (y ∷ ys) → ⊥
not_in x y ys n o here = n refl
not_in x y ys n o (there m) = o m

in_or_not : (x : ℕ) (xs : List ℕ) → In x xs ⊎ (In x xs → ⊥)
in_or_not x [] = inr (λ m. elim m [ ])
in_or_not x (y ∷ ys) =
    elim (cases_eq x y) [
      | inl e ↦ inl (rw e here)
      | inr n ↦ elim (in_or_not x ys) [ inl m ↦ inl (there m) | inr o ↦ inr (not_in x y ys n o) ]
    ]

pub names_or_not : (i : Instance) (x : ℕ) → Mentions i x ⊎ (Mentions i x → ⊥)
names_or_not i x =
    elim (cases_eq i.centre x) [
      | inl e ↦ inl (as_centre e)
      | inr a ↦ elim (cases_eq i.successor x) [
        | inl e ↦ inl (as_successor e)
        | inr b ↦ elim (in_or_not x i.neighbours) [
          | inl m ↦ inl (as_neighbour m)
          | inr c ↦ inr (by a b c)
        ]
      ]
    ]
  where
    by : (i.centre ≡ x → ⊥) → (i.successor ≡ x → ⊥) → (In x i.neighbours → ⊥) → Mentions i x → ⊥
    by a b c (as_centre e) = a e
    by a b c (as_successor e) = b e
    by a b c (as_neighbour m) = c m

not_first : (i : Instance) (x : ℕ) (xs : List ℕ) → (Mentions i x → ⊥) → ((y : ℕ) → Mentions i y → In y xs → ⊥) → (y : ℕ) → Mentions i y → In y (x ∷ xs) → ⊥
not_first i x xs n o y k here = n k
not_first i x xs n o y k (there m) = o y k m

pub quiet_next : (S : Sys) (v : ℕ → Value) (x : ℕ) (xs : List ℕ) → QuietBut S v (x ∷ xs) → ((i : Instance) → In i S.instances → Mentions i x → QuietUnless S.rule v xs i) → QuietBut S v xs
quiet_next S v x xs q looked i m out =
    elim (names_or_not i x) [
      | inl k ↦ looked i m k out
      | inr k ↦ q i m (not_first i x xs k out)
    ]

pub quiet_closed : (S : Sys) (v : ℕ → Value) → S.torn ≡ false → QuietBut S v [] → Closed S v
quiet_closed S v t q = record { not_torn = t; quiet = λ i m. q i m (λ x k n. elim n [ ]) }

pub trail_laws : TrailLaws
trail_laws =
    record {
      looks = λ S i m h.
          let n : ℕ = code_for S.rule (at h.values) i in
          subst (Steps S h.values) (sym (by_values n i h)) (set_steps S i m h.values n refl);
      grows = λ S proper i m h l. grows_by (code_for S.rule (at h.values) i) i h (λ x k. omega (arith, proper.mentions i m x k));
      looked = λ S proper i m h l o g. quiet_looked S proper i m h l (code_for S.rule (at h.values) i) refl o g;
      still = quiet_still;
      next = quiet_next;
      none_left = quiet_closed;
      back = λ ρ σ xs x t. back_at t xs x refl;
      begun = λ ρ σ t. begun_at t refl;
    }
