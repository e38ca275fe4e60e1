-- Setting classes and putting them back, as the program does it.
use Rattle.std.proofs.Common.{◌≡◌, ℕ, zero, suc, ◌+◌, ◌<◌, ◌≤◌, ◌≢◌, Bool, true, false, cond, not, eqb, List, [], ◌∷◌, ◌++◌, length, get_or, set, drop, Option, Some, None, sym, refl, ap, ◌∙◌, subst, arith, length-append, ap₂, add-one, get_or-set_other, inl, inr, vec_len}
use lib.Bits.{bit_and}
use Rattle.std.proofs.Math.Seq.{drop-cons}
use Rattle.std.proofs.lemmas.Bool.{cases_eq}
use Rattle.std.proofs.lemmas.List.{set-set, set-get_or, drop_all}
use Rattle.codes.specs.declared.value.Value.{Value}
use Rattle.codes.specs.declared.value.Value.TheVariants.{Off, On, Unknown}
use Rattle.codes.specs.Laws.{known}
use Rattle.systems.specs.declared.instance.Instance.{Instance}
use Rattle.systems.specs.Systems.{at}
use Rattle.systems.specs.Settling.{said_centre, said_successor, said_neighbours, masked}
use Rattle.systems.specs.Trails.{Held, hold_if, hold, hold_one, hold_each, hold_by, Grows, Trailed, not_yet, one_more}
use Rattle.systems.proofs.Base.{known_unknown}
use Rattle.systems.proofs.Reading.{said_centre_masked, said_successor_masked, said_neighbours_masked}
use Rattle.systems.proofs.Trails.{grows_hold, grows_none, grows_then}
use Rattle.settling.specs.declared.known.Known.{Known}
use Rattle.settling.specs.Knowing.{held, Grown, value_said, put_back}

off_unknown : Off ≡ Unknown → ⊥
off_unknown e = known_unknown false e

-- ---- one class
hold_of : (x : ℕ) (b : Bool) (h : Held) (u : Value) → at h.values x ≡ u → hold x b h ≡ hold_if u x b h
unfolding hold
hold_of x b h u e = ap (λ (v : Value). hold_if v x b h) e

pub hold_new : (x y : ℕ) (b : Bool) (h k : Held) (v : Value) → y ≡ x → at h.values y ≡ Unknown → v ≡ known b → k.values ≡ set h.values y v → k.trail ≡ h.trail ++ x ∷ [] → k ≡ hold x b h
hold_new x y b h k v w u e p q =
    let r : k.values ≡ set h.values x (known b) = p ∙ ap₂ (set h.values) w e in
    let s : k ≡ record { values = set h.values x (known b); trail = h.trail ++ x ∷ [] } = λ i. record { values = r i; trail = q i } in
    s ∙ sym (hold_of x b h Unknown (ap (at h.values) (sym w) ∙ u))

hold_old_at : (x : ℕ) (b : Bool) (h : Held) (u : Value) → (u ≡ Unknown → ⊥) → hold_if u x b h ≡ h
hold_old_at x b h Off n = refl
hold_old_at x b h On n = refl
hold_old_at x b h Unknown n = absurd (n refl)

pub hold_old : (x : ℕ) (b : Bool) (h : Held) → (at h.values x ≡ Unknown → ⊥) → h ≡ hold x b h
hold_old x b h n = sym (hold_of x b h (at h.values x) refl ∙ hold_old_at x b h (at h.values x) n)

-- a known class has its value written again
pub hold_still : (x y : ℕ) (b : Bool) (h k : Held) (v : Value) → y ≡ x → at h.values y ≡ v → (v ≡ Unknown → ⊥) → k.values ≡ set h.values y v → k.trail ≡ h.trail → k ≡ hold x b h
hold_still x y b h k v w u n p q =
    let r : k.values ≡ h.values = p ∙ ap (set h.values y) (sym u) ∙ set-get_or h.values y Unknown in
    let s : k ≡ h = λ i. record { values = r i; trail = q i } in
    s ∙ hold_old x b h (λ e. n (sym u ∙ ap (at h.values) w ∙ e))

-- nothing, the last class, is off: so an unknown class is not the last, and setting it leaves nothing off
pub nothing_set : (σ : List Value) (i k : ℕ) (v : Value) → at σ i ≡ Unknown → at σ k ≡ Off → at (set σ i v) k ≡ Off
nothing_set σ i k v u o =
    let ne : k ≢ i = λ e. off_unknown (sym o ∙ ap (at σ) e ∙ u) in
    get_or-set_other σ i k v Unknown ne ∙ o

pub not_last : (n x : ℕ) (σ : List Value) → x < n → at σ x ≡ Unknown → ((k : ℕ) → k + 1 ≡ n → at σ k ≡ Off) → x + 1 < n
not_last n x σ l u o =
    elim (cases_eq (x + 1) n) [
      | inl e ↦ absurd (off_unknown (sym (o x e) ∙ u))
      | inr ne ↦ omega arith
    ]

pub grows_longer : (h k : Held) → Grows h k → length h.trail ≤ length k.trail
grows_longer h k g = omega (arith, ap length g.trail, length-append h.trail g.added)

-- ---- what is known grows
pub grown_none : (a : Known) → Grown a a
grown_none a = record { sized = refl; longer = omega arith; settled = refl; grows = grows_none (held a) }

pub grown_then : (a b c : Known) → Grown a b → Grown b c → Grown a c
grown_then a b c g k = record { sized = k.sized ∙ g.sized; longer = omega (arith, g.longer, k.longer); settled = k.settled ∙ g.settled; grows = grows_then g.grows k.grows }

pub grown_hold : (a b : Known) (x : ℕ) (on : Bool) → vec_len b.values ≡ vec_len a.values → b.settled ≡ a.settled → held b ≡ hold x on (held a) → x < vec_len a.values → Grown a b
grown_hold a b x on z s e l =
    let g : Grows (held a) (held b) = subst (Grows (held a)) (sym e) (grows_hold x on (held a) (omega (arith, a.values.ok.0))) in
    record { sized = z; longer = omega (arith, grows_longer (held a) (held b) g, a.trail.ok.0, b.trail.ok.0); settled = s; grows = g }

-- ---- a list of classes
pub each_next : (w : Value) (xs : List ℕ) (i : ℕ) (h : Held) → i < length xs → hold_each w (drop i xs) h ≡ hold_each w (drop (i + 1) xs) (hold_one w (get_or xs i 0) h)
each_next w xs i h l = rw add-one (ap (λ (ys : List ℕ). hold_each w ys h) (drop-cons xs i 0 l))

pub each_nothing : (xs : List ℕ) (h : Held) → hold_each Unknown xs h ≡ h
each_nothing [] h = refl
each_nothing (x ∷ xs) h = each_nothing xs h

-- a code of 0 sets nothing
pub by_nothing : (i : Instance) (h : Held) → hold_by 0 i h ≡ h
unfolding hold_by
by_nothing i h = each_nothing i.neighbours h

-- what masks say, as an option
pub said_masked : (n mask on : ℕ) → value_said (cond (eqb (bit_and n mask) 0) None (Some (not (eqb (bit_and n on) 0)))) ≡ masked n mask on
said_masked n mask on = by (eqb (bit_and n mask) 0) (not (eqb (bit_and n on) 0))
  where
    by : (t b : Bool) → value_said (cond t None (Some b)) ≡ cond t Unknown (known b)
    by true b = refl
    by false b = refl

-- the parts of what a code says, set one after another
pub by_parts : (n : ℕ) → n < 128 → (i : Instance) (h h₁ h₂ h₃ : Held) (c s o : Option Bool) →
    c ≡ cond (eqb (bit_and n 6) 0) None (Some (not (eqb (bit_and n 4) 0))) →
    s ≡ cond (eqb (bit_and n 24) 0) None (Some (not (eqb (bit_and n 16) 0))) →
    o ≡ cond (eqb (bit_and n 96) 0) None (Some (not (eqb (bit_and n 64) 0))) →
    h₁ ≡ hold_one (value_said c) i.centre h → h₂ ≡ hold_one (value_said s) i.successor h₁ → h₃ ≡ hold_each (value_said o) i.neighbours h₂ → h₃ ≡ hold_by n i h
unfolding hold_by
by_parts n l i h h₁ h₂ h₃ c s o ce se oe e₁ e₂ e₃ =
    let cs : value_said c ≡ said_centre n = ap value_said ce ∙ said_masked n 6 4 ∙ sym (said_centre_masked n l) in
    let ss : value_said s ≡ said_successor n = ap value_said se ∙ said_masked n 24 16 ∙ sym (said_successor_masked n l) in
    let os : value_said o ≡ said_neighbours n = ap value_said oe ∙ said_masked n 96 64 ∙ sym (said_neighbours_masked n l) in
    let k₁ : h₁ ≡ hold_one (said_centre n) i.centre h = e₁ ∙ ap (λ (w : Value). hold_one w i.centre h) cs in
    let k₂ : h₂ ≡ hold_one (said_successor n) i.successor (hold_one (said_centre n) i.centre h) = e₂ ∙ ap₂ (λ (w : Value) (k : Held). hold_one w i.successor k) ss k₁ in
    e₃ ∙ ap₂ (λ (w : Value) (k : Held). hold_each w i.neighbours k) os k₂

pub by_nothing_at : (n : ℕ) (i : Instance) (h : Held) → n ≡ 0 → h ≡ hold_by n i h
by_nothing_at n i h e = sym (ap (λ (m : ℕ). hold_by m i h) e ∙ by_nothing i h)

pub each_ended : (w : Value) (xs : List ℕ) (k : ℕ) (h : Held) → length xs ≤ k → hold_each w (drop k xs) h ≡ h
each_ended w xs k h l = ap (λ (ys : List ℕ). hold_each w ys h) (drop_all k xs l)

-- ---- putting back
pub back_next : (xs : List ℕ) (i : ℕ) (σ : List Value) → i < length xs → put_back (drop i xs) σ ≡ put_back (drop (i + 1) xs) (set σ (get_or xs i 0) Unknown)
unfolding put_back
back_next xs i σ l = rw add-one (ap (λ (ys : List ℕ). put_back ys σ) (drop-cons xs i 0 l))

pub back_ended : (xs : List ℕ) (k : ℕ) (σ : List Value) → length xs ≤ k → put_back (drop k xs) σ ≡ σ
unfolding put_back
back_ended xs k σ l = ap (λ (ys : List ℕ). put_back ys σ) (drop_all k xs l)

-- nothing stays off where another class is put back
pub nothing_left : (σ : List Value) (x j : ℕ) → x ≢ j → at σ j ≡ Off → at (set σ x Unknown) j ≡ Off
nothing_left σ x j n o =
    let ne : j ≢ x = λ e. n (sym e) in
    get_or-set_other σ x j Unknown Unknown ne ∙ o

-- two classes are made unknown in either sequence
set_twice : (σ : List Value) (x y : ℕ) → set (set σ x Unknown) y Unknown ≡ set (set σ y Unknown) x Unknown
set_twice [] x y = refl
set_twice (v ∷ σ) zero zero = refl
set_twice (v ∷ σ) zero (suc y) = refl
set_twice (v ∷ σ) (suc x) zero = refl
set_twice (v ∷ σ) (suc x) (suc y) = ap (λ (τ : List Value). v ∷ τ) (set_twice σ x y)

back_last : (xs : List ℕ) (x : ℕ) (σ : List Value) → put_back (xs ++ x ∷ []) σ ≡ put_back xs (set σ x Unknown)
unfolding put_back
back_last [] x σ = refl
back_last (y ∷ xs) x σ = back_last xs x (set σ y Unknown) ∙ ap (put_back xs) (set_twice σ y x)

-- to forget a class that was unknown
forgotten : (σ : List Value) (x : ℕ) (b : Bool) → at σ x ≡ Unknown → set (set σ x (known b)) x Unknown ≡ σ
forgotten σ x b u = set-set σ x (known b) Unknown ∙ ap (set σ x) (sym u) ∙ set-get_or σ x Unknown

-- what was set is put back
pub back_trailed : {ρ σ : List Value} {ys : List ℕ} → Trailed ρ σ ys → put_back ys σ ≡ ρ
unfolding put_back
back_trailed not_yet = refl
back_trailed (one_more {σ = σ} {xs = xs} x b t u l) = back_last xs x (set σ x (known b)) ∙ ap (put_back xs) (forgotten σ x b u) ∙ back_trailed t
