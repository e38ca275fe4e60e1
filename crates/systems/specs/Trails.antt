-- Values with a trail of the classes that were set, so that they can be put back, and which instances have to be looked at.
use Rattle.std.specs.Prelude.{◌≡◌, ℕ, ◌<◌, Bool, true, false, List, [], ◌∷◌, ◌++◌, length, ◌≢◌, slice_set}
use Rattle.codes.specs.declared.value.Value.{Value}
use Rattle.codes.specs.declared.value.Value.TheVariants.{Off, On, Unknown}
use Rattle.codes.specs.Laws.{known}
use Rattle.systems.specs.declared.instance.Instance.{Instance}
use Rattle.systems.specs.Systems.{In, Sys, at, code_for, Mentions, Proper}
use Rattle.systems.specs.Settling.{Closed, Steps, said_centre, said_successor, said_neighbours}

-- the values ρ became σ as the classes of the list were set, one after another, each unknown before
pub data Trailed : List Value → List Value → List ℕ → Type 0 where
  not_yet : {ρ : List Value} → Trailed ρ ρ []
  one_more : {ρ σ : List Value} {xs : List ℕ} (x : ℕ) (b : Bool) → Trailed ρ σ xs → at σ x ≡ Unknown → x < length σ → Trailed ρ (slice_set σ x (known b)) (xs ++ x ∷ [])

-- values, and the classes that were set, in sequence
pub record Held : Type 0 where
  pub values : List Value
  pub trail : List ℕ

-- sets an unknown class and notes it; a known one stays as it is
abbrev pub hold_if : Value → ℕ → Bool → Held → Held
hold_if Off x b h = h
hold_if On x b h = h
hold_if Unknown x b h = record { values = slice_set h.values x (known b); trail = h.trail ++ x ∷ [] }

unfoldable pub hold : ℕ → Bool → Held → Held
hold x b h = hold_if (at h.values x) x b h

abbrev pub hold_one : Value → ℕ → Held → Held
hold_one Off x h = hold x false h
hold_one On x h = hold x true h
hold_one Unknown x h = h

abbrev pub hold_each : Value → List ℕ → Held → Held
hold_each w [] h = h
hold_each w (x ∷ xs) h = hold_each w xs (hold_one w x h)

-- sets and notes what a code says that an instance forces
unfoldable pub hold_by : ℕ → Instance → Held → Held
hold_by n i h =
    hold_each (said_neighbours n) i.neighbours
    (hold_one (said_successor n) i.successor (hold_one (said_centre n) i.centre h))

-- some classes more were set, and noted
pub record Grows (h h' : Held) : Type 0 where
  pub added : List ℕ
  pub trail : h'.trail ≡ h.trail ++ added
  pub values : Trailed h.values h'.values added

-- an instance is quiet, unless it names one of these classes
abbrev pub QuietUnless : (Bool → ℕ → Bool) → (ℕ → Value) → List ℕ → Instance → Type 0
QuietUnless rule v xs i = ((x : ℕ) → Mentions i x → In x xs → ⊥) → code_for rule v i ≡ 0

-- every instance is
abbrev pub QuietBut : Sys → (ℕ → Value) → List ℕ → Type 0
QuietBut S v xs = (i : Instance) → In i S.instances → QuietUnless S.rule v xs i

-- what a program that settles with a trail goes by
pub record TrailLaws : Type 0 where
  -- to look at an instance that is no contradiction is a sequence of forcing steps, notes what it sets, and leaves the instance quiet unless it names one of these
  pub looks : (S : Sys) (i : Instance) → In i S.instances → (h : Held) → Steps S h.values (hold_by (code_for S.rule (at h.values) i) i h).values
  pub grows : (S : Sys) → Proper S → (i : Instance) → In i S.instances → (h : Held) → length h.values ≡ length S.start → Grows h (hold_by (code_for S.rule (at h.values) i) i h)
  pub looked : (S : Sys) → Proper S → (i : Instance) → In i S.instances → (h : Held) → length h.values ≡ length S.start → (code_for S.rule (at h.values) i ≢ 1) →
      (g : Grows h (hold_by (code_for S.rule (at h.values) i) i h)) → QuietUnless S.rule (at (hold_by (code_for S.rule (at h.values) i) i h).values) g.added i
  -- an instance that names no class set since is still quiet
  pub still : (rule : Bool → ℕ → Bool) (ρ σ : List Value) (xs ys : List ℕ) (i : Instance) → QuietUnless rule (at ρ) xs i → Trailed ρ σ ys → QuietUnless rule (at σ) (xs ++ ys) i
  -- a class is done with when every instance that names it was looked at
  pub next : (S : Sys) (v : ℕ → Value) (x : ℕ) (xs : List ℕ) → QuietBut S v (x ∷ xs) → ((i : Instance) → In i S.instances → Mentions i x → QuietUnless S.rule v xs i) → QuietBut S v xs
  -- and values are closed when no class is left
  pub none_left : (S : Sys) (v : ℕ → Value) → S.torn ≡ false → QuietBut S v [] → Closed S v
  -- to forget the last class of the trail is to have the values before it; those of no class are the first
  pub back : (ρ σ : List Value) (xs : List ℕ) (x : ℕ) → Trailed ρ σ (xs ++ x ∷ []) → Trailed ρ (slice_set σ x Unknown) xs
  pub begun : (ρ σ : List Value) → Trailed ρ σ [] → σ ≡ ρ
