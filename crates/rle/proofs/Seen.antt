-- What reading a part of a text shows of the bytes: those read are of a form, those before a byte out of place begin
-- one, and so does a text that ends too soon; and the first two rest on nothing that comes later.
use Rattle.std.proofs.Common.{◌≡◌, ℕ, List, [], ◌∷◌, ◌++◌, sym, refl, ap, ◌∙◌}
use Rattle.std.proofs.lemmas.List.{append_assoc}
use Rattle.rle.specs.declared.fault.ReadCause.TheVariants.{TooLong, Byte, Size, Outside, Ended}
use Rattle.rle.specs.Scans.{Scan, good, bad, and_then}

abbrev pub Seen : {A : Type 0} → (A → A → Type 0) → (A → List ℕ → Type 0) → (List ℕ → Scan A) → List ℕ → Scan A → Type 0
Seen Like Form f t (good a rest) =
    (u : List ℕ) × Form a u × (t ≡ u ++ rest) × ((b : ℕ) (r v : List ℕ) → rest ≡ b ∷ r → (a' : _) × (f (u ++ (b ∷ v)) ≡ good a' (b ∷ v)) × Like a a')
Seen Like Form f t (bad TooLong rest) = ⊥
Seen Like Form f t (bad Byte rest) =
    (u : List ℕ) × (b : ℕ) × (r : List ℕ) × (rest ≡ b ∷ r) × (t ≡ u ++ rest) × ((a : _) × (v : List ℕ) × Form a (u ++ v)) × ((v : List ℕ) → f (u ++ (b ∷ v)) ≡ bad Byte (b ∷ v))
Seen Like Form f t (bad Size rest) = Unit {0}
Seen Like Form f t (bad Outside rest) = ⊥
Seen Like Form f t (bad Ended rest) = (rest ≡ []) × ((a : _) × (v : List ℕ) × Form a (t ++ v))

-- one form after another
abbrev pub Both : {A B : Type 0} → (A → List ℕ → Type 0) → (A → B → List ℕ → Type 0) → B → List ℕ → Type 0
Both FA FB b u = (a : _) × (x : List ℕ) × (y : List ℕ) × FA a x × FB a b y × (u ≡ x ++ y)

-- the same value
abbrev pub Same : {A : Type 0} → A → A → Type 0
Same a a' = a' ≡ a

-- a part is read as before when what follows it changes only past the bytes u and b
first_part : {A : Type 0} (f : List ℕ → Scan A) (a : A) (u₁ u₂ rest : List ℕ) (b : ℕ) (r v : List ℕ) → ((c : ℕ) (s w : List ℕ) → rest ≡ c ∷ s → (a' : A) × (f (u₁ ++ (c ∷ w)) ≡ good a' (c ∷ w)) × Same a a') → rest ≡ u₂ ++ (b ∷ r) → f (u₁ ++ (u₂ ++ (b ∷ v))) ≡ good a (u₂ ++ (b ∷ v))
first_part f a u₁ [] rest b r v loc e = let l = loc b r v e in l.1 ∙ ap (λ x. good x (b ∷ v)) l.2
first_part f a u₁ (c ∷ cs) rest b r v loc e = let l = loc c (cs ++ (b ∷ r)) (cs ++ (b ∷ v)) e in l.1 ∙ ap (λ x. good x (c ∷ (cs ++ (b ∷ v)))) l.2

module _ {A B : Type 0} (Like : B → B → Type 0) (FA : A → List ℕ → Type 0) (FB : A → B → List ℕ → Type 0) (f : List ℕ → Scan A) (k : A → List ℕ → Scan B) where
  second : (t rest : List ℕ) (a : A) → Seen Same FA f t (good a rest) → (s : Scan B) → Seen Like (FB a) (k a) rest s → Seen Like (Both FA FB) (λ x. and_then (f x) k) t s
  second t rest a h (good b rest₂) g = (
    h.0 ++ g.0,
    (a, h.0, g.0, h.1, g.1, refl),
    h.2 ∙ ap (λ x. h.0 ++ x) g.2 ∙ sym (append_assoc h.0 g.0 rest₂),
    λ c r v e.
        let here = g.3 c r v e in
        let one : f (h.0 ++ (g.0 ++ (c ∷ v))) ≡ good a (g.0 ++ (c ∷ v)) = first_part f a h.0 g.0 rest c r v h.3 (g.2 ∙ ap (λ x. g.0 ++ x) e) in
        (here.0, ap (λ x. and_then (f x) k) (append_assoc h.0 g.0 (c ∷ v)) ∙ ap (λ x. and_then x k) one ∙ here.1, here.2),
  )
  second t rest a h (bad TooLong rest₂) g = absurd g
  second t rest a h (bad Byte rest₂) g = (
    h.0 ++ g.0,
    g.1,
    g.2,
    g.3,
    h.2 ∙ ap (λ x. h.0 ++ x) g.4 ∙ sym (append_assoc h.0 g.0 rest₂),
    (g.5.0, g.5.1, (a, h.0, g.0 ++ g.5.1, h.1, g.5.2, append_assoc h.0 g.0 g.5.1)),
    λ v.
        let one : f (h.0 ++ (g.0 ++ (g.1 ∷ v))) ≡ good a (g.0 ++ (g.1 ∷ v)) = first_part f a h.0 g.0 rest g.1 g.2 v h.3 (g.4 ∙ ap (λ x. g.0 ++ x) g.3) in
        ap (λ x. and_then (f x) k) (append_assoc h.0 g.0 (g.1 ∷ v)) ∙ ap (λ x. and_then x k) one ∙ g.6 v,
  )
  second t rest a h (bad Size rest₂) g = tt
  second t rest a h (bad Outside rest₂) g = absurd g
  second t rest a h (bad Ended rest₂) g = (g.0, (g.1.0, g.1.1, (a, h.0, rest ++ g.1.1, h.1, g.1.2, ap (λ x. x ++ g.1.1) h.2 ∙ append_assoc h.0 rest g.1.1)))

  first : (t : List ℕ) → ((a : A) → (b : B) × (v : List ℕ) × FB a b v) → (Fol : List ℕ → Type 0) → ((a : A) (x : List ℕ) → Fol x → Seen Like (FB a) (k a) x (k a x)) → (s : Scan A) → ((a : A) (rest : List ℕ) → s ≡ good a rest → Fol rest) → Seen Same FA f t s → Seen Like (Both FA FB) (λ x. and_then (f x) k) t (and_then s k)
  first t default Fol see (good a rest) fol h = second t rest a h (k a rest) (see a rest (fol a rest refl))
  first t default Fol see (bad TooLong rest) fol h = absurd h
  first t default Fol see (bad Byte rest) fol h =
      let more = default h.5.0 in (
        h.0,
        h.1,
        h.2,
        h.3,
        h.4,
        (more.0, h.5.1 ++ more.1, (h.5.0, h.0 ++ h.5.1, more.1, h.5.2, more.2, sym (append_assoc h.0 h.5.1 more.1))),
        λ v. ap (λ x. and_then x k) (h.6 v),
      )
  first t default Fol see (bad Size rest) fol h = tt
  first t default Fol see (bad Outside rest) fol h = absurd h
  first t default Fol see (bad Ended rest) fol h =
      let more = default h.1.0 in
      (h.0, (more.0, h.1.1 ++ more.1, (h.1.0, t ++ h.1.1, more.1, h.1.2, more.2, sym (append_assoc t h.1.1 more.1))))

  -- two parts one after the other; what follows the first may be known to be of some kind
  pub seen_then : (Fol : List ℕ → Type 0) → ((t : List ℕ) → Seen Same FA f t (f t)) → ((t : List ℕ) (a : A) (rest : List ℕ) → f t ≡ good a rest → Fol rest) → ((a : A) (t : List ℕ) → Fol t → Seen Like (FB a) (k a) t (k a t)) → ((a : A) → (b : B) × (v : List ℕ) × FB a b v) → (t : List ℕ) → Seen Like (Both FA FB) (λ x. and_then (f x) k) t (and_then (f t) k)
  seen_then Fol one fol two default t = first t default Fol two (f t) (fol t) (one t)

-- the same shown of another form and another reading that agree where it matters
pub seen_as : {A : Type 0} (Like : A → A → Type 0) (F G : A → List ℕ → Type 0) (f g : List ℕ → Scan A) (t : List ℕ) → ((a : A) (u : List ℕ) → F a u → G a u) → ((u : List ℕ) (b : ℕ) (r v : List ℕ) → t ≡ u ++ (b ∷ r) → g (u ++ (b ∷ v)) ≡ f (u ++ (b ∷ v))) → (s : Scan A) → Seen Like F f t s → Seen Like G g t s
seen_as Like F G f g t form same (good a rest) h = (
  h.0,
  form a h.0 h.1,
  h.2,
  λ b r v e. let here = h.3 b r v e in (here.0, same h.0 b r v (h.2 ∙ ap (λ x. h.0 ++ x) e) ∙ here.1, here.2),
)
seen_as Like F G f g t form same (bad TooLong rest) h = absurd h
seen_as Like F G f g t form same (bad Byte rest) h = (
  h.0,
  h.1,
  h.2,
  h.3,
  h.4,
  (h.5.0, h.5.1, form h.5.0 (h.0 ++ h.5.1) h.5.2),
  λ v. same h.0 h.1 h.2 v (h.4 ∙ ap (λ x. h.0 ++ x) h.3) ∙ h.6 v,
)
seen_as Like F G f g t form same (bad Size rest) h = tt
seen_as Like F G f g t form same (bad Outside rest) h = absurd h
seen_as Like F G f g t form same (bad Ended rest) h = (h.0, (h.1.0, h.1.1, form h.1.0 (t ++ h.1.1) h.1.2))

-- what a text begins with it still begins with after a change further on
pub begins_with : (c : ℕ) (t u : List ℕ) (b : ℕ) (r v : List ℕ) → c ∷ t ≡ u ++ (b ∷ r) → (x : List ℕ) × (u ++ (b ∷ v) ≡ c ∷ x)
begins_with c t [] b r v e = let same : c ≡ b = cc in (v, ap (λ x. x ∷ v) (sym same))
begins_with c t (d ∷ u) b r v e = let same : c ≡ d = cc in (u ++ (b ∷ v), ap (λ x. x ∷ (u ++ (b ∷ v))) (sym same))
