-- Small facts of values, lists and members.
use Rattle.std.proofs.Common.{◌≡◌, ℕ, zero, suc, ◌<◌, Bool, true, false, ◌⊎◌, List, [], ◌∷◌, map, length, get_or, refl, ap, inl, inr, arith}
use Rattle.codes.specs.declared.value.Value.{Value}
use Rattle.codes.specs.declared.value.Value.TheVariants.{Off, On, Unknown}
use Rattle.codes.specs.Laws.{known}
use Rattle.systems.specs.Systems.{In, here, there, unknown_one}

pub never : {A : Type 0} → ◌≡◌ {A = ℕ} 0 1 → A
never e = absurd (omega arith)

pub known_unknown : (b : Bool) → known b ≡ Unknown → ⊥
known_unknown false e = let z : ◌≡◌ {A = ℕ} 0 1 = ap unknown_one e in omega arith
known_unknown true e = let z : ◌≡◌ {A = ℕ} 0 1 = ap unknown_one e in omega arith

pub known_inj : (a b : Bool) → known a ≡ known b → a ≡ b
known_inj false false e = refl
known_inj false true e = never (cc)
known_inj true false e = never (cc)
known_inj true true e = refl

-- a value is unknown or known
pub view : (v : Value) → (v ≡ Unknown) ⊎ ((b : Bool) × (v ≡ known b))
view Off = inr (false, refl)
view On = inr (true, refl)
view Unknown = inl refl

-- two states that are not different are the same
pub same_bool : (a b : Bool) → ((a ≡ b → ⊥) → ⊥) → a ≡ b
same_bool false false h = refl
same_bool true true h = refl
same_bool false true h = absurd (h (λ e. never (cc)))
same_bool true false h = absurd (h (λ e. never (cc)))

-- ---- members of lists
pub in_map : {A B : Type 0} (f : A → B) {a : A} {l : List A} → In a l → In (f a) (map f l)
in_map f here = here
in_map f (there m) = there (in_map f m)

pub map_in : {A B : Type 0} (f : A → B) (l : List A) (b : B) → In b (map f l) → (a : A) × In a l × (b ≡ f a)
map_in f [] b m = elim m [ ]
map_in f (a ∷ l) b here = (a, here, refl)
map_in f (a ∷ l) b (there m) = let q = map_in f l b m in (q.0, there q.1, q.2)

pub in_get_d : {A : Type 0} (l : List A) (k : ℕ) (d : A) → k < length l → In (get_or l k d) l
in_get_d [] k d h = absurd (omega arith)
in_get_d (a ∷ l) zero d h = here
in_get_d (a ∷ l) (suc k) d h = there (in_get_d l k d (omega arith))

pub get_d_in : {A : Type 0} (l : List A) (d a : A) → In a l → (k : ℕ) × (k < length l) × (get_or l k d ≡ a)
get_d_in [] d a m = elim m [ ]
get_d_in (b ∷ l) d a here = (0, omega arith, refl)
get_d_in (b ∷ l) d a (there m) = let q = get_d_in l d a m in (suc q.0, omega (arith, q.1), q.2)
