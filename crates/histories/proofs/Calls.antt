-- Calls of go: each is a part of a run, and each state allows one.
use Rattle.std.proofs.Common.{◌≡◌, ℕ, suc, ◌+◌, ◌<◌, ◌≤◌, Bool, false, List, [], ◌∷◌, ◌++◌, map, length, get_or, Some, sym, refl, ap, ◌∙◌, subst, inl, inr, append-nil, add-zero, arith}
use lib.ListN.{length-map}
use Rattle.codes.specs.declared.value.Value.{Value}
use Rattle.codes.specs.declared.value.Value.TheVariants.{Unknown}
use Rattle.codes.specs.Laws.{known}
use Rattle.systems.specs.Systems.{Sys, at, Proper}
use Rattle.systems.specs.Settling.{Least, Dead}
use Rattle.systems.specs.Alike.{Alike}
use Rattle.systems.proofs.Base.{never, known_unknown, known_inj}
use Rattle.systems.proofs.Settle.{least_one, least_dead}
use Rattle.systems.proofs.Solutions.{at_map}
use Rattle.systems.proofs.Alike.{least_alike, dead_alike}
use Rattle.histories.specs.Searches.{Decision, base, first_unknown, AllOn, no_more, one_on, Turns, last_off, later, State, Says, found, Back, Move, tell, choose, turn, finish, Run, begun, moved, Reply, tells_find, paused, Go, tells_it, is_done, pauses, goes_on, finds, Calls, no_call, called}
use Rattle.histories.specs.Laws.{GoOne, GoAlike}
use Rattle.histories.proofs.Standing.{first_in, first_unknown_is}
use Rattle.histories.proofs.Telling.{base_long}

-- ---- calls are parts of a run
pub go_run : {S : Sys} {from : State} {b k : ℕ} {s s' : State} {a : Reply} → Go S b s a k s' → (n : ℕ) (fs : List (List Bool)) → Run S from n fs s → Run S from (n + k) (fs ++ finds a) s'
go_run (tells_it m) n fs r = moved r m
go_run (is_done m) n fs r = moved r m
go_run (pauses m) n fs r = rw (add-zero n, append-nil fs) r
go_run (goes_on {k = k} {a = a} m g) n fs r =
    let e : n + suc k ≡ (n + 1) + k = omega arith in
    let q : fs ++ finds a ≡ (fs ++ []) ++ finds a = ap (λ (l : List (List Bool)). l ++ finds a) (sym (append-nil fs)) in
    rw (e, q) (go_run g (n + 1) (fs ++ []) (moved r m))

pub calls_run : {S : Sys} {from : State} {n : ℕ} {fs : List (List Bool)} {s : State} → Calls S from n fs s → Run S from n fs s
calls_run no_call = begun
calls_run (called {n = n} {fs = fs} c g) = go_run g n fs (calls_run c)

pub pause_all : {S : Sys} {b k : ℕ} {s s' : State} {a : Reply} → Go S b s a k s' → a ≡ paused → k ≡ b
pause_all (tells_it m) e = never (cc)
pause_all (is_done m) e = never (cc)
pause_all (pauses m) e = refl
pause_all (goes_on m g) e = ap suc (pause_all g e)

pub within : {S : Sys} {b k : ℕ} {s s' : State} {a : Reply} → Go S b s a k s' → k ≤ b
within (tells_it m) = omega arith
within (is_done m) = omega arith
within (pauses m) = omega arith
within (goes_on m g) = omega (arith, within g)

-- ---- each state has one move
on_no_turn : {ds ds' : List Decision} → AllOn ds → Turns ds ds' → ⊥
on_no_turn no_more t = elim t [ ]
on_no_turn (one_on a) (later t) = on_no_turn a t

turns_one : {ds ds' ds'' : List Decision} → Turns ds ds' → Turns ds ds'' → ds' ≡ ds''
turns_one (last_off a) (last_off b) = refl
turns_one (last_off a) (later t) = absurd (on_no_turn a t)
turns_one (later t) (last_off a) = absurd (on_no_turn a t)
turns_one (later {d = d} t) (later u) = ap {B = List Decision} (λ l. d ∷ l) (turns_one t u)

map_known_inj : (f g : List Bool) → map known f ≡ map known g → f ≡ g
map_known_inj [] [] e = refl
map_known_inj [] (b ∷ g) e = never (cc)
map_known_inj (a ∷ f) [] e = never (cc)
map_known_inj (a ∷ f) (b ∷ g) e = let p : a ≡ b = known_inj a b (cc) in let q : f ≡ g = map_known_inj f g (cc) in rw (p, q) refl

module _ (S : Sys) (proper : Proper S) where
  back_least : (ds : List Decision) (σ : List Value) → Back S ds false → Least S (base S.start ds) σ → ⊥
  back_least ds σ (inl d) l = least_dead S l d
  back_least ds σ (inr e) l = never (cc)

  full_choice : (ds : List Decision) (f : List Bool) (σ : List Value) (x : ℕ) → Least S (base S.start ds) (map known f) → Least S (base S.start ds) σ → first_unknown (at σ) S.order ≡ Some x → ⊥
  full_choice ds f σ x l k e =
      let same = least_one S k l in
      let u : at (map known f) x ≡ Unknown = rw (← same) (first_unknown_is (at σ) S.order x e) in
      let i : x < length f = omega (arith, proper.chosen x (first_in (at σ) S.order x e), length-map f known, l.long, base_long S.start ds) in
      known_unknown (get_or f x false) (sym (at_map f x i) ∙ u)

  first_one : (ds : List Decision) (σ τ : List Value) (x y : ℕ) → Least S (base S.start ds) σ → Least S (base S.start ds) τ → first_unknown (at σ) S.order ≡ Some x → first_unknown (at τ) S.order ≡ Some y → x ≡ y
  first_one ds σ τ x y l k p q = let e = least_one S l k in let p' : first_unknown (at τ) S.order ≡ Some x = rw (← e) p in cc

  pub move_one : {s s' s'' : State} {e e' : Says} → Move S s e s' → Move S s e' s'' → (e ≡ e') × (s' ≡ s'')
  move_one (tell {ds} {f} l) (tell {f = g} k) = (ap found (map_known_inj f g (least_one S l k)), refl)
  move_one (tell {ds} {f} l) (finish q a) = absurd (back_least ds (map known f) q l)
  move_one (tell {ds} {f} l) (turn q t) = absurd (back_least ds (map known f) q l)
  move_one (tell {ds} {f} l) (choose {σ = σ} {x = x} k e) = absurd (full_choice ds f σ x l k e)
  move_one (finish q a) (tell {ds} {f} l) = absurd (back_least ds (map known f) q l)
  move_one (finish q a) (finish p b) = (refl, refl)
  move_one (finish q a) (turn p t) = absurd (on_no_turn a t)
  move_one (finish q a) (choose {ds} {σ} l e) = absurd (back_least ds σ q l)
  move_one (turn q t) (tell {ds} {f} l) = absurd (back_least ds (map known f) q l)
  move_one (turn q t) (finish p b) = absurd (on_no_turn b t)
  move_one (turn q t) (turn p u) = (refl, rw (turns_one t u) refl)
  move_one (turn q t) (choose {ds} {σ} l e) = absurd (back_least ds σ q l)
  move_one (choose {ds} {σ} {x} k e) (tell {f = f} l) = absurd (full_choice ds f σ x l k e)
  move_one (choose {ds} {σ} l e) (finish q a) = absurd (back_least ds σ q l)
  move_one (choose {ds} {σ} l e) (turn q t) = absurd (back_least ds σ q l)
  move_one (choose {ds} {σ} {x} l e) (choose {σ = τ} {x = y} k q) = (refl, rw (first_one ds σ τ x y l k e q) refl)

pub go_one : GoOne
go_one S proper b k l a c s s' s'' (tells_it {f = f} m) (tells_it {f = g} n) = let q = move_one S proper m n in let e : f ≡ g = cc q.0 in (ap tells_find e, refl, q.1)
go_one S proper b k l a c s s' s'' (tells_it m) (is_done n) = let q = move_one S proper m n in never (cc q.0)
go_one S proper b k l a c s s' s'' (tells_it m) (pauses n) = let q = move_one S proper m n in never (cc q.0)
go_one S proper b k l a c s s' s'' (tells_it m) (goes_on n g) = let q = move_one S proper m n in never (cc q.0)
go_one S proper b k l a c s s' s'' (is_done m) (tells_it n) = let q = move_one S proper m n in never (cc q.0)
go_one S proper b k l a c s s' s'' (is_done m) (is_done n) = let q = move_one S proper m n in (refl, refl, q.1)
go_one S proper b k l a c s s' s'' (is_done m) (pauses n) = let q = move_one S proper m n in never (cc q.0)
go_one S proper b k l a c s s' s'' (is_done m) (goes_on n g) = let q = move_one S proper m n in never (cc q.0)
go_one S proper b k l a c s s' s'' (pauses m) (tells_it n) = let q = move_one S proper m n in never (cc q.0)
go_one S proper b k l a c s s' s'' (pauses m) (is_done n) = let q = move_one S proper m n in never (cc q.0)
go_one S proper b k l a c s s' s'' (pauses m) (pauses n) = (refl, refl, refl)
go_one S proper b k l a c s s' s'' (goes_on m g) (tells_it n) = let q = move_one S proper m n in never (cc q.0)
go_one S proper b k l a c s s' s'' (goes_on m g) (is_done n) = let q = move_one S proper m n in never (cc q.0)
go_one S proper b k l a c s s' s'' (goes_on {n = h} {k = i} {s' = u} m g) (goes_on {k = j} {s' = v} n o) =
    let q = move_one S proper m n in
    let r = go_one S proper h i j a c u s' s'' g (rw q.1 o) in
    (r.0, ap suc r.1, r.2)

-- ---- systems with the same instances
module _ (S S' : Sys) (a : Alike S S') where
  base_alike : (ds : List Decision) → base S.start ds ≡ base S'.start ds
  base_alike ds = ap (λ (ρ : List Value). base ρ ds) a.start

  least_there : (ds : List Decision) (σ : List Value) → Least S (base S.start ds) σ → Least S' (base S'.start ds) σ
  least_there ds σ l = subst (λ (ρ : List Value). Least S' ρ σ) (base_alike ds) (least_alike S S' a (base S.start ds) σ l)

  back_there : (ds : List Decision) (told : Bool) → Back S ds told → Back S' ds told
  back_there ds told (inl d) = inl (subst (Dead S') (base_alike ds) (dead_alike S S' a (base S.start ds) d))
  back_there ds told (inr e) = inr e

  move_alike : {s s' : State} {e : Says} → Move S s e s' → Move S' s e s'
  move_alike (tell {ds} {f} l) = tell (least_there ds (map known f) l)
  move_alike (finish {ds} {b} q o) = finish (back_there ds b q) o
  move_alike (turn {ds} {ds'} {b} q t) = turn (back_there ds b q) t
  move_alike (choose {ds} {σ} {x} l e) = choose (least_there ds σ l) (ap (first_unknown (at σ)) (sym a.order) ∙ e)

  calls_alike : {b k : ℕ} {r : Reply} {s s' : State} → Go S b s r k s' → Go S' b s r k s'
  calls_alike (tells_it m) = tells_it (move_alike m)
  calls_alike (is_done m) = is_done (move_alike m)
  calls_alike (pauses m) = pauses (move_alike m)
  calls_alike (goes_on m g) = goes_on (move_alike m) (calls_alike g)

pub go_alike : GoAlike
go_alike S S' a b k r s s' g = calls_alike S S' a g
