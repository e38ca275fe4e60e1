-- The search as it is computed makes the moves, and no state is without one.
use Rattle.std.proofs.Common.{◌≡◌, ℕ, zero, suc, ◌<◌, Bool, true, false, List, [], ◌∷◌, map, length, Some, None, Option, sym, refl, ap, ◌∙◌, inl, inr, arith}
use Rattle.codes.specs.declared.value.Value.{Value}
use Rattle.codes.specs.declared.value.Value.TheVariants.{Off, On, Unknown}
use Rattle.codes.specs.Laws.{known}
use Rattle.systems.specs.Systems.{In, here, there, Sys, at, Proper}
use Rattle.systems.specs.Settling.{Least, settled}
use Rattle.systems.proofs.Base.{never, known_unknown, view}
use Rattle.systems.proofs.Settle.{settles_least, meets_dead}
use Rattle.systems.proofs.Looking.{Comes, settled_comes}
use Rattle.histories.specs.Searches.{Decision, sets, base, or_else, first_unknown, AllOn, no_more, one_on, Turns, last_off, later, Stands, State, Says, found, stepped, finished, Back, Move, tell, choose, turn, finish, Reply, paused, Go, tells_it, is_done, pauses, goes_on}
use Rattle.histories.specs.Going.{turned_at, turned, onto, filled, Next, next_tell, next_end, next_step, next_back, next_told, next_choice, next_full, next_of, next, Gone, one_more, go_by, go}
use Rattle.histories.specs.Laws.{NeverStuck, GoComputed, GoLaws}
use Rattle.histories.proofs.Standing.{stands_adds, stands_push, stands_turn}
use Rattle.histories.proofs.Telling.{base_long}
use Rattle.histories.proofs.Calls.{go_one, go_alike, pause_all, within}

-- ---- turns and fillings
turns_to : List Decision → Option (List Decision) → Type 0
turns_to ds None = AllOn ds
turns_to ds (Some ds') = Turns ds ds'

turn_at : (d : Decision) (ds : List Decision) (o : Option (List Decision)) → turns_to ds o → turns_to (d ∷ ds) (turned_at d o)
unfolding turns_to
turn_at d ds (Some ds') h = later h
turn_at (sets x true) ds None h = one_on h
turn_at (sets x false) ds None h = last_off h

turned_is : (ds : List Decision) → turns_to ds (turned ds)
unfolding turns_to
turned_is [] = no_more
turned_is (d ∷ ds) = turn_at d ds (turned ds) (turned_is ds)

-- values that are all known are those of a filling, and others have an unknown class
onto_is : (b : Bool) (ws : List Value) (o : Option (List Bool)) (f : List Bool) → ((g : List Bool) → o ≡ Some g → ws ≡ map known g) → onto b o ≡ Some f → known b ∷ ws ≡ map known f
onto_is b ws None f h e = never (cc)
onto_is b ws (Some g) f h e = let q : f ≡ b ∷ g = cc in rw (q, h g refl) refl

pub filled_is : (ws : List Value) (f : List Bool) → filled ws ≡ Some f → ws ≡ map known f
filled_is [] f e = let q : f ≡ [] = cc in rw q refl
filled_is (Off ∷ ws) f e = onto_is false ws (filled ws) f (filled_is ws) e
filled_is (On ∷ ws) f e = onto_is true ws (filled ws) f (filled_is ws) e
filled_is (Unknown ∷ ws) f e = never (cc)

onto_none : (b : Bool) (o : Option (List Bool)) → onto b o ≡ None → o ≡ None
onto_none b None e = refl
onto_none b (Some g) e = never (cc)

open_at : (ws : List Value) → filled ws ≡ None → (x : ℕ) × (x < length ws) × (at ws x ≡ Unknown)
open_at [] e = never (cc)
open_at (Off ∷ ws) e = let q = open_at ws (onto_none false (filled ws) e) in (suc q.0, omega (arith, q.1), q.2)
open_at (On ∷ ws) e = let q = open_at ws (onto_none true (filled ws) e) in (suc q.0, omega (arith, q.1), q.2)
open_at (Unknown ∷ ws) e = (0, omega arith, refl)

none_unknown : (v : ℕ → Value) {x : ℕ} {xs : List ℕ} → v x ≡ Unknown → In x xs → first_unknown v xs ≡ None → ⊥
none_unknown v {x} e (here {l = xs}) q = let k : Some x ≡ None = ap (λ (u : Value). or_else u x (first_unknown v xs)) (sym e) ∙ q in never (cc)
none_unknown v e (there {b = y} {l = ys} m) q = none_unknown v e m (tail (v y) q)
  where
    tail : (u : Value) → or_else u y (first_unknown v ys) ≡ None → first_unknown v ys ≡ None
    tail Off k = k
    tail On k = k
    tail Unknown k = never (cc)

-- ---- moves
module _ (S : Sys) (ds : List Decision) (b : Bool) where
  -- what the next move says
  unfoldable pub Moves : Next → Type 0
  Moves (next_tell f) = Move S (record { standing = ds; told = b }) (found f) (record { standing = ds; told = true })
  Moves next_end = Move S (record { standing = ds; told = b }) finished (record { standing = ds; told = b })
  Moves (next_step ds') = Move S (record { standing = ds; told = b }) stepped (record { standing = ds'; told = false })

  back_moves : Back S ds b → (o : Option (List Decision)) → turns_to ds o → Moves (next_back o)
  unfolding Moves turns_to
  back_moves k None h = finish k h
  back_moves k (Some ds') h = turn k h

told_moves : (S : Sys) (ds : List Decision) (f : List Bool) (b : Bool) → Least S (base S.start ds) (map known f) → Moves S ds b (next_told b f ds)
unfolding Moves
told_moves S ds f false l = tell l
told_moves S ds f true l = back_moves S ds true (inr refl) (turned ds) (turned_is ds)

module _ (S : Sys) (proper : Proper S) (ds : List Decision) (c : Stands S S.start ds) where
  -- values that are not all known have an unknown class with a rank
  pub choice_some : (σ : List Value) → Least S (base S.start ds) σ → filled σ ≡ None → first_unknown (at σ) S.order ≡ None → ⊥
  choice_some σ l e q =
      let w = open_at σ e in
      let x = w.0 in
      let i : x < length S.start = omega (arith, w.1, l.long, base_long S.start ds) in
      let u : at S.start x ≡ Unknown =
      elim (view (at S.start x)) [
        | inl k ↦ k
        | inr k ↦ absurd (known_unknown k.0 (sym (l.above x k.0 (stands_adds S proper c x k.0 k.1)) ∙ w.2))
      ] in
      none_unknown (at σ) w.2 (proper.choosable x i u) q

  choice_moves : (σ : List Value) (b : Bool) → Least S (base S.start ds) σ → filled σ ≡ None → (o : Option ℕ) → first_unknown (at σ) S.order ≡ o → Moves S ds b (next_choice b o ds)
  unfolding Moves
  choice_moves σ true l k o e = back_moves S ds true (inr refl) (turned ds) (turned_is ds)
  choice_moves σ false l k None e = absurd (choice_some σ l k e)
  choice_moves σ false l k (Some x) e = choose l e

  full_moves : (σ : List Value) (b : Bool) → Least S (base S.start ds) σ → (o : Option (List Bool)) → filled σ ≡ o → Moves S ds b (next_full S.order b o σ ds)
  full_moves σ b l None e = choice_moves σ b l e (first_unknown (at σ) S.order) refl
  full_moves σ b l (Some f) e = told_moves S ds f b (rw (filled_is σ f e) at l)

  next_moves : (b : Bool) (o : Option (List Value)) → Comes S (base S.start ds) o → Moves S ds b (next_of S o (record { standing = ds; told = b }))
  unfolding Comes
  next_moves b None h = back_moves S ds b (inl (meets_dead S h)) (turned ds) (turned_is ds)
  next_moves b (Some σ) h = full_moves σ b (settles_least S h) (filled σ) refl

module _ (S : Sys) (proper : Proper S) where
  pub next_is : (s : State) → Stands S S.start s.standing → Moves S s.standing s.told (next S s)
  unfolding next
  next_is s c =
      next_moves S proper s.standing c s.told (settled S (base S.start s.standing))
      (settled_comes S proper (base S.start s.standing) (base_long S.start s.standing))

  moves_on : (s : State) (k : Next) → Moves S s.standing s.told k → (e : Says) × (s' : State) × Move S s e s'
  unfolding Moves
  moves_on s (next_tell f) m = (found f, record { standing = s.standing; told = true }, m)
  moves_on s next_end m = (finished, s, m)
  moves_on s (next_step ds) m = (stepped, record { standing = ds; told = false }, m)

  -- decisions stay such as choices make them
  pub move_stands : {s s' : State} {e : Says} → Move S s e s' → Stands S S.start s.standing → Stands S S.start s'.standing
  move_stands (tell l) c = c
  move_stands (finish b a) c = c
  move_stands (turn b t) c = stands_turn S t c
  move_stands (choose {σ = σ} {x = x} l e) c = stands_push S σ x false c l e

  abbrev Goes : ℕ → State → Gone → Type 0
  Goes n s g = Go S n s g.reply g.steps g.state

  last_goes : (s : State) (x : Next) → Moves S s.standing s.told x → Goes zero s (go_by (λ ds. record { reply = paused; steps = 0; state = s }) s x)
  unfolding Moves
  last_goes s (next_tell f) m = tells_it m
  last_goes s next_end m = is_done m
  last_goes s (next_step ds) m = pauses m

  more_goes : (n : ℕ) (k : State → Gone) → ((u : State) → Stands S S.start u.standing → Goes n u (k u)) → (s : State) → Stands S S.start s.standing → (x : Next) → Moves S s.standing s.told x →
      Goes (suc n) s (go_by (λ ds. one_more (k (record { standing = ds; told = false }))) s x)
  unfolding Moves
  more_goes n k h s c (next_tell f) m = tells_it m
  more_goes n k h s c next_end m = is_done m
  more_goes n k h s c (next_step ds) m = goes_on m (h (record { standing = ds; told = false }) (move_stands m c))

  pub go_goes : (n : ℕ) (s : State) → Stands S S.start s.standing → Goes n s (go S n s)
  unfolding go
  go_goes zero s c = last_goes s (next S s) (next_is s c)
  go_goes (suc n) s c = more_goes n (go S n) (go_goes n) s c (next S s) (next_is s c)

-- after a call the decisions are still such as choices make them
pub call_stands : (S : Sys) (proper : Proper S) {n k : ℕ} {a : Reply} {s s' : State} → Go S n s a k s' → Stands S S.start s.standing → Stands S S.start s'.standing
call_stands S proper (tells_it m) c = move_stands S proper m c
call_stands S proper (is_done m) c = move_stands S proper m c
call_stands S proper (pauses m) c = c
call_stands S proper (goes_on m g) c = call_stands S proper g (move_stands S proper m c)

pub go_stands : (S : Sys) (proper : Proper S) (n : ℕ) (s : State) → Stands S S.start s.standing → Stands S S.start (go S n s).state.standing
go_stands S proper n s c = call_stands S proper (go_goes S proper n s c) c

pub never_stuck : NeverStuck
never_stuck S proper s c = moves_on S proper s (next S s) (next_is S proper s c)

pub go_computed : GoComputed
go_computed =
    record {
      goes = λ S proper n s c. go_goes S proper n s c;
      only = λ S proper n k a s s' c g. go_one S proper n (go S n s).steps k (go S n s).reply a s (go S n s).state s' (go_goes S proper n s c) g;
    }

pub go_laws : GoLaws
go_laws =
    record {
      one = go_one;
      never_stuck = never_stuck;
      computed = go_computed;
      uses = record { paused_used = λ S b k s s' g. pause_all g refl; never_more = λ S b k a s s' g. within g };
      alike = go_alike;
    }
