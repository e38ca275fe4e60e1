-- From any state a search tells what is to come, in sequence, each once.
use Rattle.std.proofs.Common.{◌≡◌, ℕ, ◌+◌, ◌≤◌, Bool, true, false, ◌⊎◌, List, [], ◌∷◌, ◌++◌, map, length, get_or, set, Some, sym, refl, ◌∙◌, inl, inr, append-nil, arith, length-set}
use lib.ListN.{length-map}
use Rattle.std.proofs.lemmas.List.{ext_get_or, length_push}
use Rattle.std.proofs.lemmas.Bool.{cases_lt}
use Rattle.codes.specs.declared.value.Value.{Value}
use Rattle.codes.specs.Laws.{known}
use Rattle.systems.specs.Systems.{In, here, there, Sys, at, whole, Sol, Proper, unknowns}
use Rattle.systems.specs.Settling.{Least}
use Rattle.systems.proofs.Base.{known_inj}
use Rattle.systems.proofs.Gathered.{in_left, in_right, in_either}
use Rattle.systems.proofs.Solutions.{sol_closed, closed_sol, at_map, at_known}
use Rattle.histories.specs.Searches.{Decision, sets, base, first_unknown, Turns, Stands, State, Says, finished, Back, Move, tell, choose, turn, finish, tells, counts, Run, begun, moved, Sooner, side, bit, ToCome, index}
use Rattle.histories.specs.Laws.{Ascending, Told, RunsTell}
use Rattle.histories.proofs.Index.{index_high, index_turn, index_push}
use Rattle.histories.proofs.Sides.{on_side, turn_side, push_side, bit_le}
use Rattle.histories.proofs.Standing.{stands_push, stands_turn, stands_adds, stands_few, under_below, below_under, sooner_side}

-- ---- one more at the end of a list
in_one : {A : Type 0} (a b : A) → In b (a ∷ []) → b ≡ a
in_one a b here = refl
in_one a b (there k) = elim k [ ]

in_push : {A : Type 0} (l : List A) (a b : A) → In b (l ++ a ∷ []) → In b l ⊎ (b ≡ a)
in_push l a b m = elim (in_either l (a ∷ []) b m) [ inl k ↦ inl k | inr k ↦ inr (in_one a b k) ]

ascending_push : (o : List ℕ) (fs : List (List Bool)) (g : List Bool) → Ascending o fs → ((f : List Bool) → In f fs → Sooner o f g) → Ascending o (fs ++ g ∷ [])
ascending_push o [] g h k = ((λ f m. elim m [ ]), tt)
ascending_push o (f ∷ fs) g h k = (
  (λ x m. elim (in_push fs g x m) [ inl q ↦ h.0 x q | inr e ↦ rw e (k f here) ]),
  ascending_push o fs g h.1 (λ x m. k x (there m)),
)

pub base_long : (ρ : List Value) (ds : List Decision) → length (base ρ ds) ≡ length ρ
base_long ρ [] = refl
base_long ρ (sets x b ∷ ds) = base_long (set ρ x (known b)) ds ∙ length-set ρ x (known b)

-- ---- what holds at every state of a run from a state
record Inv (S : Sys) (from : State) (fs : List (List Bool)) (ds : List Decision) (told : Bool) : Type 0 where
  stands : Stands S S.start ds
  members : (f : List Bool) → In f fs → ToCome S from f × (side f ds ≤ bit told)
  complete : (f : List Bool) → ToCome S from f → side f ds ≤ bit told → In f fs
  gone : (f : List Bool) → Sol S f → side f from.standing ≤ bit from.told → side f ds ≤ bit told
  ascending : Ascending S.order fs

module _ (S : Sys) (proper : Proper S) (from : State) where
  -- past a contradiction or a find that is told, what is not after the state is gone
  left_behind : (ds : List Decision) (told : Bool) (f : List Bool) → Back S ds told → Sol S f → side f ds ≤ 1 → side f ds ≤ bit told
  left_behind ds told f (inr e) s h = rw e h
  left_behind ds told f (inl dead) s h =
      elim (cases_lt (side f ds) 1) [
        | inl k ↦ omega arith
        | inr k ↦ absurd (dead (whole f) (sol_closed S f s) (under_below S proper f S.start ds (omega arith) s.musts))
      ]

  start_inv : Stands S S.start from.standing → Inv S from [] from.standing from.told
  start_inv c =
      record {
        stands = c;
        members = λ f m. elim m [ ];
        complete = λ f t h. absurd (omega (arith, t.after));
        gone = λ f s h. h;
        ascending = tt;
      }

  choose_inv : (fs : List (List Bool)) (ds : List Decision) (σ : List Value) (x : ℕ) → Least S (base S.start ds) σ → first_unknown (at σ) S.order ≡ Some x → Inv S from fs ds false → Inv S from fs (ds ++ sets x false ∷ []) false
  choose_inv fs ds σ x l e v =
      record {
        stands = stands_push S σ x false v.stands l e;
        members = λ f m. ((v.members f m).0, (push_side f ds x).0 (v.members f m).1);
        complete = λ f t h. v.complete f t ((push_side f ds x).1 h);
        gone = λ f s h. (push_side f ds x).0 (v.gone f s h);
        ascending = v.ascending;
      }

  turn_inv : (fs : List (List Bool)) (ds ds' : List Decision) (told : Bool) → Back S ds told → Turns ds ds' → Inv S from fs ds told → Inv S from fs ds' false
  turn_inv fs ds ds' told k t v =
      record {
        stands = stands_turn S t v.stands;
        members = λ f m. ((v.members f m).0, (turn_side f t).0 (omega (arith, (v.members f m).1, bit_le told)));
        complete = λ f c h. v.complete f c (left_behind ds told f k c.solves ((turn_side f t).1 h));
        gone = λ f s h. (turn_side f t).0 (omega (arith, v.gone f s h, bit_le told));
        ascending = v.ascending;
      }

  module _ (fs : List (List Bool)) (ds : List Decision) (f : List Bool) (l : Least S (base S.start ds) (map known f)) (v : Inv S from fs ds false) where
    find_size : length f ≡ length S.start
    find_size = sym (length-map f known) ∙ l.long ∙ base_long S.start ds

    find_solves : Sol S f
    find_solves = closed_sol S proper f find_size (λ x b e. l.above x b (stands_adds S proper v.stands x b e)) l.closed

    find_under : side f ds ≡ 1
    find_under = below_under S proper f refl v.stands (λ x b e. at_known f x b (l.above x b e))

    find_only : (g : List Bool) → Sol S g → side g ds ≡ 1 → g ≡ f
    find_only g s e =
        ext_get_or false g f (s.size ∙ sym find_size)
        (λ i k. known_inj (get_or g i false) (get_or f i false)
        (l.least (whole g) (sol_closed S g s) (under_below S proper g S.start ds e s.musts) i (get_or f i false) (at_map f i (omega (arith, s.size, find_size)))))

    find_to_come : ToCome S from f
    find_to_come =
        record {
          solves = find_solves;
          after = elim (cases_lt (bit from.told) (side f from.standing)) [
            | inl k ↦ k
            | inr k ↦ absurd (omega (arith, v.gone f find_solves k, find_under))
          ];
        }

    tell_inv : Inv S from (fs ++ f ∷ []) ds true
    tell_inv =
        record {
          stands = v.stands;
          members = λ g m. elim (in_push fs f g m) [
            | inl k ↦ ((v.members g k).0, omega (arith, (v.members g k).1))
            | inr e ↦ rw e (find_to_come, omega (arith, find_under))
          ];
          complete = λ g t h. elim (cases_lt (side g ds) 1) [
            | inl k ↦ in_left (f ∷ []) (v.complete g t (omega arith))
            | inr k ↦ rw (find_only g t.solves (omega arith)) (in_right fs here)
          ];
          gone = λ g s h. omega (arith, v.gone g s h);
          ascending = ascending_push S.order fs f v.ascending
              (λ g m. let q = v.members g m in
              sooner_side S proper g f q.0.solves find_solves v.stands q.0.solves.musts find_solves.musts (omega (arith, q.1, find_under)));
        }

  record Kept (n : ℕ) (fs : List (List Bool)) (s : State) : Type 0 where
    inv : Inv S from fs s.standing s.told
    onward : n + index (unknowns S.start) from.standing ≤ index (unknowns S.start) s.standing

  few_of : (ds : List Decision) → Stands S S.start ds → length ds ≤ unknowns S.start
  few_of ds c = stands_few S proper refl c

  kept_move : {n : ℕ} {fs : List (List Bool)} {s s' : State} {e : Says} → Kept n fs s → Move S s e s' → Kept (n + counts e) (fs ++ tells e) s'
  kept_move {n} {fs} k (tell {ds} {f} l) = record { inv = tell_inv fs ds f l k.inv; onward = omega (arith, k.onward) }
  kept_move {n} {fs} k (finish b a) = record { inv = rw (append-nil fs) k.inv; onward = omega (arith, k.onward) }
  kept_move {n} {fs} k (turn {ds} {ds'} {b} q t) =
      record {
        inv = rw (append-nil fs) (turn_inv fs ds ds' b q t k.inv);
        onward = omega (arith, k.onward, index_turn (unknowns S.start) t (few_of ds k.inv.stands));
      }
  kept_move {n} {fs} k (choose {ds} {σ} {x} l e) =
      let v = choose_inv fs ds σ x l e k.inv in
      record {
        inv = rw (append-nil fs) v;
        onward = omega (arith, k.onward, index_push (unknowns S.start) ds x (omega (arith, few_of (ds ++ sets x false ∷ []) v.stands, length_push ds (sets x false))));
      }

  kept : {n : ℕ} {fs : List (List Bool)} {s : State} → Stands S S.start from.standing → Run S from n fs s → Kept n fs s
  kept c begun = record { inv = start_inv c; onward = omega arith }
  kept c (moved r m) = kept_move (kept c r) m

  end_all : {s s' : State} → Move S s finished s' → (f : List Bool) → ToCome S s f → ⊥
  end_all (finish {ds} {b} q a) f t = omega (arith, t.after, left_behind ds b f q t.solves (on_side f a))

  told_of : (n : ℕ) (fs : List (List Bool)) (s : State) → Kept n fs s → Told S from n fs s
  told_of n fs s k =
      let v = k.inv in
      record {
        stands = v.stands;
        ascending = v.ascending;
        was_to_come = λ f m. (v.members f m).0;
        past = λ f m t. omega (arith, (v.members f m).1, t.after);
        none_lost = λ f t. elim (cases_lt (bit s.told) (side f s.standing)) [
          | inl h ↦ inr (record { solves = t.solves; after = h })
          | inr h ↦ inl (v.complete f t h)
        ];
        still = λ f t. record {
          solves = t.solves;
          after = elim (cases_lt (bit from.told) (side f from.standing)) [
            | inl h ↦ h
            | inr h ↦ absurd (omega (arith, v.gone f t.solves h, t.after))
          ];
        };
        comes_later = λ f g m t. let q = v.members f m in
            sooner_side S proper f g q.0.solves t.solves v.stands q.0.solves.musts t.solves.musts (omega (arith, q.1, t.after));
        ended = λ s' m f t. end_all m f t;
        onward = k.onward;
        few = omega (arith, k.onward, index_high (unknowns S.start) s.standing (few_of s.standing v.stands));
      }

pub runs_tell : RunsTell
runs_tell S proper from c n fs s r = told_of S proper from n fs s (kept S proper from c r)
