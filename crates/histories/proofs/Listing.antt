-- Over every history of calls the finds told are the first of the roll.
use Rattle.std.proofs.Common.{◌≡◌, ℕ, zero, suc, ◌+◌, ◌<◌, ◌≤◌, Bool, true, false, List, [], ◌∷◌, ◌++◌, map, get_or, sym, ◌∙◌, subst, inl, inr, append-nil, arith}
use Rattle.std.specs.List.{range_with_len}
use Rattle.std.proofs.lemmas.Bool.{cases_eq}
use Rattle.frames.specs.Frames.{cells}
use Rattle.rules.specs.declared.rule.Rule.{Rule}
use Rattle.rolls.specs.Rolls.{Surface, Roll}
use Rattle.rolls.specs.Laws.{Orders, Before}
use Rattle.classes.specs.Classed.{numbers_in, class_of}
use Rattle.classes.specs.Joins.{TiesInside}
use Rattle.systems.specs.Systems.{In}
use Rattle.systems.specs.Spaces.{system_of, spread, gather, classes_by_rank}
use Rattle.systems.proofs.Base.{never, in_map, map_in}
use Rattle.systems.proofs.Spaces.{solutions_right, spread_of}
use Rattle.histories.specs.Searches.{State, fresh, no_choice, Run, moved, Reply, done, Go, tells_it, is_done, pauses, goes_on, finds, ToCome, Sooner}
use Rattle.histories.specs.Laws.{Ascending, Told}
use Rattle.histories.specs.Listed.{Rising, Listed, told_of, HistoriesListed}
use Rattle.histories.proofs.Calls.{go_run, calls_run, pause_all, within}
use Rattle.histories.proofs.Telling.{runs_tell}

-- the first place at which two fillings differ along a list of classes
record Differs (h : ℕ → ℕ) (f g : List Bool) (a m : ℕ) : Type 0 where
  place : ℕ
  from : a ≤ place
  below : place < a + m
  off : get_or f (h place) false ≡ false
  on : get_or g (h place) false ≡ true
  alike : (k : ℕ) → a ≤ k → k < place → get_or f (h k) false ≡ get_or g (h k) false

sooner_place : (h : ℕ → ℕ) (f g : List Bool) (a m : ℕ) → Sooner (map h (range_with_len a m)) f g → Differs h f g a m
sooner_place h f g a zero l = absurd l
sooner_place h f g a (suc m) (inl q) =
    record { place = a; from = omega arith; below = omega arith; off = q.0; on = q.1; alike = λ k l u. absurd (omega arith) }
sooner_place h f g a (suc m) (inr q) =
    let d = sooner_place h f g (a + 1) m q.1 in
    record {
      place = d.place;
      from = omega (arith, d.from);
      below = omega (arith, d.below);
      off = d.off;
      on = d.on;
      alike = λ k l u. elim (cases_eq k a) [
        | inl e ↦ rw e q.0
        | inr e ↦ d.alike k (omega arith) u
      ];
    }

module _ (s : Surface) (r : Rule) (cell rank : ℕ → ℕ) (inside : TiesInside s) (o : Orders (cells s.frame) cell rank) where
  sooner_before : (f g : List Bool) → Sooner (classes_by_rank (numbers_in s).classes cell (cells s.frame)) f g → Before (cells s.frame) cell (spread s f) (spread s g)
  unfolding classes_by_rank
  sooner_before f g l =
      let d = sooner_place (λ k. class_of s (cell k)) f g 0 (cells s.frame) l in
      let in_box : (k : ℕ) → k ≤ d.place → cell k < cells s.frame = λ k u. o.within k (omega (arith, d.below)) in
      record {
        place = d.place;
        below = omega (arith, d.below);
        off = spread_of s inside f (cell d.place) (in_box d.place (omega arith)) ∙ d.off;
        on = spread_of s inside g (cell d.place) (in_box d.place (omega arith)) ∙ d.on;
        alike = λ k u. spread_of s inside f (cell k) (in_box k (omega arith)) ∙ d.alike k (omega arith) u ∙ sym (spread_of s inside g (cell k) (in_box k (omega arith)));
      }

  rising_of : (fs : List (List Bool)) → Ascending (classes_by_rank (numbers_in s).classes cell (cells s.frame)) fs → Rising (cells s.frame) cell (told_of s fs)
  rising_of [] a = tt
  rising_of (f ∷ fs) a = (
    (λ g m. let q = map_in (spread s) fs g m in rw q.2 (sooner_before f q.0 (a.0 q.0 q.1))),
    rising_of fs a.1,
  )

  told : (n : ℕ) (fs : List (List Bool)) (u : State) → Run (system_of s r cell) fresh n fs u → Told (system_of s r cell) fresh n fs u
  told n fs u run = runs_tell (system_of s r cell) ((solutions_right s r cell inside).proper rank o) fresh no_choice n fs u run

  -- every member is to come at the opening
  member_to_come : (f : List Bool) → Roll s r f → ToCome (system_of s r cell) fresh (gather s f)
  member_to_come f k = record { solves = (solutions_right s r cell inside).solves f k; after = omega arith }

  told_member : (f : List Bool) → Roll s r f → (fs : List (List Bool)) → In (gather s f) fs → In f (told_of s fs)
  told_member f k fs m = subst (λ (g : List Bool). In g (told_of s fs)) ((solutions_right s r cell inside).there f k) (in_map (spread s) m)

  listed : (n : ℕ) (fs : List (List Bool)) (u : State) → Run (system_of s r cell) fresh n fs u → Listed s r cell n (told_of s fs)
  listed n fs u run =
      let t = told n fs u run in
      let q = solutions_right s r cell inside in
      record {
        rising = rising_of fs t.ascending;
        members = λ f m.
            let w = map_in (spread s) fs f m in
            subst (Roll s r) (sym w.2) (q.keeps w.0 (t.was_to_come w.0 w.1).solves);
        rest = λ f g m k out.
            let w = map_in (spread s) fs f m in
            elim (t.none_lost (gather s g) (member_to_come g k)) [
              | inl h ↦ absurd (out (told_member g k fs h))
              | inr h ↦ subst (λ (e : List Bool). Before (cells s.frame) cell e g) (sym w.2)
                  (subst (Before (cells s.frame) cell (spread s w.0)) (q.there g k) (sooner_before w.0 (gather s g) (t.comes_later w.0 (gather s g) w.1 h)))
            ];
        few = rw (← q.free) t.few;
      }

  done_all : {b k : ℕ} {u u' : State} {a : Reply} → Go (system_of s r cell) b u a k u' → a ≡ done → (n : ℕ) (fs : List (List Bool)) → Run (system_of s r cell) fresh n fs u → (f : List Bool) → Roll s r f → In f (told_of s fs)
  done_all (tells_it m) e n fs run f h = never (cc)
  done_all (is_done {s = u} {s' = u'} m) e n fs run f h =
      let t = told n fs u run in
      elim (t.none_lost (gather s f) (member_to_come f h)) [
        | inl q ↦ told_member f h fs q
        | inr q ↦ absurd (t.ended u' m (gather s f) q)
      ]
  done_all (pauses m) e n fs run f h = never (cc)
  done_all (goes_on m g) e n fs run f h =
      rw (append-nil fs) at (done_all g e (n + 1) (fs ++ []) (moved run m) f h)

pub histories_listed : HistoriesListed
histories_listed s r cell rank inside o n fs u h b k a u' g =
    let run = calls_run h in
    record {
      listed = listed s r cell rank inside o (n + k) (fs ++ finds a) u' (go_run g n fs run);
      all_told = λ e f q. done_all s r cell rank inside o g e n fs run f q;
      all_used = pause_all g;
      none_over = within g;
    }
