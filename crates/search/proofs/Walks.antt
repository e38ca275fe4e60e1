-- Steps one after another, and the call of go that takes them.
use Rattle.std.specs.Prelude.{unwrap_or}
use Rattle.std.proofs.Common.{◌-◌, IfSome, MatchOption, Vec, Global, take, ◌++◌, vec_len, ◌≡◌, ℕ, zero, suc, ◌+◌, ◌<◌, ◌≤◌, Bool, true, false, List, [], ◌∷◌, length, Some, None, Option, slice_index_or, refl, sym, ap, ◌∙◌, subst, arith}
use Rattle.systems.specs.Systems.{Sys, at}
use Rattle.systems.proofs.Base.{never}
use Rattle.systems.specs.Settling.{Least}
use Rattle.histories.specs.Searches.{sets, choose, turn, tells_find, State, stepped, Move, Reply, Go, goes_on, pauses, tells_it, is_done, tell, finish, paused}
use Rattle.settling.specs.Boards.{held_of, settled_len, trail_len, values_of}
use Rattle.search.specs.Decided.{first}
use Rattle.search.specs.Answers.{steps_of}
use Rattle.search.specs.Moves.{HasStep, Steps, turns_back, reply_in, Due, Gone}
use Rattle.search.specs.Stacks.{Stack, ranked, find_in, is_contradiction, LastOff, StandsAs, all_meant, decided_in, is_told}
use Rattle.settling.specs.declared.board.Board.{Board}
use Rattle.search.specs.Standings.{Follows, Renders, state_of}
use Rattle.search.specs.declared.answer.Answer.{Answer}
use Rattle.search.specs.declared.answer.Answer.TheVariants.{Found, Done, Paused}
use Rattle.search.specs.declared.record.Record.{Record}
use Rattle.search.specs.declared.standing.Decision.{Decision}
use Rattle.search.specs.declared.standing.Standing.{Standing}
use Rattle.search.specs.declared.standing.Standing.TheVariants.{Contradiction, Find, Told, Choice}
use Rattle.search.proofs.Ranks.{rank_first}
use Rattle.search.proofs.Turned.{back_there, made_on, none_off, turned_to}

-- so many steps lead from one state to another
pub data Walked (S : Sys) : ℕ → State → State → Type 0 where
  not_yet : {s : State} → Walked S 0 s s
  one_more : {n : ℕ} {s s' s'' : State} → Walked S n s s' → Move S s' stepped s'' → Walked S (n + 1) s s''

pub walked_go : {S : Sys} {n b k : ℕ} {s s' s'' : State} {a : Reply} → Walked S n s s' → Go S b s' a k s'' → Go S (n + b) s a (n + k) s''
walked_go {S} {b = b} {k = k} {s'' = s''} {a = a} (not_yet {s = s}) g =
    let e : b ≡ 0 + b = omega arith in
    let q : k ≡ 0 + k = omega arith in
    rw (← e, ← q) g
walked_go {S} {b = b} {k = k} {s = s} {s'' = s''} {a = a} (one_more {n = n} w m) g =
    let e : n + suc b ≡ n + 1 + b = omega arith in
    let q : n + suc k ≡ n + 1 + k = omega arith in
    rw (← e, ← q) (walked_go w (goes_on m g))

-- the last decision that is off can be found
find_off : (ds : List Decision) → (o : Option ℕ) × LastOff ds o
find_off [] = (None, λ k l. absurd (omega arith))
find_off (d ∷ ds) = by (find_off ds) d.on refl
  where
    by : ((o : Option ℕ) × LastOff ds o) → (b : Bool) → d.on ≡ b → (o : Option ℕ) × LastOff (d ∷ ds) o
    by (Some n, h) b e = (Some (suc n), (omega (arith, h.0), h.1, after))
      where
        after : (k : ℕ) → suc n < k → k < length (d ∷ ds) → (slice_index_or (d ∷ ds) k first).on ≡ true
        after zero l m = absurd (omega arith)
        after (suc k) l m = h.2 k (omega arith) (omega arith)
    by (None, h) false e = (Some 0, (omega arith, e, after))
      where
        after : (k : ℕ) → 0 < k → k < length (d ∷ ds) → (slice_index_or (d ∷ ds) k first).on ≡ true
        after zero l m = absurd (omega arith)
        after (suc k) l m = h k (omega arith)
    by (None, h) true e = (None, each)
      where
        each : (k : ℕ) → k < length (d ∷ ds) → (slice_index_or (d ∷ ds) k first).on ≡ true
        each zero l = e
        each (suc k) l = h k (omega arith)

-- one decision that is off is enough
pub off_none : (ds : List Decision) (n : ℕ) → LastOff ds (Some n) → LastOff ds None → ⊥
off_none ds n h none = never (cc (h.1, none n h.0))

module _ (S : Sys) (r : Record) (follows : Follows r S) where
  state_is : state_of r ≡ record { standing = all_meant S.order r.decisions.items; told = is_told r.standing }
  state_is = ap (λ (order : List ℕ). record { standing = all_meant order r.decisions.items; told = is_told r.standing }) (sym follows.order)

  -- a search that has a step to take takes one
  pub steps_on : HasStep r → (s : State) × Move S (state_of r) stepped s
  steps_on has = by r.standing refl follows.stands
    where
      off : (e : turns_back r.standing ≡ true) → ((o : Option ℕ) × LastOff r.decisions.items o) → (s : State) × Move S (state_of r) stepped s
      off e (None, h) = absurd (has.some_off e h)
      off e (Some n, h) = (
        record { standing = all_meant S.order (take n r.decisions.items ++ made_on (slice_index_or r.decisions.items n first) ∷ []); told = false },
        subst (λ (s : State). Move S s stepped (record { standing = all_meant S.order (take n r.decisions.items ++ made_on (slice_index_or r.decisions.items n first) ∷ []); told = false })) (sym state_is) (turn (back_there S r r.standing e follows.stands) (turned_to S.order r.decisions.items n h)),
      )

      by : (s : Standing) → r.standing ≡ s → StandsAs S (decided_in S r.decisions.items) (values_of r.board) s → (t : State) × Move S (state_of r) stepped t
      by Contradiction e h = off (ap turns_back e) (find_off r.decisions.items)
      by Told e h = off (ap turns_back e) (find_off r.decisions.items)
      by Find e h = absurd (has.no_find e)
      by (Choice rank) e h = (
        record { standing = all_meant S.order r.decisions.items ++ sets (ranked S.order rank) false ∷ []; told = false },
        subst (λ (s : State). Move S s stepped (record { standing = all_meant S.order r.decisions.items ++ sets (ranked S.order rank) false ∷ []; told = false })) (sym (state_is ∙ ap (λ (s : Standing). record { standing = all_meant S.order r.decisions.items; told = is_told s }) e)) (choose h.0 (rank_first (at (values_of r.board)) S.order rank h.1)),
      )

  module _ (r' : Record) (e : r.standing ≡ Find) (e' : r'.standing ≡ Told) (board : r'.board ≡ r.board) (ranks : r'.ranks ≡ r.ranks) (decisions : r'.decisions ≡ r.decisions) where
    at_find : StandsAs S (decided_in S r.decisions.items) (values_of r.board) Find
    at_find = subst (StandsAs S (decided_in S r.decisions.items) (values_of r.board)) e follows.stands

    told_now : state_of r' ≡ record { standing = all_meant S.order r.decisions.items; told = true }
    told_now =
        ap (λ (v : Vec ℕ Global). record { standing = all_meant v.items r'.decisions.items; told = is_told r'.standing }) ranks
        ∙ ap (λ (order : List ℕ). record { standing = all_meant order r'.decisions.items; told = is_told r'.standing }) (sym follows.order)
        ∙ ap (λ (v : Vec Decision Global). record { standing = all_meant S.order v.items; told = is_told r'.standing }) decisions
        ∙ ap (λ (s : Standing). record { standing = all_meant S.order r.decisions.items; told = is_told s }) e'

    untold : state_of r ≡ record { standing = all_meant S.order r.decisions.items; told = false }
    untold = state_is ∙ ap (λ (s : Standing). record { standing = all_meant S.order r.decisions.items; told = is_told s }) e

    follows_told : Follows r' S
    follows_told =
        record {
          board = subst (λ (b : Board). Renders b S) (sym board) follows.board;
          order = follows.order ∙ ap (λ (v : Vec ℕ Global). v.items) (sym ranks);
          stack = subst (λ (b : Board). Stack S r'.decisions.items (held_of b)) (sym board) (subst (λ (v : Vec Decision Global). Stack S v.items (held_of r.board)) (sym decisions) follows.stack);
          marks = subst (λ (b : Board). (j : ℕ) → j < vec_len r'.decisions → (slice_index_or r'.decisions.items j first).mark ≤ settled_len b) (sym board)
              (subst (λ (v : Vec Decision Global). (j : ℕ) → j < vec_len v → (slice_index_or v.items j first).mark ≤ settled_len r.board) (sym decisions) follows.marks);
          settled = λ q. subst (λ (b : Board). settled_len b ≡ trail_len b) (sym board) (follows.settled (ap is_contradiction e));
          stands = subst (StandsAs S (decided_in S r'.decisions.items) (values_of r'.board)) (sym e')
              (subst (λ (b : Board). StandsAs S (decided_in S r'.decisions.items) (values_of b) Told) (sym board)
              (subst (λ (v : Vec Decision Global). StandsAs S (decided_in S v.items) (values_of r.board) Told) (sym decisions) at_find));
        }

    pub due_found : (n : ℕ) → Due S r r' (Found n)
    due_found n =
        record {
          follows = follows_told;
          go = λ m.
              subst (λ (s : State). Go S m s (reply_in r' (Found n)) 0 (state_of r')) (sym untold)
              (subst (λ (s : State). Go S m (record { standing = all_meant S.order r.decisions.items; told = false }) (reply_in r' (Found n)) 0 s) (sym told_now)
              (subst (λ (b : Board). Go S m (record { standing = all_meant S.order r.decisions.items; told = false }) (tells_find (find_in (values_of b))) 0 (record { standing = all_meant S.order r.decisions.items; told = true })) (sym board)
              (tells_it (tell (subst (Least S (decided_in S r.decisions.items)) at_find.1 at_find.0)))));
        }

  pub due_done : (n : ℕ) → turns_back r.standing ≡ true → LastOff r.decisions.items None → Due S r r (Done n)
  due_done n e none =
      record {
        follows = follows;
        go = λ n. subst (λ (s : State). Go S n s (reply_in r (Done n)) 0 s) (sym state_is) (is_done (finish (back_there S r r.standing e follows.stands) (none_off S.order r.decisions.items none)));
      }

-- ---- what the calls come to
-- a record with another mark of whether the last go found, and the same tally, follows the system too
pub follows_again : {r r' : Record} {S : Sys} → r'.ranks ≡ r.ranks → r'.board ≡ r.board → r'.decisions ≡ r.decisions → r'.standing ≡ r.standing → Follows r S → Follows r' S × (state_of r' ≡ state_of r)
follows_again {r} {r'} {S} ranks board decisions standing f = (
  record {
    board = subst (λ (b : Board). Renders b S) (sym board) f.board;
    order = f.order ∙ ap (λ (v : Vec ℕ Global). v.items) (sym ranks);
    stack = subst (λ (b : Board). Stack S r'.decisions.items (held_of b)) (sym board) (subst (λ (v : Vec Decision Global). Stack S v.items (held_of r.board)) (sym decisions) f.stack);
    marks = subst (λ (b : Board). (j : ℕ) → j < vec_len r'.decisions → (slice_index_or r'.decisions.items j first).mark ≤ settled_len b) (sym board)
        (subst (λ (v : Vec Decision Global). (j : ℕ) → j < vec_len v → (slice_index_or v.items j first).mark ≤ settled_len r.board) (sym decisions) f.marks);
    settled = λ q. subst (λ (b : Board). settled_len b ≡ trail_len b) (sym board) (f.settled (ap is_contradiction (sym standing) ∙ q));
    stands = subst (StandsAs S (decided_in S r'.decisions.items) (values_of r'.board)) (sym standing)
        (subst (λ (b : Board). StandsAs S (decided_in S r'.decisions.items) (values_of b) r.standing) (sym board)
        (subst (λ (v : Vec Decision Global). StandsAs S (decided_in S v.items) (values_of r.board) r.standing) (sym decisions) f.stands));
  },
  ap (λ (v : Vec ℕ Global). record { standing = all_meant v.items r'.decisions.items; told = is_told r'.standing }) ranks
      ∙ ap (λ (v : Vec Decision Global). record { standing = all_meant r.ranks.items v.items; told = is_told r'.standing }) decisions
      ∙ ap (λ (s : Standing). record { standing = all_meant r.ranks.items r.decisions.items; told = is_told s }) standing,
)

module _ (S : Sys) (r mid : Record) (taken : ℕ) (walked : Walked S taken (state_of r) (state_of mid)) where
  pub walk_more : (due new : Record) → Follows mid S → due ≡ mid → HasStep mid → (Follows due S → HasStep due → Steps S due new) → Follows new S × Walked S (taken + 1) (state_of r) (state_of new)
  walk_more due new f e has steps =
      let s = steps (subst (λ (r : Record). Follows r S) (sym e) f) (subst HasStep (sym e) has) in
      (s.follows, one_more walked (subst (λ (r : Record). Move S (state_of r) stepped (state_of new)) e s.move))

  pub gone_due : (n : ℕ) (new : Record) (a : Answer) → taken ≤ n → steps_of a ≡ taken → Due S mid new a → Gone S n r new a
  gone_due n new a l e due =
      let p : taken + (n - taken) ≡ n = omega arith in
      let q : taken + 0 ≡ steps_of a = omega (arith, e) in
      record {
        follows = due.follows;
        go = subst (λ (b : ℕ). Go S b (state_of r) (reply_in new a) (steps_of a) (state_of new)) p
            (subst (λ (k : ℕ). Go S (taken + (n - taken)) (state_of r) (reply_in new a) k (state_of new)) q (walked_go walked (due.go (n - taken))));
      }

  gone_paused : Follows mid S → HasStep mid → Gone S taken r mid (Paused taken)
  gone_paused f has =
      let p : taken + 0 ≡ taken = omega arith in
      record {
        follows = f;
        go = subst (λ (b : ℕ). Go S b (state_of r) paused taken (state_of mid)) p
            (subst (λ (k : ℕ). Go S (taken + 0) (state_of r) paused k (state_of mid)) p (walked_go walked (pauses (steps_on S mid f has).1)));
      }

  pub gone_last : (new : Record) (o : Option Answer) → Follows mid S → IfSome o (λ a. steps_of a ≡ taken) →
      MatchOption o ((new ≡ mid) × HasStep mid) (λ a. (S : Sys) → Follows mid S → Due S mid new a) → (a : Answer) → a ≡ unwrap_or o (Paused taken) → Gone S taken r new a
  gone_last new None f steps due a e = subst (Gone S taken r new) (sym e) (subst (λ (m : Record). Gone S taken r m (Paused taken)) (sym due.0) (gone_paused f due.1))
  gone_last new (Some b) f steps due a e = subst (Gone S taken r new) (sym e) (gone_due taken new b (omega arith) steps (due S f))
