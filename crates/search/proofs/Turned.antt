-- A choice and a turn are the moves of the search's definition, and what a turn takes off the trail gives back what was held.
use Rattle.std.proofs.Common.{Vec, Global, ◌≡◌, ℕ, zero, suc, ◌<◌, ◌≤◌, Bool, true, false, List, [], ◌∷◌, ◌++◌, length, take, get_or, min, Some, None, slice_index_or, refl, sym, ap, ◌∙◌, subst, inl, inr, arith}
use Rattle.std.proofs.lemmas.Bool.{cases_lt}
use Rattle.std.proofs.lemmas.List.{get_or_append_left, length_push, length-append, take-append-le}
use Rattle.std.proofs.Math.Seq.{get_or-append_seam, take-append_seam}
use Rattle.codes.specs.declared.value.Value.{Value}
use Rattle.systems.specs.Systems.{Sys, at, Proper}
use Rattle.systems.specs.Settling.{Least}
use Rattle.systems.specs.Trails.{Trailed, not_yet, one_more, Held, hold, Grows}
use Rattle.systems.proofs.Base.{never, in_get_d}
use Rattle.systems.proofs.Trails.{grows_then, trailed_long}
use Rattle.histories.specs.Searches.{sets, AllOn, no_more, one_on, Turns, last_off, later, State, stepped, Back, Move, choose, turn}
use Rattle.histories.specs.Searches as searches
use Rattle.settling.specs.Boards.{held_of, settled_len, trail_len, trail_of, values_of}
use Rattle.settling.specs.Boards.{Kept}
use Rattle.search.specs.Decided.{first}
use Rattle.search.specs.Moves.{MayDecide, turns_back}
use Rattle.search.specs.Stacks.{FirstRank, LastOff, Stack, StandsAs, all_meant, decided, decided_in, is_contradiction, is_told, ranked, undecided}
use Rattle.search.specs.Standings.{Follows, Renders, state_of}
use Rattle.settling.specs.declared.board.Board.{Board}
use Rattle.search.specs.declared.record.Record.{Record}
use Rattle.search.specs.declared.standing.Decision.{Decision}
use Rattle.search.specs.declared.standing.Standing.{Standing}
use Rattle.search.specs.declared.standing.Standing.TheVariants.{Contradiction, Find, Told, Choice}
use Rattle.search.proofs.Decided.{hold_is, meant_push, renders_kept, stack_trailed}
use Rattle.search.proofs.Ranks.{is_unknown_true, rank_first}

-- ---- a choice
module _ (S : Sys) (r : Record) (follows : Follows r S) (rank : ℕ) (at_choice : r.standing ≡ Choice rank) where
  settled_there : is_contradiction r.standing ≡ false
  settled_there = ap is_contradiction at_choice

  stands_there : StandsAs S (decided_in S r.decisions.items) (values_of r.board) (Choice rank)
  stands_there = subst (StandsAs S (decided_in S r.decisions.items) (values_of r.board)) at_choice follows.stands

  pub may_choose : (mark : ℕ) → mark ≡ trail_len r.board → MayDecide r S (record { rank = rank; on = false; mark = mark })
  may_choose mark e =
      record {
        board = follows.board;
        order = follows.order;
        stack = follows.stack;
        marks = follows.marks;
        settled = follows.settled settled_there;
        mark = sym e;
        least = stands_there.0;
        first_rank = stands_there.1;
      }

  pub chose : (mark : ℕ) (r' : Record) → r'.ranks ≡ r.ranks → r'.decisions.items ≡ r.decisions.items ++ record { rank = rank; on = false; mark = mark } ∷ [] → is_told r'.standing ≡ false → Move S (state_of r) stepped (state_of r')
  chose mark r' ranks pushed untold =
      let ds = r.decisions.items in
      let d : Decision = record { rank = rank; on = false; mark = mark } in
      let o : r.ranks.items ≡ S.order = sym follows.order in
      let o' : r'.ranks.items ≡ S.order = ap (λ (v : Vec ℕ Global). v.items) ranks ∙ o in
      let e : state_of r ≡ record { standing = all_meant S.order ds; told = false } =
      ap (λ (order : List ℕ). record { standing = all_meant order ds; told = is_told r.standing }) o ∙ ap (λ (s : Standing). record { standing = all_meant S.order ds; told = is_told s }) at_choice in
      let e' : state_of r' ≡ record { standing = all_meant S.order ds ++ sets (ranked S.order rank) false ∷ []; told = false } =
      ap (λ (order : List ℕ). record { standing = all_meant order r'.decisions.items; told = is_told r'.standing }) o'
      ∙ ap (λ (es : List Decision). record { standing = all_meant S.order es; told = is_told r'.standing }) pushed
      ∙ ap (λ (b : Bool). record { standing = all_meant S.order (ds ++ d ∷ []); told = b }) untold
      ∙ ap (λ (es : List searches.Decision). record { standing = es; told = false }) (meant_push S.order ds d) in
      let m : Move S (record { standing = all_meant S.order ds; told = false }) stepped (record { standing = all_meant S.order ds ++ sets (ranked S.order rank) false ∷ []; told = false }) =
      choose stands_there.0 (rank_first (at (values_of r.board)) S.order rank stands_there.1) in
      subst (λ (s : State). Move S s stepped (state_of r')) (sym e) (subst (Move S (record { standing = all_meant S.order ds; told = false }) stepped) (sym e') m)

-- ---- what was held before a decision
pub record Popped (S : Sys) (ds : List Decision) (h : Held) (n : ℕ) : Type 0 where
  pub before : Held
  pub stack : Stack S (take n ds) before
  pub least : Least S (decided_in S (take n ds)) before.values
  pub first_rank : FirstRank (at before.values) S.order (slice_index_or ds n first).rank
  pub mark : length before.trail ≡ (slice_index_or ds n first).mark
  pub grows : Grows before h

grows_decided : (S : Sys) → Proper S → (ds : List Decision) (g : Held) → Stack S ds g → (rank : ℕ) (on : Bool) → FirstRank (at g.values) S.order rank → Grows g (hold (ranked S.order rank) on g)
grows_decided S proper ds g below rank on f =
    let x = ranked S.order rank in
    let u = is_unknown_true (at g.values x) f.unknown in
    let l : x < length g.values = omega (arith, proper.chosen x (in_get_d S.order rank 0 f.there), trailed_long (stack_trailed proper below)) in
    rw (hold_is x on g u) (record { added = x ∷ []; trail = refl; values = one_more x on not_yet u l })

pub popped : {S : Sys} {ds : List Decision} {h : Held} → Proper S → Stack S ds h → (n : ℕ) → n < length ds → Popped S ds h n
popped proper (undecided t) n l = absurd (omega arith)
popped {S} proper (decided {es = es} d g {h} below least first_rank mark grows) n l =
    let onto : Grows g h = grows_then (grows_decided S proper es g below d.rank d.on first_rank) grows in
    elim (cases_lt n (length es)) [
      | inl m ↦ (let p = popped proper below n m in
          let t = take-append-le n es (d ∷ []) (omega arith) in
          let q = get_or_append_left es (d ∷ []) first n m in
          record {
            before = p.before;
            stack = subst (λ (ds : List Decision). Stack S ds p.before) (sym t) p.stack;
            least = subst (λ (ds : List Decision). Least S (decided_in S ds) p.before.values) (sym t) p.least;
            first_rank = subst (λ (c : Decision). FirstRank (at p.before.values) S.order c.rank) (sym q) p.first_rank;
            mark = p.mark ∙ ap (λ (c : Decision). c.mark) (sym q);
            grows = grows_then p.grows onto;
          })
      | inr m ↦ (let e : n ≡ length es = omega (arith, l, m, length_push es d) in
          let t : take n (es ++ d ∷ []) ≡ es = ap (λ (k : ℕ). take k (es ++ d ∷ [])) e ∙ take-append_seam es (d ∷ []) in
          let q : slice_index_or (es ++ d ∷ []) n first ≡ d = ap (λ (k : ℕ). get_or (es ++ d ∷ []) k first) e ∙ get_or-append_seam es d [] first in
          record {
            before = g;
            stack = subst (λ (ds : List Decision). Stack S ds g) (sym t) below;
            least = subst (λ (ds : List Decision). Least S (decided_in S ds) g.values) (sym t) least;
            first_rank = subst (λ (c : Decision). FirstRank (at g.values) S.order c.rank) (sym q) first_rank;
            mark = mark ∙ ap (λ (c : Decision). c.mark) (sym q);
            grows = onto;
          })
    ]

-- every decision's mark lies within the trail
pub marks_within : {S : Sys} {ds : List Decision} {h : Held} → Proper S → Stack S ds h → (j : ℕ) → j < length ds → (slice_index_or ds j first).mark ≤ length h.trail
marks_within proper stack j l =
    let p = popped proper stack j l in
    let e = ap length p.grows.trail in
    omega (arith, p.mark, e, length-append p.before.trail p.grows.added)

-- ---- a turn
all_on : (order : List ℕ) (ds : List Decision) → ((k : ℕ) → k < length ds → (slice_index_or ds k first).on ≡ true) → AllOn (all_meant order ds)
all_on order [] h = no_more
all_on order (d ∷ ds) h = rw (h 0 (omega arith)) (one_on (all_on order ds (λ k l. h (suc k) (omega arith))))

pub none_off : (order : List ℕ) (ds : List Decision) → LastOff ds None → AllOn (all_meant order ds)
none_off order ds h = all_on order ds h

-- a decision made on
abbrev pub made_on : Decision → Decision
made_on d = record { rank = d.rank; on = true; mark = d.mark }

pub turned_to : (order : List ℕ) (ds : List Decision) (n : ℕ) → LastOff ds (Some n) → Turns (all_meant order ds) (all_meant order (take n ds ++ made_on (slice_index_or ds n first) ∷ []))
turned_to order [] n h = absurd (omega (arith, h.0))
turned_to order (d ∷ ds) zero h = rw h.1 (last_off (all_on order ds (λ k l. h.2 (suc k) (omega arith) (omega arith))))
turned_to order (d ∷ ds) (suc n) h = later (turned_to order ds n (omega (arith, h.0), h.1, λ k l m. h.2 (suc k) (omega arith) (omega arith)))

-- where the search has to turn back it may, in the words of its definition
pub back_there : (S : Sys) (r : Record) (s : Standing) → turns_back s ≡ true → StandsAs S (decided_in S r.decisions.items) (values_of r.board) s → Back S (all_meant S.order r.decisions.items) (is_told s)
back_there S r Contradiction e h = inl h
back_there S r Find e h = never (cc)
back_there S r Told e h = inr refl
back_there S r (Choice rank) e h = never (cc)

module _ (S : Sys) (r : Record) (follows : Follows r S) (n : ℕ) (off : LastOff r.decisions.items (Some n)) where
  abbrev d : Decision
  d = slice_index_or r.decisions.items n first

  p : Popped S r.decisions.items (held_of r.board) n
  p = popped follows.board.proper follows.stack n off.0

  -- what is put back is what was held before the decision
  module _ (b : Board) (kept : Kept r.board b) (settled : settled_len b ≡ min d.mark (settled_len r.board))
      (back : (σ : List Value) (xs ys : List ℕ) → trail_of r.board ≡ xs ++ ys → length xs ≡ d.mark → Trailed σ (values_of r.board) ys → (values_of b ≡ σ) × (trail_of b ≡ xs)) where
    put_back : (values_of b ≡ p.before.values) × (trail_of b ≡ p.before.trail)
    put_back = back p.before.values p.before.trail p.grows.added p.grows.trail p.mark p.grows.values

    held_back : held_of b ≡ p.before
    held_back = ap (λ (ρ : List Value). record { values = ρ; trail = trail_of b }) put_back.0 ∙ ap (λ (xs : List ℕ). record { values = p.before.values; trail = xs }) put_back.1

    settled_back : settled_len b ≡ d.mark
    settled_back = omega (arith, settled, follows.marks n (omega (arith, off.0, r.decisions.ok.0)))

    trail_back : trail_len b ≡ d.mark
    trail_back = omega (arith, p.mark, ap length put_back.1, b.known.trail.ok.0)

    module _ (r' : Record) (e : r'.board ≡ b) (ranks : r'.ranks ≡ r.ranks) (dropped : r'.decisions.items ≡ take n r.decisions.items) where
      may_turn_so : MayDecide r' S (made_on d)
      may_turn_so =
          record {
            board = subst (λ (c : Board). Renders c S) (sym e) (renders_kept kept follows.board);
            order = follows.order ∙ ap (λ (v : Vec ℕ Global). v.items) (sym ranks);
            stack = subst (λ (c : Board). Stack S r'.decisions.items (held_of c)) (sym e) (subst (λ (ds : List Decision). Stack S ds (held_of b)) (sym dropped) (subst (Stack S (take n r.decisions.items)) (sym held_back) p.stack));
            marks = λ j l.
                subst (λ (c : Board). (slice_index_or r'.decisions.items j first).mark ≤ settled_len c) (sym e)
                (subst (λ (ds : List Decision). (slice_index_or ds j first).mark ≤ settled_len b) (sym dropped)
                (omega (arith, marks_within follows.board.proper p.stack j (omega (arith, l, r'.decisions.ok.0, ap length dropped)), p.mark, settled_back)));
            settled = subst (λ (c : Board). settled_len c ≡ trail_len c) (sym e) (settled_back ∙ sym trail_back);
            mark = subst (λ (c : Board). trail_len c ≡ d.mark) (sym e) trail_back;
            least = subst (λ (c : Board). Least S (decided_in S r'.decisions.items) (values_of c)) (sym e) (subst (λ (ds : List Decision). Least S (decided_in S ds) (values_of b)) (sym dropped) (subst (Least S (decided_in S (take n r.decisions.items))) (sym put_back.0) p.least));
            first_rank = subst (λ (c : Board). FirstRank (at (values_of c)) S.order d.rank) (sym e) (subst (λ (ρ : List Value). FirstRank (at ρ) S.order d.rank) (sym put_back.0) p.first_rank);
          }

      pub may_turn : (c : Decision) → c ≡ d → MayDecide r' S (made_on c)
      may_turn c q = subst (λ (c : Decision). MayDecide r' S (made_on c)) (sym q) may_turn_so

  pub turned : (r' : Record) → turns_back r.standing ≡ true → r'.ranks ≡ r.ranks → r'.decisions.items ≡ take n r.decisions.items ++ made_on d ∷ [] → is_told r'.standing ≡ false → Move S (state_of r) stepped (state_of r')
  turned r' goes_back ranks pushed untold =
      let ds = r.decisions.items in
      let o : r.ranks.items ≡ S.order = sym follows.order in
      let o' : r'.ranks.items ≡ S.order = ap (λ (v : Vec ℕ Global). v.items) ranks ∙ o in
      let e : state_of r ≡ record { standing = all_meant S.order ds; told = is_told r.standing } =
      ap (λ (order : List ℕ). record { standing = all_meant order ds; told = is_told r.standing }) o in
      let e' : state_of r' ≡ record { standing = all_meant S.order (take n ds ++ made_on d ∷ []); told = false } =
      ap (λ (order : List ℕ). record { standing = all_meant order r'.decisions.items; told = is_told r'.standing }) o'
      ∙ ap (λ (es : List Decision). record { standing = all_meant S.order es; told = is_told r'.standing }) pushed
      ∙ ap (λ (b : Bool). record { standing = all_meant S.order (take n ds ++ made_on d ∷ []); told = b }) untold in
      let m : Move S (record { standing = all_meant S.order ds; told = is_told r.standing }) stepped (record { standing = all_meant S.order (take n ds ++ made_on d ∷ []); told = false }) =
      turn (back_there S r r.standing goes_back follows.stands) (turned_to S.order ds n off) in
      subst (λ (s : State). Move S s stepped (state_of r')) (sym e) (subst (Move S (record { standing = all_meant S.order ds; told = is_told r.standing }) stepped) (sym e') m)
