-- A decision for the first rank whose class is unknown: what is held then may be settled, and the record follows the search of the system.
use Rattle.std.proofs.Common.{Vec, Global, ◌⊎◌, ◌≡◌, ℕ, zero, suc, ◌+◌, ◌<◌, ◌≤◌, Bool, false, List, [], ◌∷◌, ◌++◌, length, drop, set, Some, slice_index_or, refl, sym, ap, ◌∙◌, subst, inl, inr, arith}
use Rattle.std.proofs.Math.Seq.{drop-append_seam}
use Rattle.std.proofs.lemmas.Bool.{cases_lt}
use Rattle.std.proofs.lemmas.List.{get_or-set_same}
use Rattle.codes.specs.declared.value.Value.{Value}
use Rattle.codes.specs.declared.value.Value.TheVariants.{Unknown}
use Rattle.codes.specs.Codes.{is_unknown}
use Rattle.codes.specs.Laws.{known}
use Rattle.gathering.specs.Systems.{class_count}
use Rattle.systems.specs.Systems.{Sys, at, Below, Proper}
use Rattle.systems.specs.Settling.{Least, Dead}
use Rattle.systems.specs.Trails.{Trailed, not_yet, one_more, Held, hold, hold_if, Grows, QuietBut}
use Rattle.systems.proofs.Base.{in_get_d, known_unknown}
use Rattle.systems.proofs.Settle.{set_adds}
use Rattle.systems.proofs.Trails.{trailed_adds, trailed_long, trailed_then, quiet_still}
use Rattle.histories.specs.Searches.{sets, base, first_unknown}
use Rattle.histories.specs.Searches as searches
use Rattle.histories.proofs.Deciding.{decided_least, decided_dead, known_still}
use Rattle.settling.specs.Boards.{Kept, held_of, settled_len, trail_len, trail_of, unsettled_of, values_of}
use Rattle.search.specs.Decided.{first}
use Rattle.search.specs.Moves.{MayDecide, MaySettle}
use Rattle.search.specs.Stacks.{Stack, StandsAs, all_meant, decided, decided_in, is_contradiction, meant, ranked, undecided}
use Rattle.search.specs.Standings.{Follows, Renders}
use Rattle.settling.specs.declared.board.Board.{Board}
use Rattle.search.specs.declared.record.Record.{Record}
use Rattle.search.specs.declared.standing.Decision.{Decision}
use Rattle.search.specs.declared.standing.Standing.{Standing}
use Rattle.search.specs.declared.standing.Standing.TheVariants.{Contradiction, Find, Told, Choice}
use Rattle.search.proofs.Ranks.{is_unknown_true, is_unknown_false, known_false, rank_first}
use Rattle.search.proofs.Settled.{values_long}

-- a board with the same system under the same rule renders what the other did
pub renders_kept : {b c : Board} {S : Sys} → Kept b c → Renders b S → Renders c S
renders_kept k r = record { rule = rw k.table r.rule; there = rw k.system r.there; back = rw k.system r.back; sized = rw k.system r.sized; proper = r.proper }

-- to hold an unknown class is to set and note it
pub hold_is : (x : ℕ) (b : Bool) (g : Held) → at g.values x ≡ Unknown → hold x b g ≡ record { values = set g.values x (known b); trail = g.trail ++ x ∷ [] }
unfolding hold
hold_is x b g u = ap (λ (w : Value). hold_if w x b g) u

-- the values are those from the start with every class of the trail set
pub stack_trailed : {S : Sys} {ds : List Decision} {h : Held} → Proper S → Stack S ds h → Trailed S.start h.values h.trail
stack_trailed proper (undecided t) = t
stack_trailed {S} proper (decided d g {h} below least first_rank mark grows) =
    let x = ranked S.order d.rank in
    let t = stack_trailed proper below in
    let u = is_unknown_true (at g.values x) first_rank.unknown in
    let l : x < length g.values = omega (arith, proper.chosen x (in_get_d S.order d.rank 0 first_rank.there), trailed_long t) in
    let q = hold_is x d.on g u in
    let t₁ : Trailed S.start (hold x d.on g).values (hold x d.on g).trail = rw q (one_more x d.on t u l) in
    rw grows.trail (trailed_then t₁ grows.values)

pub meant_push : (order : List ℕ) (ds : List Decision) (d : Decision) → all_meant order (ds ++ d ∷ []) ≡ all_meant order ds ++ meant order d ∷ []
meant_push order [] d = refl
meant_push order (e ∷ ds) d = ap (λ (es : List searches.Decision). meant order e ∷ es) (meant_push order ds d)

-- each of some decisions and of one more
marks_push : (ds : List Decision) (d : Decision) (n : ℕ) → ((j : ℕ) → j < length ds → (slice_index_or ds j first).mark ≤ n) → d.mark ≤ n → (j : ℕ) → j < length (ds ++ d ∷ []) → (slice_index_or (ds ++ d ∷ []) j first).mark ≤ n
marks_push [] d n h l zero m = l
marks_push [] d n h l (suc j) m = absurd (omega arith)
marks_push (e ∷ ds) d n h l zero m = h 0 (omega arith)
marks_push (e ∷ ds) d n h l (suc j) m = marks_push ds d n (λ k q. h (suc k) (omega arith)) l j (omega arith)

module _ (S : Sys) (r : Record) (d : Decision) (may : MayDecide r S d) where
  abbrev x : ℕ
  x = ranked S.order d.rank

  abbrev g : Held
  g = held_of r.board

  proper : Proper S
  proper = may.board.proper

  unknown : at g.values x ≡ Unknown
  unknown = is_unknown_true (at g.values x) may.first_rank.unknown

  named : x < length S.start
  named = proper.chosen x (in_get_d S.order d.rank 0 may.first_rank.there)

  inside : x < length g.values
  inside = omega (arith, named, values_long may.board)

  same_class : ranked r.ranks.items d.rank ≡ x
  same_class = ap (λ (o : List ℕ). ranked o d.rank) (sym may.order)

  pub below_count : ranked r.ranks.items d.rank ≤ class_count r.board.system
  below_count = omega (arith, named, may.board.sized, same_class)

  -- ---- what is held then
  module _ (b : Board) (kept : Kept r.board b) (settled : settled_len b ≡ settled_len r.board) (held : held_of b ≡ hold (ranked r.ranks.items d.rank) d.on (held_of r.board)) where
    now_held : held_of b ≡ record { values = set g.values x (known d.on); trail = g.trail ++ x ∷ [] }
    now_held = held ∙ ap (λ (y : ℕ). hold y d.on g) same_class ∙ hold_is x d.on g unknown

    values_now : values_of b ≡ set g.values x (known d.on)
    values_now = ap (λ (h : Held). h.values) now_held

    trail_now : trail_of b ≡ g.trail ++ x ∷ []
    trail_now = ap (λ (h : Held). h.trail) now_held

    unsettled_now : unsettled_of b ≡ x ∷ []
    unsettled_now =
        let e : settled_len b ≡ length g.trail = omega (arith, settled, may.settled, r.board.known.trail.ok.0) in
        ap (λ (n : ℕ). drop n (trail_of b)) e ∙ ap (drop (length g.trail)) trail_now ∙ drop-append_seam g.trail (x ∷ [])

    quiet : QuietBut S (at (values_of b)) (unsettled_of b)
    quiet =
        let q : QuietBut S (at (set g.values x (known d.on))) (x ∷ []) =
        λ i m. quiet_still S.rule g.values (set g.values x (known d.on)) [] (x ∷ []) i (λ out. may.least.closed.quiet i m) (one_more x d.on not_yet unknown inside) in
        subst (λ (σ : List Value). QuietBut S (at σ) (unsettled_of b)) (sym values_now) (subst (QuietBut S (at (set g.values x (known d.on)))) (sym unsettled_now) q)

    begun : Below (at S.start) (at (values_of b))
    begun = subst (λ (σ : List Value). Below (at S.start) (at σ)) (sym values_now) (λ y a k. set_adds g.values x d.on unknown y a (trailed_adds (stack_trailed proper may.stack) y a k))

    -- every rank up to the decision's is known now
    known_now : (k : ℕ) → k < d.rank + 1 → is_unknown (at (values_of b) (ranked S.order k)) ≡ false
    known_now k l = subst (λ (σ : List Value). is_unknown (at σ (ranked S.order k)) ≡ false) (sym values_now) (by (cases_lt k d.rank))
      where
        by : (k < d.rank) ⊎ (d.rank ≤ k) → is_unknown (at (set g.values x (known d.on)) (ranked S.order k)) ≡ false
        by (inl m) = known_false _ (known_still (at g.values) (at (set g.values x (known d.on))) (set_adds g.values x d.on unknown) (ranked S.order k) (is_unknown_false _ (may.first_rank.known_before k m)))
        by (inr m) =
            let e : k ≡ d.rank = omega arith in
            known_false _ (λ u. known_unknown d.on (sym (get_or-set_same g.values x (known d.on) Unknown inside) ∙ ap (λ (j : ℕ). at (set g.values x (known d.on)) (ranked S.order j)) (sym e) ∙ u))

    pub may_settle : (r' : Record) → r'.board ≡ b → r'.ranks ≡ r.ranks → MaySettle r' S (d.rank + 1)
    may_settle r' e q =
        let o : S.order ≡ r'.ranks.items = may.order ∙ ap (λ (v : Vec ℕ Global). v.items) (sym q) in
        record {
          board = subst (λ (c : Board). Renders c S) (sym e) (renders_kept kept may.board);
          order = o;
          whole = may.least.closed.not_torn;
          quiet = subst (λ (c : Board). QuietBut S (at (values_of c)) (unsettled_of c)) (sym e) quiet;
          begun = subst (λ (c : Board). Below (at S.start) (at (values_of c))) (sym e) begun;
          known_before = λ k l. subst (λ (c : Board). is_unknown (at (values_of c) (ranked r'.ranks.items k)) ≡ false) (sym e) (subst (λ (o : List ℕ). is_unknown (at (values_of b) (ranked o k)) ≡ false) o (known_now k l));
        }

    -- ---- what the search stands as when the board is settled
    pushed_in : decided_in S (r.decisions.items ++ d ∷ []) ≡ base S.start (all_meant S.order r.decisions.items ++ sets x d.on ∷ [])
    pushed_in = ap (base S.start) (meant_push S.order r.decisions.items d)

    first_class : first_unknown (at g.values) S.order ≡ Some x
    first_class = rank_first (at g.values) S.order d.rank may.first_rank

    least_now : (τ : List Value) → Least S (values_of b) τ → Least S (decided_in S (r.decisions.items ++ d ∷ [])) τ
    least_now τ l = subst (λ (ρ : List Value). Least S ρ τ) (sym pushed_in)
        (decided_least S proper (all_meant S.order r.decisions.items) g.values may.least x first_class d.on τ (subst (λ (ρ : List Value). Least S ρ τ) values_now l))

    dead_now : Dead S (values_of b) → Dead S (decided_in S (r.decisions.items ++ d ∷ []))
    dead_now l = subst (Dead S) (sym pushed_in)
        (decided_dead S proper (all_meant S.order r.decisions.items) g.values may.least x first_class d.on (subst (Dead S) values_now l))

    stands_now : (τ : List Value) (s : Standing) → StandsAs S (values_of b) τ s → StandsAs S (decided_in S (r.decisions.items ++ d ∷ [])) τ s
    stands_now τ Contradiction h = dead_now h
    stands_now τ Find h = (least_now τ h.0, h.1)
    stands_now τ Told h = (least_now τ h.0, h.1)
    stands_now τ (Choice rank) h = (least_now τ h.0, h.1)

    module _ (r' : Record) (kept' : Kept b r'.board) (grows : Grows (held_of b) (held_of r'.board)) (onward : settled_len b ≤ settled_len r'.board)
        (ranks : r'.ranks ≡ r.ranks) (pushed : r'.decisions.items ≡ r.decisions.items ++ d ∷ [])
        (all_settled : is_contradiction r'.standing ≡ false → settled_len r'.board ≡ trail_len r'.board)
        (stands : StandsAs S (values_of b) (values_of r'.board) r'.standing) where
      pub follows : Follows r' S
      follows =
          let grown : Grows (hold x d.on g) (held_of r'.board) = subst (λ (h : Held). Grows h (held_of r'.board)) (held ∙ ap (λ (y : ℕ). hold y d.on g) same_class) grows in
          let stack : Stack S (r.decisions.items ++ d ∷ []) (held_of r'.board) = decided d g may.stack may.least may.first_rank (omega (arith, may.mark, r.board.known.trail.ok.0)) grown in
          record {
            board = renders_kept kept' (renders_kept kept may.board);
            order = may.order ∙ ap (λ (v : Vec ℕ Global). v.items) (sym ranks);
            stack = subst (λ (ds : List Decision). Stack S ds (held_of r'.board)) (sym pushed) stack;
            marks = λ j l.
                subst (λ (ds : List Decision). (slice_index_or ds j first).mark ≤ settled_len r'.board) (sym pushed)
                (marks_push r.decisions.items d (settled_len r'.board)
                (λ k m. omega (arith, may.marks k (omega (arith, m, r.decisions.ok.0)), settled, onward))
                (omega (arith, may.mark, may.settled, settled, onward))
                j (omega (arith, l, r'.decisions.ok.0, ap length pushed)));
            settled = all_settled;
            stands = subst (λ (ds : List Decision). StandsAs S (decided_in S ds) (values_of r'.board) r'.standing) (sym pushed) (stands_now (values_of r'.board) r'.standing stands);
          }
