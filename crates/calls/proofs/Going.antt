-- Opening and going: what has come of a search is kept up by each call.
use Rattle.std.proofs.Common.{◌≡◌, ℕ, ◌+◌, min, cond, Bool, true, false, List, [], ◌∷◌, ◌++◌, Some, None, Ok, refl, sym, ap, ◌∙◌, subst, arith, append-nil}
use Rattle.std.proofs.lemmas.List.{map-append, length_push}
use Rattle.std.proofs.lemmas.Nat.{pow_pos}
use Rattle.classes.specs.Asked.{free_among}
use Rattle.classes.specs.Needed.{musts_in}
use Rattle.frames.specs.Frames.{cells}
use Rattle.rules.specs.declared.rule.Rule.{Rule}
use Rattle.rolls.specs.Laws.{Orders}
use Rattle.rolls.specs.Rolls.{Surface}
use Rattle.systems.specs.Spaces.{spread, system_of}
use Rattle.systems.specs.Systems.{In}
use Rattle.histories.specs.Listed.{After, Listed, told_of}
use Rattle.histories.specs.Searches.{State, fresh, Reply, tells_find, done, paused, Go, finds, no_call, called}
use Rattle.histories.proofs.Listing.{histories_listed}
use Rattle.search.specs.Answers.{steps_of}
use Rattle.search.specs.Calls.{Goes, IsOpen, find_of, found_by, reply_of, state_in, told_by}
use Rattle.search.specs.Moves.{found_after, tally_after}
use Rattle.search.specs.declared.answer.Answer.{Answer}
use Rattle.search.specs.declared.answer.Answer.TheVariants.{Found, Done, Paused}
use Rattle.search.specs.declared.search.Search.{Search}
use Rattle.calls.specs.Asked.{to_go}
use Rattle.calls.specs.Histories.{Keeps, Stands}
use Rattle.calls.specs.Ledgers.{Book, Called, Granted, Ledger, ends, found_book, idle_book, new_book, opened, pauses, tells}
use Rattle.calls.specs.declared.call.Reply.TheVariants.{Went}

none_in : {f : List Bool} → In f [] → ⊥
none_in m = elim m [ ]

-- before any call nothing is told, in no steps
pub none_listed : (s : Surface) (rule : Rule) (cell : ℕ → ℕ) → Listed s rule cell 0 []
none_listed s rule cell =
    record {
      rising = tt;
      members = λ f m. elim (none_in m) [ ];
      rest = λ f g m. elim (none_in m) [ ];
      few = omega (arith, pow_pos (free_among (musts_in s)));
    }

module _ (s : Surface) (rule : Rule) (cell : ℕ → ℕ) where
  -- a search just opened
  pub begun : (q : Search) → IsOpen q s rule cell → state_in q ≡ fresh → (found_by q ≡ false) × (told_by q ≡ 0) → (rank : ℕ → ℕ) → Orders (cells s.frame) cell rank → Keeps s rule cell new_book q
  begun q o e (unfound, untold) rank orders =
      record {
        is_open = o;
        state = sym e;
        tally = untold;
        find = sym (ap (λ (b : Bool). cond b (Some (spread s (find_of q))) None) unfound);
        listed = none_listed s rule cell;
        by_class = [];
        told = refl;
        calls = no_call;
        rank = rank;
        orders = orders;
      }

  module _ (b : Book) (q q' : Search) (k : Keeps s rule cell b q) (o : IsOpen q' s rule cell) (n : ℕ) where
    -- what the laws of histories say of one call more
    after : (a : Reply) (j : ℕ) → Go (system_of s rule cell) n b.state a j (state_in q') → After s rule cell b.steps k.by_class n j a
    after a j g = histories_listed s rule cell k.rank k.is_open.2.inside k.orders b.steps k.by_class b.state k.calls n j a (state_in q') g

    told_more : (a : Reply) → told_of s (k.by_class ++ finds a) ≡ b.told ++ told_of s (finds a)
    told_more a = map-append (spread s) k.by_class (finds a) ∙ ap (λ (fs : List (List Bool)). fs ++ told_of s (finds a)) (sym k.told)

    told_still : told_of s (k.by_class ++ []) ≡ b.told
    told_still = told_more paused ∙ append-nil b.told

    idle : (a : Reply) (j : ℕ) → finds a ≡ [] → Go (system_of s rule cell) n b.state a j (state_in q') → found_by q' ≡ false → told_by q' ≡ told_by q → Keeps s rule cell (idle_book b (state_in q') j) q'
    idle a j none g unfound untold =
        record {
          is_open = o;
          state = refl;
          tally = untold ∙ k.tally;
          find = sym (ap (λ (b : Bool). cond b (Some (spread s (find_of q'))) None) unfound);
          listed = subst (Listed s rule cell (b.steps + j)) (ap (λ (fs : List (List Bool)). told_of s (k.by_class ++ fs)) none ∙ told_still) (after a j g).listed;
          by_class = k.by_class ++ finds a;
          told = sym (ap (λ (fs : List (List Bool)). told_of s (k.by_class ++ fs)) none ∙ told_still);
          calls = called k.calls g;
          rank = k.rank;
          orders = k.orders;
        }

    told_one : (f : List Bool) (j : ℕ) → Go (system_of s rule cell) n b.state (tells_find f) j (state_in q') → f ≡ find_of q' → found_by q' ≡ true → told_by q' ≡ min (told_by q + 1) 18446744073709551615 → Keeps s rule cell (found_book b (state_in q') j (spread s f)) q'
    told_one f j g this found more =
        record {
          is_open = o;
          state = refl;
          tally = omega (arith, more, k.tally, length_push b.told (spread s f));
          find = ap (λ (f : List Bool). Some (spread s f)) this ∙ sym (ap (λ (b : Bool). cond b (Some (spread s (find_of q'))) None) found);
          listed = subst (Listed s rule cell (b.steps + j)) (told_more (tells_find f)) (after (tells_find f) j g).listed;
          by_class = k.by_class ++ f ∷ [];
          told = sym (told_more (tells_find f));
          calls = called k.calls g;
          rank = k.rank;
          orders = k.orders;
        }

    -- a granted go, by what it answers
    pub went : Granted n → (a : Answer) → Goes (system_of s rule cell) n q q' a → found_by q' ≡ found_after false (Some a) → told_by q' ≡ tally_after (told_by q) (Some a) → (p : List ℕ) →
        (l : Ledger) × Called (opened s rule cell b) p (to_go n) (Ok (Went a)) l p × Stands l q'
    went granted a goes found tally p = by a (subst (λ (at : State). Go (system_of s rule cell) n at (reply_of q' a) (steps_of a) (state_in q')) (sym k.state) goes.moves) found tally
      where
        by : (a : Answer) → Go (system_of s rule cell) n b.state (reply_of q' a) (steps_of a) (state_in q') → found_by q' ≡ found_after false (Some a) → told_by q' ≡ tally_after (told_by q) (Some a) →
            (l : Ledger) × Called (opened s rule cell b) p (to_go n) (Ok (Went a)) l p × Stands l q'
        by (Found j) g found tally = (
          opened s rule cell (found_book b (state_in q') j (spread s (find_of q'))),
          tells granted (after (tells_find (find_of q')) j g).none_over g,
          told_one (find_of q') j g refl found tally,
        )
        by (Done j) g found tally = (
          opened s rule cell (idle_book b (state_in q') j),
          ends granted (after done j g).none_over g (λ f member. subst (In f) (sym k.told) ((after done j g).all_told refl f member)),
          idle done j refl g found tally,
        )
        by (Paused j) g found tally = (
          opened s rule cell (idle_book b (state_in q') j),
          paused_at j ((after paused j g).all_used refl) g,
          idle paused j refl g found tally,
        )
          where
            paused_at : (j : ℕ) → j ≡ n → Go (system_of s rule cell) n b.state paused j (state_in q') → Called (opened s rule cell b) p (to_go n) (Ok (Went (Paused j))) (opened s rule cell (idle_book b (state_in q') j)) p
            paused_at j e g =
                subst (λ (i : ℕ). Called (opened s rule cell b) p (to_go n) (Ok (Went (Paused i))) (opened s rule cell (idle_book b (state_in q') i)) p) (sym e)
                (pauses granted (subst (λ (i : ℕ). Go (system_of s rule cell) n b.state paused i (state_in q')) e g))
