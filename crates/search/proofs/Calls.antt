-- A granted go of an opened search is the one of its definition.
use Rattle.std.proofs.Common.{◌≡◌, ℕ, List, [], Some, Option, set, refl, sym, ap, ◌∙◌, subst}
use Rattle.std.specs.Option.{option_map_or}
use Rattle.rules.specs.declared.rule.Rule.{Rule}
use Rattle.rolls.specs.Rolls.{Surface}
use Rattle.systems.specs.Systems.{Sys, at}
use Rattle.systems.specs.Spaces.{system_of}
use Rattle.systems.specs.Trails.{Held}
use Rattle.codes.specs.declared.value.Value.{Value}
use Rattle.codes.specs.Laws.{known}
use Rattle.systems.specs.Alike.{Alike}
use Rattle.systems.specs.Settling.{Least}
use Rattle.systems.proofs.Alike.{least_alike, proper_alike}
use Rattle.histories.proofs.Calls.{go_alike}
use Rattle.histories.specs.Searches as searches
use Rattle.histories.specs.Searches.{Stands, choice, first_unknown, no_choice, State, fresh, Reply, tells_find, Go}
use Rattle.histories.specs.Going.{go}
use Rattle.histories.proofs.Going.{go_computed}
use Rattle.histories.proofs.Standing.{stands_push}
use Rattle.search.specs.Answers.{steps_of}
use Rattle.search.specs.Calls.{Goes, reply_of, state_in}
use Rattle.search.specs.Moves.{Gone, reply_in}
use Rattle.search.specs.Opening.{Searches}
use Rattle.search.specs.Records.{AsOpened}
use Rattle.gathering.specs.declared.system.System.{System}
use Rattle.settling.specs.Boards.{values_of}
use Rattle.search.specs.Stacks.{find_in, Stack, all_meant, decided, undecided}
use Rattle.search.specs.Standings.{Follows, state_of}
use Rattle.search.specs.declared.answer.Answer.{Answer}
use Rattle.search.specs.declared.answer.Answer.TheVariants.{Found, Done, Paused}
use Rattle.search.specs.declared.record.Record.{Record}
use Rattle.search.specs.declared.search.Search.{Search}
use Rattle.search.specs.declared.standing.Decision.{Decision}
use Rattle.search.proofs.Decided.{meant_push}
use Rattle.search.proofs.Ranks.{rank_first}

-- the decisions are such as choices make them
stack_stands : {S : Sys} {ds : List Decision} {h : Held} → Stack S ds h → Stands S S.start (all_meant S.order ds)
stack_stands (undecided t) = no_choice
stack_stands {S} (decided {es} d g below least first_rank mark grows) =
    subst (Stands S S.start) (sym (meant_push S.order es d)) (stands_push S g.values _ d.on (stack_stands below) least (rank_first (at g.values) S.order d.rank first_rank))

follows_stands : {S : Sys} {r : Record} → Follows r S → Stands S S.start (state_of r).standing
follows_stands {S} {r} f = subst (λ (order : List ℕ). Stands S S.start (all_meant order r.decisions.items)) f.order (stack_stands f.stack)

-- decisions as choices make them are so in a system that asks the same
stands_alike : (S S' : Sys) → Alike S S' → (ρ ρ' : List Value) → ρ ≡ ρ' → {ds : List searches.Decision} → Stands S ρ ds → Stands S' ρ' ds
stands_alike S S' a ρ ρ' e no_choice = no_choice
stands_alike S S' a ρ ρ' e (choice {x = x} {b = b} σ l f c) =
    choice σ (subst (λ (ρ : List Value). Least S' ρ σ) e (least_alike S S' a ρ σ l)) (ap (first_unknown (at σ)) (sym a.order) ∙ f)
    (stands_alike S S' a (set ρ x (known b)) (set ρ' x (known b)) (ap (λ (ρ : List Value). set ρ x (known b)) e) c)

reply_same : (q : Search) (r : Record) (a : Answer) → q.record ≡ Some r → reply_of q a ≡ reply_in r a
reply_same q r (Found n) e = ap (λ (o : Option Record). tells_find (option_map_or (λ (r : Record). find_in (values_of r.board)) o [])) e
reply_same q r (Done n) e = refl
reply_same q r (Paused n) e = refl

module _ (s : Surface) (rule : Rule) (cell : ℕ → ℕ) (r r' : Record) (h : Searches r s rule cell) (n : ℕ) (a : Answer) (kept : AsOpened r r') (gone : (S : Sys) → Follows r S → Gone S n r r' a) where
  abbrev S : Sys
  S = system_of s rule cell

  pub still_searches : Searches r' s rule cell
  still_searches =
      record {
        frame = kept.frame ∙ h.frame;
        same_rule = kept.rule ∙ h.same_rule;
        classes = ap (λ (y : System). y.classes.labels.items) kept.board.system ∙ h.classes;
        inside = h.inside;
        system = h.system;
        alike = h.alike;
        follows = (gone h.system h.follows).follows;
      }

  pub goes : (q q' : Search) → q.record ≡ Some r → q'.record ≡ Some r' → Goes S n q q' a
  goes q q' e e' =
      let was : state_in q ≡ state_of r = ap (λ (o : Option Record). option_map_or state_of o fresh) e in
      let now : state_in q' ≡ state_of r' = ap (λ (o : Option Record). option_map_or state_of o fresh) e' in
      let said : reply_of q' a ≡ reply_in r' a = reply_same q' r' a e' in
      let moved = go_alike h.system S h.alike n (steps_of a) (reply_in r' a) (state_of r) (state_of r') (gone h.system h.follows).go in
      let stands = stands_alike h.system S h.alike h.system.start S.start h.alike.start (follows_stands h.follows) in
      let only = go_computed.only S (proper_alike h.system S h.alike h.follows.board.proper) n (steps_of a) (reply_in r' a) (state_of r) (state_of r') stands moved in
      record {
        reply = said ∙ sym only.0 ∙ ap (λ (s : State). (go S n s).reply) (sym was);
        steps = sym only.1 ∙ ap (λ (s : State). (go S n s).steps) (sym was);
        state = now ∙ sym only.2 ∙ ap (λ (s : State). (go S n s).state) (sym was);
        moves =
            subst (λ (s : State). Go S n s (reply_of q' a) (steps_of a) (state_in q')) (sym was)
            (subst (λ (s : State). Go S n (state_of r) (reply_of q' a) (steps_of a) s) (sym now)
            (subst (λ (reply : Reply). Go S n (state_of r) reply (steps_of a) (state_of r')) (sym said) moved));
      }
