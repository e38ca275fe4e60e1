use Rattle.std.proofs.Common.{◌≡◌, ℕ, List, [], ◌∷◌, ◌++◌, length, min, slice_index_or, refl, sym, ap, ◌∙◌}
use Rattle.std.proofs.lemmas.List.{get_or_default}
use Rattle.codes.specs.declared.value.Value.{Value}
use Rattle.systems.specs.Trails.{Trailed}
use Rattle.settling.specs.Boards.{settled_len, trail_of, values_of}
use Rattle.search.specs.Decided.{first}
use Rattle.search.specs.declared.standing.Decision.{Decision}
use Rattle.search.proofs.Onward.{turned_onward}
use Rattle.search.proofs.Turned.{made_on, may_turn, turned}
use Rattle.search.proofs.record.Record.turn.Goals as goal

pub returns-clause-steps : goal.returns-clause-steps
returns-clause-steps c S follows goes_back has_step =
    let old = c.args.self.now in
    let n = c.in-Some.at in
    let off = c.in-Some.ensures in
    let read : c.index-decision.result.now ≡ slice_index_or old.decisions.items n first = c.index-decision.ensures ∙ get_or_default old.decisions.items n _ first off.0 in
    let b = c.undo.new.self in
    let settled : settled_len b ≡ min (slice_index_or old.decisions.items n first).mark (settled_len old.board) =
    c.undo.ensures.settled ∙ ap (λ (d : Decision). min d.mark (settled_len old.board)) read in
    let back : (σ : List Value) (xs ys : List ℕ) → trail_of old.board ≡ xs ++ ys → length xs ≡ (slice_index_or old.decisions.items n first).mark → Trailed σ (values_of old.board) ys → (values_of b ≡ σ) × (trail_of b ≡ xs) =
    λ σ xs ys e l t. c.undo.ensures.back σ xs ys e (l ∙ ap (λ (d : Decision). d.mark) (sym read)) t in
    let pushed = c.decide.ensures.pushed ∙ ap (λ (d : Decision). c.truncate.new.self.items ++ made_on d ∷ []) read ∙ ap (λ (ds : List Decision). ds ++ made_on (slice_index_or old.decisions.items n first) ∷ []) c.truncate.ensures.items in
    record {
      follows = c.decide.ensures.follows S (may_turn S old follows n off b c.undo.ensures.kept settled back _ refl refl c.truncate.ensures.items _ read);
      move = turned S old follows n off c.decide.new.self goes_back c.decide.ensures.same.ranks pushed c.decide.ensures.untold;
    }

pub returns-clause-onward : goal.returns-clause-onward
returns-clause-onward c goes_back has_step =
    let old = c.args.self.now in
    let n = c.in-Some.at in
    let off = c.in-Some.ensures in
    let read : c.index-decision.result.now ≡ slice_index_or old.decisions.items n first = c.index-decision.ensures ∙ get_or_default old.decisions.items n _ first off.0 in
    let pushed = c.decide.ensures.pushed ∙ ap (λ (d : Decision). c.truncate.new.self.items ++ made_on d ∷ []) read ∙ ap (λ (ds : List Decision). ds ++ made_on (slice_index_or old.decisions.items n first) ∷ []) c.truncate.ensures.items in
    turned_onward old c.decide.new.self c.decide.ensures.same.ranks n off pushed
