use Rattle.std.proofs.Common.{rules, arith, List, [], ◌∷◌, ◌++◌, slice_index, Vec, Global, ◌≡◌, ℕ, ◌<◌, nat_lt, sym, ap, ◌∙◌}
use Rattle.std.proofs.lemmas.Bool.{cond-true}
use Rattle.frames.specs.Frames.{cells}
use Rattle.systems.specs.Spaces.{classes_by_rank}
use Rattle.search.proofs.Opened.{by_rank_more, by_rank_none}
use Rattle.search.proofs.opening.ranked_classes.Goals as goal
use Rattle.search.proofs.opening.ranked_classes.Goals.{in-Some+in_ok-push, in_default}

pub loop-rank-init : goal.loop-rank-init
loop-rank-init g c = c.in_ok-ranks.ensures.items ∙ sym (by_rank_none _ _)

pub loop-rank-preserved : goal.loop-rank-preserved
loop-rank-preserved g c =
    let frame = c.args.frame.now in
    let cell = g.O.Order.cell_of_rank c.args.order.now frame in
    let labels = c.args.classes.now.labels in
    let below : c.loop-rank.rank < cells frame = search rules in
    let asked : c.cell_at.result ≡ cell c.loop-rank.rank = c.cell_at.ensures ∙ cond-true (nat_lt c.loop-rank.rank (cells frame)) _ _ (search (rules, below)) in
    elim c.match-class_of.branch [
      | in-Some+in_ok-push w ↦ ap (λ (v : Vec ℕ Global). v.items) w.ranks-is ∙ w.in_ok-push.ensures.items
          ∙ ap (λ (xs : List ℕ). xs ++ w.in-Some.class ∷ []) c.loop-rank.invariant
          ∙ ap (λ (x : ℕ). classes_by_rank labels.items cell c.loop-rank.rank ++ x ∷ []) (w.in-Some.ensures.0 ∙ ap (slice_index labels.items) asked)
          ∙ sym (by_rank_more labels.items cell c.loop-rank.rank)
      | in_default w ↦ absurd (omega (arith, w.in_default.ensures, asked, c.requires, g.met.O.Order.within c.args.order.now frame c.loop-rank.rank below))
    ]
