use Rattle.std.proofs.Common.{◌≡◌, ℕ, min, List, length, take, drop, vec_len, ap, ◌∙◌, arith, length-append}
use Rattle.std.proofs.lemmas.List.{drop_at, take_at}
use Rattle.settling.specs.Boards.{trail_of, values_of}
use Rattle.settling.specs.Knowing.{put_back}
use Rattle.settling.proofs.Held.{back_trailed}
use Rattle.settling.proofs.board.Board.undo.Goals as goal

-- the mark is where the first part of the trail ends
pub returns-clause-back : goal.returns-clause-back
returns-clause-back c = λ σ xs ys e l t.
    let was = c.args.self.now in
    let at_mark : length xs ≡ min c.args.mark (vec_len was.known.trail) = omega (arith, l, ap length e, length-append xs ys, was.known.trail.ok.0) in
    let rest : drop (min c.args.mark (vec_len was.known.trail)) (trail_of was) ≡ ys = ap (drop (min c.args.mark (vec_len was.known.trail))) e ∙ drop_at xs ys (min c.args.mark (vec_len was.known.trail)) at_mark in
    let front : take (min c.args.mark (vec_len was.known.trail)) (trail_of was) ≡ xs = ap (take (min c.args.mark (vec_len was.known.trail))) e ∙ take_at xs ys (min c.args.mark (vec_len was.known.trail)) at_mark in
    (c.undo.ensures.back ∙ ap (λ (zs : List ℕ). put_back zs (values_of was)) rest ∙ back_trailed t, c.undo.ensures.kept ∙ front)
