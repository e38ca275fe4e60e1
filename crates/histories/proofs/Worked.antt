-- The worked examples of searches, by computing them.
use Rattle.std.proofs.Common.{◌≡◌, ℕ, zero, suc, List, [], ◌∷◌, refl, arith}
use Rattle.frames.specs.declared.frame.Frame.{Frame}
use Rattle.frames.specs.Frames.{cells}
use Rattle.rules.specs.declared.rule.Rule.{Rule}
use Rattle.rolls.specs.Rolls.{Surface}
use Rattle.rolls.specs.Laws.{Orders}
use Rattle.rolls.specs.Examples.{plainly, around_torus, two_by_two, one_cell, leaping_cell, life, crowded, barren}
use Rattle.orders.specs.Orders.{rows_cell, rows_rank}
use Rattle.orders.specs.Turns.{rows_within, rows_ranked, rows_back, rows_forth}
use Rattle.classes.specs.Asked.{asked_after}
use Rattle.classes.specs.Joins.{TiesInside}
use Rattle.classes.specs.Labels.{labels_after}
use Rattle.classes.specs.Numbers.{numbered_from}
use Rattle.systems.specs.Systems.{Sys, sum_of, code_for, Proper}
use Rattle.systems.specs.Settling.{set_by, settle, settled}
use Rattle.systems.specs.Spaces.{system_of, instance_at, all_instances, start_of, classes_by_rank}
use Rattle.systems.proofs.Spaces.{solutions_right}
use Rattle.histories.specs.Searches.{State, fresh, Stands, no_choice}
use Rattle.histories.specs.Going.{next, go}
use Rattle.histories.specs.Examples.{Said, said_of, Answers, no_more_calls, and_then, SearchesWorked}
use Rattle.histories.proofs.Going.{go_goes, go_stands}

-- n calls, computed
calls : ℕ → Surface → Rule → ℕ → State → List Said
calls zero s r b at = []
calls (suc n) s r b at = let g = go (system_of s r (rows_cell s.frame)) b at in said_of s g.reply g.steps ∷ calls n s r b g.state

module _ (s : Surface) (r : Rule) (inside : TiesInside s) (o : Orders (cells s.frame) (rows_cell s.frame) (rows_rank s.frame)) where
  calls_answer : (n b : ℕ) (at : State) → Stands (system_of s r (rows_cell s.frame)) (system_of s r (rows_cell s.frame)).start at.standing → Answers s r b at (calls n s r b at)
  unfolding calls
  calls_answer zero b at c = no_more_calls
  calls_answer (suc n) b at c =
      let S : Sys = system_of s r (rows_cell s.frame) in
      let p : Proper S = (solutions_right s r (rows_cell s.frame) inside).proper (rows_rank s.frame) o in
      and_then (go_goes S p b at c) (calls_answer n b (go S b at).state (go_stands S p b at c))

-- spaces without ties
no_ties : (s : Surface) → s.rows ≡ 0 → TiesInside s
no_ties s e row c h = absurd (omega arith)

-- the order of rows, in any box
rows_order : (f : Frame) → Orders (cells f) (rows_cell f) (rows_rank f)
rows_order f =
    record {
      within = rows_within f.width f.height f.period f.wide f.tall f.lasting;
      ranked = rows_ranked f.width f.height f.period f.wide f.tall f.lasting;
      back = rows_back f.width f.height f.period f.wide f.tall f.lasting;
      forth = rows_forth f.width f.height f.period f.wide f.tall f.lasting;
    }

-- so many calls from the opening of a space without ties
opened : (s : Surface) (r : Rule) → s.rows ≡ 0 → (n b : ℕ) → Answers s r b fresh (calls n s r b fresh)
opened s r e n b = calls_answer s r (no_ties s e) (rows_order s.frame) n b fresh no_choice

pub searches_worked : SearchesWorked
unfolding calls go next settled settle set_by sum_of code_for instance_at all_instances start_of classes_by_rank asked_after labels_after numbered_from
searches_worked =
    record {
      block = opened (plainly two_by_two) life refl 3 1000000;
      lone_cell = opened (around_torus one_cell) life refl 3 1;
      crowded_cell = opened (around_torus one_cell) crowded refl 3 1000000;
      no_leap = opened (plainly leaping_cell) barren refl 2 1000000;
    }
