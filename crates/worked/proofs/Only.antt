-- The two finds are the whole roll, and it can be listed in one way only.
use Rattle.std.proofs.Common.{◌≡◌, ℕ, ◌+◌, Bool, true, false, cond, ◌&&◌, ltb, eqb, List, [], ◌∷◌, ◌++◌, ◌∙◌, ap, refl, sym, subst, append-nil}
use Rattle.frames.specs.declared.frame.Frame.{Frame}
use Rattle.frames.specs.Frames.{cells}
use Rattle.planes.specs.Ties.{Within}
use Rattle.planes.specs.declared.tie.Tie.{Tie}
use Rattle.orders.specs.Orders.{rows_cell, rows_rank}
use Rattle.orders.specs.Turns.{rows_within, rows_ranked, rows_back, rows_forth}
use Rattle.rolls.specs.Examples.{two_by_two, life}
use Rattle.rolls.specs.Laws.{Before, Orders}
use Rattle.rolls.specs.Rolls.{Roll}
use Rattle.rolls.proofs.Dictionary.{order_laws}
use Rattle.classes.specs.Asked.{asked_after}
use Rattle.classes.specs.Joins.{TiesInside}
use Rattle.classes.specs.Labels.{labels_after}
use Rattle.classes.specs.Numbers.{numbered_from}
use Rattle.systems.specs.Systems.{Sys, In, here, there, sum_of, code_for, Proper}
use Rattle.systems.specs.Settling.{set_by, settle, settled}
use Rattle.systems.specs.Spaces.{system_of, instance_at, all_instances, start_of, classes_by_rank}
use Rattle.systems.proofs.Spaces.{solutions_right}
use Rattle.histories.specs.Going.{Gone, next, go}
use Rattle.histories.specs.Listed.{Rising, Listed, After, told_of}
use Rattle.histories.specs.Searches.{fresh, Reply, done, finds, no_choice, Calls, no_call, called}
use Rattle.histories.proofs.Going.{go_goes, go_stands}
use Rattle.histories.proofs.Listing.{histories_listed}
use Rattle.worked.specs.Block.{block_space, empty_box, block}

-- ---- lists in sequence with the same fillings are one
module _ (n : ℕ) (cell : ℕ → ℕ) where
  first_same : {f g : List Bool} {fs gs : List (List Bool)} → ((x : List Bool) → In x fs → Before n cell f x) → ((x : List Bool) → In x gs → Before n cell g x) → In f (g ∷ gs) → In g (f ∷ fs) → f ≡ g
  first_same after_f after_g here j = refl
  first_same after_f after_g (there i) here = refl
  first_same {f = f} {g = g} after_f after_g (there i) (there j) = absurd (order_laws.never_itself n cell f (order_laws.onward n cell f g f (after_f g j) (after_g f i)))

  behind : {f x : List Bool} {gs : List (List Bool)} → Before n cell f x → In x (f ∷ gs) → In x gs
  behind {f = f} later here = absurd (order_laws.never_itself n cell f later)
  behind later (there i) = i

  one_list : (fs gs : List (List Bool)) → Rising n cell fs → Rising n cell gs → ((f : List Bool) → In f fs → In f gs) → ((f : List Bool) → In f gs → In f fs) → fs ≡ gs
  one_list [] [] r q forth back = refl
  one_list [] (g ∷ gs) r q forth back = elim (back g here) [ ]
  one_list (f ∷ fs) [] r q forth back = elim (forth f here) [ ]
  one_list (f ∷ fs) (g ∷ gs) r q forth back =
      let same : f ≡ g = first_same r.0 q.0 (forth f here) (back g here) in
      let forth_rest : (x : List Bool) → In x fs → In x gs = λ x i. behind (subst (λ (h : List Bool). Before n cell h x) same (r.0 x i)) (forth x (there i)) in
      let back_rest : (x : List Bool) → In x gs → In x fs = λ x i. behind (subst (λ (h : List Bool). Before n cell h x) (sym same) (q.0 x i)) (back x (there i)) in
      ap (λ (h : List Bool). h ∷ fs) same ∙ ap (λ (l : List (List Bool)). g ∷ l) (one_list fs gs r.1 q.1 forth_rest back_rest)

-- ---- the history of the three calls
-- a tie that is one of two
either : (n : ℕ) (test : Bool) (t u : Tie) → Within n t → Within n u → Within n (cond test t u)
either n true t u h k = h
either n false t u h k = k

-- the layers ask nothing
inside : TiesInside block_space
inside row c h l = either 4 (ltb row 1) _ _ (either 4 (ltb row 0) _ _ tt (either 4 (eqb row 0 && ltb row 1000) _ _ tt tt)) (either 4 (eqb row 1 && ltb row 1000) _ _ (either 4 (ltb c 4) _ _ tt tt) tt)

-- the order of rows in the box
rows : Orders (cells two_by_two) (rows_cell two_by_two) (rows_rank two_by_two)
rows =
    let f : Frame = two_by_two in
    record {
      within = rows_within f.width f.height f.period f.wide f.tall f.lasting;
      ranked = rows_ranked f.width f.height f.period f.wide f.tall f.lasting;
      back = rows_back f.width f.height f.period f.wide f.tall f.lasting;
      forth = rows_forth f.width f.height f.period f.wide f.tall f.lasting;
    }

-- the system that is searched
searched : Sys
searched = system_of block_space life (rows_cell two_by_two)

proper : Proper searched
unfolding searched
proper = (solutions_right block_space life (rows_cell two_by_two) inside).proper (rows_rank two_by_two) rows

-- what the calls come to, one after another
first : Gone
first = go searched 1000000 fresh

second : Gone
second = go searched 1000000 first.state

third : Gone
third = go searched 1000000 second.state

-- the finds of the first two calls
found : List (List Bool)
found = ([] ++ finds first.reply) ++ finds second.reply

calls : Calls searched fresh (0 + first.steps + second.steps) found second.state
unfolding first second found
calls = called (called no_call (go_goes searched proper 1000000 fresh no_choice)) (go_goes searched proper 1000000 first.state (go_stands searched proper 1000000 fresh no_choice))

-- what the third call comes after
after : After block_space life (rows_cell two_by_two) (0 + first.steps + second.steps) found 1000000 third.steps third.reply
unfolding searched first second third
after =
    let stands = go_stands searched proper 1000000 first.state (go_stands searched proper 1000000 fresh no_choice) in
    histories_listed block_space life (rows_cell two_by_two) (rows_rank two_by_two) inside rows _ found second.state calls 1000000 third.steps third.reply third.state (go_goes searched proper 1000000 second.state stands)

is_done : third.reply ≡ done
unfolding searched first second third go next settled settle set_by sum_of code_for instance_at all_instances start_of classes_by_rank asked_after labels_after numbered_from
is_done = refl

told : told_of block_space found ≡ empty_box ∷ block ∷ []
unfolding searched first second found go next settled settle set_by sum_of code_for instance_at all_instances start_of classes_by_rank asked_after labels_after numbered_from
told = refl

told_all : told_of block_space (found ++ finds third.reply) ≡ empty_box ∷ block ∷ []
told_all = ap (λ (a : Reply). told_of block_space (found ++ finds a)) is_done ∙ ap (told_of block_space) (append-nil found) ∙ told

-- so a list of the whole roll in sequence is these two
pub only : (steps : ℕ) (fs : List (List Bool)) → Listed block_space life (rows_cell two_by_two) steps fs → ((f : List Bool) → Roll block_space life f → In f fs) → fs ≡ empty_box ∷ block ∷ []
only steps fs listed whole =
    let rising : Rising 4 (rows_cell two_by_two) (empty_box ∷ block ∷ []) = subst (Rising 4 (rows_cell two_by_two)) told_all after.listed.rising in
    one_list 4 (rows_cell two_by_two) fs (empty_box ∷ block ∷ []) listed.rising rising
    (λ f i. subst (In f) told (after.all_told is_done f (listed.members f i)))
    (λ f i. whole f (after.listed.members f (subst (In f) (sym told_all) i)))
