-- A choice and a turn lead to a later place, and no place is past the last.
use Rattle.std.specs.Prelude.{unwrap_or}
use Rattle.std.proofs.Common.{IfSome, MatchOption, None, Option, Vec, Global, ◌≡◌, ℕ, zero, suc, ◌+◌, ◌*◌, ◌^◌, ◌<◌, ◌≤◌, false, List, [], ◌∷◌, ◌++◌, length, take, Some, slice_index_or, vec_len, refl, sym, ap, ◌∙◌, subst, arith}
use lib.ListN.{length-map}
use Rattle.histories.specs.Searches.{index}
use Rattle.histories.proofs.Sides.{bit_le}
use Rattle.histories.proofs.Index.{index_high, index_push, index_turn}
use Rattle.std.specs.Option.{option_map_or}
use Rattle.search.specs.Calls.{left_in, left_of}
use Rattle.search.specs.declared.search.Search.{Search}
use Rattle.search.specs.Decided.{first}
use Rattle.systems.specs.Systems.{Sys}
use Rattle.search.specs.Moves.{Due, HasStep, is_done, place_of, reached}
use Rattle.search.specs.Standings.{Follows}
use Rattle.search.specs.declared.answer.Answer.{Answer}
use Rattle.search.specs.declared.answer.Answer.TheVariants.{Paused}
use Rattle.search.specs.Stacks.{LastOff, all_meant, is_told, meant, ranked}
use Rattle.search.specs.declared.record.Record.{Record}
use Rattle.search.specs.declared.standing.Decision.{Decision}
use Rattle.search.proofs.Decided.{meant_push}
use Rattle.search.proofs.Turned.{made_on, turned_to}

-- there are no more decisions than ranks
pub few : (r : Record) → length r.decisions.items ≤ vec_len r.ranks
few r = by (vec_len r.decisions) refl
  where
    by : (n : ℕ) → vec_len r.decisions ≡ n → length r.decisions.items ≤ vec_len r.ranks
    by zero e = omega (arith, e, r.decisions.ok.0)
    by (suc n) e = omega (arith, e, r.decisions.ok.0, r.rising n (omega (arith, e)), r.ranked n (omega (arith, e)))

-- ---- the next place
module _ (r r' : Record) (ranks : r'.ranks ≡ r.ranks) where
  -- the place of other decisions over the same ranks
  moved : (ds : List Decision) → r'.decisions.items ≡ ds → place_of r' ≡ index (vec_len r.ranks) (all_meant r.ranks.items ds)
  moved ds e = ap (λ (v : Vec ℕ Global). index (vec_len v) (all_meant v.items r'.decisions.items)) ranks ∙ ap (λ (ds : List Decision). index (vec_len r.ranks) (all_meant r.ranks.items ds)) e

  many : length (all_meant r.ranks.items r.decisions.items) ≡ length r.decisions.items
  many = length-map r.decisions.items (meant r.ranks.items)

  pub chosen_onward : (rank mark : ℕ) → rank < vec_len r.ranks → vec_len r.decisions ≤ rank → r'.decisions.items ≡ r.decisions.items ++ record { rank = rank; on = false; mark = mark } ∷ [] → place_of r < place_of r'
  chosen_onward rank mark l m pushed =
      let d : Decision = record { rank = rank; on = false; mark = mark } in
      let one : index (vec_len r.ranks) (all_meant r.ranks.items r.decisions.items ++ meant r.ranks.items d ∷ []) ≡ suc (place_of r) =
      index_push (vec_len r.ranks) (all_meant r.ranks.items r.decisions.items) (ranked r.ranks.items rank) (omega (arith, l, m, many, r.decisions.ok.0)) in
      omega (arith, moved (r.decisions.items ++ d ∷ []) pushed ∙ ap (index (vec_len r.ranks)) (meant_push r.ranks.items r.decisions.items d) ∙ one)

  pub turned_onward : (n : ℕ) → LastOff r.decisions.items (Some n) → r'.decisions.items ≡ take n r.decisions.items ++ made_on (slice_index_or r.decisions.items n first) ∷ [] → place_of r < place_of r'
  turned_onward n off pushed =
      omega (
        arith,
        index_turn (vec_len r.ranks) (turned_to r.ranks.items r.decisions.items n off) (omega (arith, many, few r)),
        moved (take n r.decisions.items ++ made_on (slice_index_or r.decisions.items n first) ∷ []) pushed,
      )

-- no place is past the last
pub reached_few : (r : Record) → reached r < 2 * 2 ^ suc (vec_len r.ranks)
reached_few r = omega (arith, index_high (vec_len r.ranks) (all_meant r.ranks.items r.decisions.items) (omega (arith, length-map r.decisions.items (meant r.ranks.items), few r)), bit_le (is_told r.standing))

-- fewer calls are left once a later place is reached
pub left_fewer : (r r' : Record) → r'.ranks ≡ r.ranks → reached r < reached r' → left_of r' < left_of r
left_fewer r r' ranks l =
    let same : 2 * 2 ^ suc (vec_len r'.ranks) ≡ 2 * 2 ^ suc (vec_len r.ranks) = ap (λ (v : Vec ℕ Global). 2 * 2 ^ suc (vec_len v)) ranks in
    omega (arith, same, l, reached_few r, reached_few r')

-- ---- a call
-- a step raises what is reached
pub further : (r due new : Record) (before taken : ℕ) → place_of due < place_of new → reached due ≡ reached r → before + taken ≤ reached r → before + (taken + 1) ≤ reached new
further r due new before taken l e b = omega (arith, l, e, b, bit_le (is_told due.standing), bit_le (is_told new.standing))

-- the last answer of a call that is not done comes later than its beginning
pub last_onward : (mid new : Record) (o : Option Answer) (before steps : ℕ) → before + steps ≤ reached mid → 1 ≤ steps → IfSome o (λ a. is_done a ≡ false → reached mid < reached new) →
    MatchOption o ((new ≡ mid) × HasStep mid) (λ a. (S : Sys) → Follows mid S → Due S mid new a) → (a : Answer) → a ≡ unwrap_or o (Paused steps) → is_done a ≡ false → before < reached new
last_onward mid new None before steps l some onward due a e more = omega (arith, l, some, ap reached due.0)
last_onward mid new (Some b) before steps l some onward due a e more = omega (arith, l, onward (ap is_done (sym e) ∙ more))

-- the same of the search that holds the record
pub fewer_here : (q : Search) (r r' : Record) → q.record ≡ Some r → r'.ranks ≡ r.ranks → reached r < reached r' → left_of r' < left_in q
fewer_here q r r' e ranks l = subst (λ (n : ℕ). left_of r' < n) (ap (λ (o : Option Record). option_map_or left_of o 0) (sym e)) (left_fewer r r' ranks l)
