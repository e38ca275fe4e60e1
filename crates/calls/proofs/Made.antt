-- Each call, granted or refused, of a search that stands anyhow.
use Rattle.std.proofs.Common.{◌≡◌, ℕ, cond, ◌&&◌, nat_le, nat_lt, Bool, true, false, List, [], ◌∷◌, ◌++◌, slice_index_or, Some, None, Ok, Err, Option, Result, refl, sym, ap, ◌∙◌, subst, arith}
use Rattle.std.proofs.lemmas.Bool.{leb-false, leb-true, ltb-false, ltb-true}
use Rattle.std.specs.Option.{option_map_or}
use Rattle.std.specs.Prelude.{unwrap_or}
use Rattle.search.specs.Opening.{found_text}
use Rattle.frames.specs.Frames.{cells, number_at}
use Rattle.frames.specs.declared.frame.Cell.{Cell}
use Rattle.rules.specs.declared.rule.Rule.{Rule}
use Rattle.rolls.specs.Laws.{Orders}
use Rattle.rolls.specs.Rolls.{Surface}
use Rattle.systems.specs.Spaces.{spread, system_of}
use Rattle.systems.proofs.Base.{never}
use Rattle.histories.specs.Searches.{fresh}
use Rattle.search.specs.Calls.{Goes, IsOpen, OpenRefused, WriteFound, Writes, cell_answer, cell_found, find_of, found_by, go_refusal, open_refusal, state_in, tally_answer, text_of, told_by}
use Rattle.search.specs.Moves.{found_after, tally_after}
use Rattle.search.specs.declared.answer.Answer.{Answer}
use Rattle.search.specs.declared.fault.CellFault.{CellFault}
use Rattle.search.specs.declared.fault.CellFault.TheVariants as cell
use Rattle.search.specs.declared.fault.GoFault.{GoFault}
use Rattle.search.specs.declared.fault.GoFault.TheVariants as go
use Rattle.search.specs.declared.fault.OpenFault.{OpenFault}
use Rattle.search.specs.declared.fault.OpenFault.TheVariants as opening
use Rattle.search.specs.declared.fault.TallyFault.{TallyFault}
use Rattle.search.specs.declared.fault.WriteFault.{WriteFault}
use Rattle.search.specs.declared.record.Record.{Record}
use Rattle.search.specs.declared.search.Search.{Search}
use Rattle.calls.specs.Asked.{Asked, to_open, to_go, to_read, to_write, to_count}
use Rattle.calls.specs.Histories.{History, Performed, Stands}
use Rattle.calls.specs.Ledgers.{Answered, Called, Granted, Ledger, Made, blank, opened, blank_count, blank_go, blank_read, blank_write, calls_on, counts, many_rows, new_book, no_cell, no_memory, no_room, no_steps, none_to_read, none_to_write, not_blank, opens, reads, text_in, writes}
use Rattle.calls.specs.declared.call.Reply.TheVariants.{Opened, Went, Read, Wrote, Counted}
use Rattle.calls.specs.declared.fault.CallFault.TheVariants as calling
use Rattle.calls.proofs.Going.{begun, went}

-- the same call with the same answer
pub made : (l : Ledger) (q q' : Search) (p p' : List ℕ) (c c' : Asked) (a a' : Answered) → c' ≡ c → a' ≡ a → Performed l q p c a q' p' → Performed l q p c' a' q' p'
made l q q' p p' c c' a a' same alike h = subst (λ (c : Asked). Performed l q p c a' q' p') (sym same) (subst (λ (a : Answered). Performed l q p c a q' p') (sym alike) h)

-- the same answer
answers : (l l' : Ledger) (q' : Search) (p p' : List ℕ) (c : Asked) (a a' : Answered) → a' ≡ a → Called l p c a l' p' → Stands l' q' → (l' : Ledger) × Called l p c a' l' p' × Stands l' q'
answers l l' q' p p' c a a' alike called stands = (l', subst (λ (a : Answered). Called l p c a l' p') (sym alike) called, stands)

-- a history goes on by a call
pub goes_on : {made : List Made} {q q' : Search} {p p' : List ℕ} {c : Asked} {a : Answered} → ((l : Ledger) → Performed l q p c a q' p') → History made q → History (made ++ record { before = p; call = c; answer = a; after = p' } ∷ []) q'
goes_on performed h = let now = performed h.ledger h.stands in record { ledger = now.0; run = calls_on h.run now.1; stands = now.2 }

-- ---- opening
module _ (q q' : Search) (p : List ℕ) (s : Surface) (rule : Rule) (at : ℕ → ℕ) where
  pub opened_now : (rank : ℕ → ℕ) → open_refusal q.record s.rows ≡ None → IsOpen q' s rule at → state_in q' ≡ fresh → (found_by q' ≡ false) × (told_by q' ≡ 0) → Orders (cells s.frame) at rank → (l : Ledger) → Performed l q p (to_open s rule at) (Ok Opened) q' p
  opened_now rank granted is_open state untold orders blank h = few (nat_lt 8 s.rows) refl (subst (λ (o : Option Record). open_refusal o s.rows ≡ None) h granted)
    where
      few : (many : Bool) → nat_lt 8 s.rows ≡ many → cond many (Some opening.TieRows) None ≡ None → (l : Ledger) × Called blank p (to_open s rule at) (Ok Opened) l p × Stands l q'
      few true e none = never (cc)
      few false e none = (opened s rule at new_book, opens rank is_open.2.inside orders (ltb-false 8 s.rows e), begun s rule at q' is_open state untold rank orders)
  opened_now rank granted is_open state untold orders (opened t r by b) h = let again = subst (λ (o : Option Record). open_refusal o s.rows ≡ None) h.is_open.1 granted in never (cc)

  pub not_opened : (fault : OpenFault) → OpenRefused (open_refusal q.record s.rows) fault → q' ≡ q → (l : Ledger) → Performed l q p (to_open s rule at) (Err (calling.Open fault)) q' p
  not_opened fault refused same blank h = why (nat_lt 8 s.rows) refl (subst (λ (o : Option Record). OpenRefused (open_refusal o s.rows) fault) h refused)
    where
      why : (many : Bool) → nat_lt 8 s.rows ≡ many → OpenRefused (cond many (Some opening.TieRows) None) fault → (l : Ledger) × Called blank p (to_open s rule at) (Err (calling.Open fault)) l p × Stands l q'
      why true e r = answers blank blank q' p p (to_open s rule at) _ _ (ap (λ (f : OpenFault). Err (calling.Open f)) r) (many_rows (ltb-true 8 s.rows e)) (subst (Stands blank) (sym same) h)
      why false e r = answers blank blank q' p p (to_open s rule at) _ _ (ap (λ (f : OpenFault). Err (calling.Open f)) r) (no_memory (ltb-false 8 s.rows e)) (subst (Stands blank) (sym same) h)
  not_opened fault refused same (opened t r by b) h =
      answers (opened t r by b) (opened t r by b) q' p p (to_open s rule at) _ _
      (ap (λ (f : OpenFault). Err (calling.Open f)) (subst (λ (o : Option Record). OpenRefused (open_refusal o s.rows) fault) h.is_open.1 refused)) not_blank
      (subst (Stands (opened t r by b)) (sym same) h)

-- ---- going
-- a number of steps is granted, or is out of its limits
granted_by : (n : ℕ) → cond (nat_le 1 n && nat_le n 1000000) None (Some go.Steps) ≡ None → Granted n
granted_by n e = by (nat_le 1 n) (nat_le n 1000000) refl refl e
  where
    by : (low high : Bool) → nat_le 1 n ≡ low → nat_le n 1000000 ≡ high → cond (low && high) None (Some go.Steps) ≡ None → Granted n
    by true true l h e = (leb-true 1 n l, leb-true n 1000000 h)
    by true false l h e = never (cc)
    by false high l h e = never (cc)

refused_by : (n : ℕ) (fault : GoFault) → cond (nat_le 1 n && nat_le n 1000000) None (Some go.Steps) ≡ Some fault → (fault ≡ go.Steps) × (Granted n → ⊥)
refused_by n fault e = by (nat_le 1 n) (nat_le n 1000000) refl refl e
  where
    by : (low high : Bool) → nat_le 1 n ≡ low → nat_le n 1000000 ≡ high → cond (low && high) None (Some go.Steps) ≡ Some fault → (fault ≡ go.Steps) × (Granted n → ⊥)
    by true true l h e = never (cc)
    by true false l h e = (cc, λ g. never (omega (arith, leb-false n 1000000 h, g.1)))
    by false high l h e = (cc, λ g. never (omega (arith, leb-false 1 n l, g.0)))

module _ (q q' : Search) (p : List ℕ) (n : ℕ) where
  pub went_on : (a : Answer) → go_refusal q.record n ≡ None →
      ((s : Surface) (rule : Rule) (at : ℕ → ℕ) → IsOpen q s rule at → IsOpen q' s rule at) →
      ((s : Surface) (rule : Rule) (at : ℕ → ℕ) → IsOpen q s rule at → Goes (system_of s rule at) n q q' a) →
      found_by q' ≡ found_after false (Some a) → told_by q' ≡ tally_after (told_by q) (Some a) →
      (l : Ledger) → Performed l q p (to_go n) (Ok (Went a)) q' p
  went_on a granted still goes found tally blank h = let refused = subst (λ (o : Option Record). go_refusal o n ≡ None) h granted in never (cc)
  went_on a granted still goes found tally (opened s rule at b) h =
      went s rule at b q q' h (still s rule at h.is_open) n (granted_by n (subst (λ (o : Option Record). go_refusal o n ≡ None) h.is_open.1 granted)) a (goes s rule at h.is_open) found tally p

  pub not_gone : (fault : GoFault) → go_refusal q.record n ≡ Some fault → q' ≡ q → (l : Ledger) → Performed l q p (to_go n) (Err (calling.Go fault)) q' p
  not_gone fault refused same blank h =
      answers blank blank q' p p (to_go n) _ _ (ap (λ (f : Option GoFault). Err (calling.Go (unwrap_or f go.Blank))) (sym refused ∙ ap (λ (o : Option Record). go_refusal o n) h)) blank_go (subst (Stands blank) (sym same) h)
  not_gone fault refused same (opened s rule at b) h =
      let why = refused_by n fault (subst (λ (o : Option Record). go_refusal o n ≡ Some fault) h.is_open.1 refused) in
      answers (opened s rule at b) (opened s rule at b) q' p p (to_go n) _ _ (ap (λ (f : GoFault). Err (calling.Go f)) why.0) (no_steps why.1) (subst (Stands (opened s rule at b)) (sym same) h)

-- ---- reading a cell
abbrev pub read_as : Result Bool CellFault → Answered
read_as (Ok on) = Ok (Read on)
read_as (Err fault) = Err (calling.Cell fault)

module _ (q : Search) (p : List ℕ) (c : Cell) (result : Result Bool CellFault) where
  pub cell_read : result ≡ cell_answer q.record c →
      ((s : Surface) (rule : Rule) (at : ℕ → ℕ) → IsOpen q s rule at → result ≡ cell_found (found_by q) s.frame (spread s (find_of q)) c) →
      (l : Ledger) → Performed l q p (to_read c) (read_as result) q p
  cell_read answer find blank h = answers blank blank q p p (to_read c) _ _ (ap read_as (answer ∙ ap (λ (o : Option Record). cell_answer o c) h)) blank_read h
  cell_read answer find (opened s rule at b) h = by (found_by q) refl (find s rule at h.is_open)
    where
      this : (found : Bool) → found_by q ≡ found → b.find ≡ cond found (Some (spread s (find_of q))) None
      this found e = h.find ∙ ap (λ (found : Bool). cond found (Some (spread s (find_of q))) None) e

      inside : (number : Option ℕ) → number_at s.frame c ≡ number → found_by q ≡ true →
          result ≡ option_map_or (λ number. Ok (slice_index_or (spread s (find_of q)) number false)) number (Err cell.NoCell) → (l : Ledger) × Called (opened s rule at b) p (to_read c) (read_as result) l p × Stands l q
      inside (Some number) e found r = answers (opened s rule at b) (opened s rule at b) q p p (to_read c) _ _ (ap read_as r) (reads (this true found) e) h
      inside None e found r = answers (opened s rule at b) (opened s rule at b) q p p (to_read c) _ _ (ap read_as r) (no_cell (this true found) e) h

      by : (found : Bool) → found_by q ≡ found → result ≡ cell_found found s.frame (spread s (find_of q)) c → (l : Ledger) × Called (opened s rule at b) p (to_read c) (read_as result) l p × Stands l q
      by true found r = inside (number_at s.frame c) refl found r
      by false found r = answers (opened s rule at b) (opened s rule at b) q p p (to_read c) _ _ (ap read_as r) (none_to_read (this false found)) h

-- ---- writing
abbrev pub wrote_as : Result ℕ WriteFault → Answered
wrote_as (Ok end) = Ok (Wrote end)
wrote_as (Err fault) = Err (calling.Write fault)

module _ (q : Search) (p p' : List ℕ) (from : ℕ) where
  -- the page is as it was
  unwritten : (l : Ledger) (a : Answered) → p' ≡ p → Called l p (to_write from) a l p → Called l p (to_write from) a l p'
  unwritten l a same called = subst (λ (p' : List ℕ). Called l p (to_write from) a l p') (sym same) called

  pub find_written : (result : Result ℕ WriteFault) → Writes q.record p from p' result →
      ((s : Surface) (rule : Rule) (at : ℕ → ℕ) → IsOpen q s rule at → text_of q ≡ text_in s rule (spread s (find_of q))) →
      (l : Ledger) → Performed l q p (to_write from) (wrote_as result) q p'
  find_written result w text blank h =
      let refused = subst (λ (o : Option Record). Writes o p from p' result) h w in
      answers blank blank q p p' (to_write from) _ _ (ap wrote_as refused.0) (unwritten blank _ refused.1 blank_write) h
  find_written result w text (opened s rule at b) h =
      by (found_by q) refl result
      (subst (λ (t : List ℕ). WriteFound (found_by q) t p from p' result) (text s rule at h.is_open)
      (subst (λ (o : Option Record). WriteFound (option_map_or (λ (r : Record). r.found) o false) (option_map_or found_text o []) p from p' result) (sym h.is_open.1)
      (subst (λ (o : Option Record). Writes o p from p' result) h.is_open.1 w)))
    where
      this : (found : Bool) → found_by q ≡ found → b.find ≡ cond found (Some (spread s (find_of q))) None
      this found e = h.find ∙ ap (λ (found : Bool). cond found (Some (spread s (find_of q))) None) e

      by : (found : Bool) → found_by q ≡ found → (result : Result ℕ WriteFault) → WriteFound found (text_in s rule (spread s (find_of q))) p from p' result → (l : Ledger) × Called (opened s rule at b) p (to_write from) (wrote_as result) l p' × Stands l q
      by false found result refused = answers (opened s rule at b) (opened s rule at b) q p p' (to_write from) _ _ (ap wrote_as refused.0) (unwritten (opened s rule at b) _ refused.1 (none_to_write (this false found))) h
      by true found (Ok end) written = (opened s rule at b, writes (this true found) written, h)
      by true found (Err fault) short = answers (opened s rule at b) (opened s rule at b) q p p' (to_write from) _ _ (ap (λ (f : WriteFault). wrote_as (Err f)) short.0) (no_room (this true found) short.1) h

-- ---- the tally
abbrev pub counted_as : Result ℕ TallyFault → Answered
counted_as (Ok finds) = Ok (Counted finds)
counted_as (Err fault) = Err (calling.Tally fault)

pub finds_counted : (q : Search) (p : List ℕ) (result : Result ℕ TallyFault) → result ≡ tally_answer q.record → (l : Ledger) → Performed l q p to_count (counted_as result) q p
finds_counted q p result answer blank h = answers blank blank q p p to_count _ _ (ap counted_as (answer ∙ ap tally_answer h)) blank_count h
finds_counted q p result answer (opened s rule at b) h =
    let told : told_by q ≡ h.is_open.0.tally = ap (λ (o : Option Record). option_map_or (λ (r : Record). r.tally) o 0) h.is_open.1 in
    answers (opened s rule at b) (opened s rule at b) q p p to_count _ _ (ap counted_as (answer ∙ ap tally_answer h.is_open.1) ∙ ap (λ (n : ℕ). Ok (Counted n)) (sym told ∙ h.tally)) counts h
