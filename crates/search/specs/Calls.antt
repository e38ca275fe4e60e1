-- What the calls of a search answer, and what a search shows.
use Rattle.std.specs.Prelude.{◌≡◌, ℕ, suc, ◌-◌, ◌*◌, ◌^◌, Bool, true, false, cond, ◌&&◌, List, [], Some, None, Option, Ok, Err, Result, nat_le, nat_lt, slice_index_or, vec_len}
use Rattle.std.specs.Option.{option_map_or}
use Rattle.frames.specs.declared.frame.Cell.{Cell}
use Rattle.frames.specs.declared.frame.Frame.{Frame}
use Rattle.frames.specs.Frames.{number_at}
use Rattle.rules.specs.declared.rule.Rule.{Rule}
use Rattle.rolls.specs.Rolls.{Surface}
use Rattle.pages.specs.Pages.{Written}
use Rattle.pages.specs.declared.fault.PageFault.TheVariants.{Short}
use Rattle.systems.specs.Systems.{Sys}
use Rattle.histories.specs.Searches.{State, fresh, Reply, tells_find, done, paused, Go}
use Rattle.histories.specs.Going.{go}
use Rattle.settling.specs.Boards.{values_of}
use Rattle.search.specs.Answers.{steps_of}
use Rattle.search.specs.Moves.{reached}
use Rattle.search.specs.Opening.{Searches, found_cells, found_text}
use Rattle.search.specs.Stacks.{find_in}
use Rattle.search.specs.Standings.{state_of}
use Rattle.search.specs.declared.answer.Answer.{Answer}
use Rattle.search.specs.declared.answer.Answer.TheVariants.{Found, Done, Paused}
use Rattle.search.specs.declared.fault.OpenFault.{OpenFault}
use Rattle.search.specs.declared.fault.OpenFault.TheVariants as opening
use Rattle.search.specs.declared.fault.GoFault.{GoFault}
use Rattle.search.specs.declared.fault.GoFault.TheVariants as going
use Rattle.search.specs.declared.fault.CellFault.{CellFault}
use Rattle.search.specs.declared.fault.CellFault.TheVariants as reading
use Rattle.search.specs.declared.fault.WriteFault.{WriteFault}
use Rattle.search.specs.declared.fault.WriteFault.TheVariants as writing
use Rattle.search.specs.declared.fault.TallyFault.{TallyFault}
use Rattle.search.specs.declared.fault.TallyFault.TheVariants as tallying
use Rattle.search.specs.declared.record.Record.{Record}
use Rattle.search.specs.declared.search.Search.{Search}

-- ---- what a search shows
-- a search was opened on a surface, a rule and the cells by rank, and what it holds now is what the search of their system holds
abbrev pub IsOpen : Search → Surface → Rule → (ℕ → ℕ) → Type 0
IsOpen q s rule cell = (r : Record) × (q.record ≡ Some r) × Searches r s rule cell

-- the state of the search, in the words of its definition
abbrev pub state_in : Search → State
state_in q = option_map_or state_of q.record fresh

-- whether the last go answered found, and how many finds were told
abbrev pub found_by : Search → Bool
found_by q = option_map_or (λ (r : Record). r.found) q.record false

abbrev pub told_by : Search → ℕ
told_by q = option_map_or (λ (r : Record). r.tally) q.record 0

-- the find where all classes are known, by class
abbrev pub find_of : Search → List Bool
find_of q = option_map_or (λ (r : Record). find_in (values_of r.board)) q.record []

-- the text of its first generation
abbrev pub text_of : Search → List ℕ
text_of q = option_map_or found_text q.record []

-- how many calls of go there can be before one answers done, at most
abbrev pub left_of : Record → ℕ
left_of r = 2 * 2 ^ suc (vec_len r.ranks) - reached r

abbrev pub left_in : Search → ℕ
left_in q = option_map_or left_of q.record 0

-- ---- opening
-- an opened search is not opened again; nor is one with more than 8 rows of ties
abbrev pub open_refusal : Option Record → ℕ → Option OpenFault
open_refusal (Some r) rows = Some opening.NotBlank
open_refusal None rows = cond (nat_lt 8 rows) (Some opening.TieRows) None

-- an opening is refused so, or else for want of memory
abbrev pub OpenRefused : Option OpenFault → OpenFault → Type 0
OpenRefused (Some why) fault = fault ≡ why
OpenRefused None fault = fault ≡ opening.Memory

-- ---- going
-- a blank search does not go, nor does one by a number of steps that is not from 1 to 1,000,000
abbrev pub go_refusal : Option Record → ℕ → Option GoFault
go_refusal None steps = Some going.Blank
go_refusal (Some r) steps = cond (nat_le 1 steps && nat_le steps 1000000) None (Some going.Steps)

-- the answer in the words of the search's definition
abbrev pub reply_of : Search → Answer → Reply
reply_of q (Found n) = tells_find (find_of q)
reply_of q (Done n) = done
reply_of q (Paused n) = paused

-- a granted go with so many steps: its answer, its steps and the state after it are those of the search's definition
pub record Goes (S : Sys) (n : ℕ) (old new : Search) (a : Answer) : Type 0 where
  pub reply : reply_of new a ≡ (go S n (state_in old)).reply
  pub steps : steps_of a ≡ (go S n (state_in old)).steps
  pub state : state_in new ≡ (go S n (state_in old)).state
  -- and so they are in the words of its moves
  pub moves : Go S n (state_in old) (reply_of new a) (steps_of a) (state_in new)

-- ---- reading a cell
-- a cell of a filling, unless the box has no such cell
abbrev pub cell_in : Frame → List Bool → Cell → Result Bool CellFault
cell_in f filling cell = option_map_or (λ number. Ok (slice_index_or filling number false)) (number_at f cell) (Err reading.NoCell)

-- a cell of the find is read if the last go answered found
abbrev pub cell_found : Bool → Frame → List Bool → Cell → Result Bool CellFault
cell_found false f filling cell = Err reading.NoFind
cell_found true f filling cell = cell_in f filling cell

abbrev pub cell_answer : Option Record → Cell → Result Bool CellFault
cell_answer None cell = Err reading.Blank
cell_answer (Some r) cell = cell_found r.found r.frame (found_cells r) cell

-- ---- writing
-- the text stands in the page, or there is no room for it
abbrev pub WriteText : List ℕ → List ℕ → ℕ → List ℕ → Result ℕ WriteFault → Type 0
WriteText text old at new (Ok end) = Written old at text new (Ok end)
WriteText text old at new (Err fault) = (fault ≡ writing.Page Short) × Written old at text new (Err Short)

-- a page is written if the last go answered found
abbrev pub WriteFound : Bool → List ℕ → List ℕ → ℕ → List ℕ → Result ℕ WriteFault → Type 0
WriteFound false text old at new result = (result ≡ Err writing.NoFind) × (new ≡ old)
WriteFound true text old at new result = WriteText text old at new result

abbrev pub Writes : Option Record → List ℕ → ℕ → List ℕ → Result ℕ WriteFault → Type 0
Writes None old at new result = (result ≡ Err writing.Blank) × (new ≡ old)
Writes (Some r) old at new result = WriteFound r.found (found_text r) old at new result

-- ---- the tally
abbrev pub tally_answer : Option Record → Result ℕ TallyFault
tally_answer None = Err tallying.Blank
tally_answer (Some r) = Ok r.tally
