-- What a search has come to by its calls, what each call answers then, and calls one after another.
use Rattle.std.specs.Prelude.{◌≡◌, ℕ, ◌+◌, ◌<◌, ◌≤◌, min, Bool, false, List, [], ◌∷◌, ◌++◌, length, slice_index_or, Some, None, Option, Ok, Err, Result}
use Rattle.frames.specs.declared.frame.Cell.{Cell}
use Rattle.frames.specs.Frames.{cells, number_at}
use Rattle.rules.specs.declared.rule.Rule.{Rule}
use Rattle.rules.specs.Forms.{written}
use Rattle.rolls.specs.Laws.{Orders}
use Rattle.rolls.specs.Rolls.{Surface, Roll}
use Rattle.pages.specs.Pages.{Written}
use Rattle.pages.specs.declared.fault.PageFault.TheVariants.{Short}
use Rattle.rle.specs.Texts.{pattern_text}
use Rattle.classes.specs.Joins.{TiesInside}
use Rattle.systems.specs.Spaces.{spread, system_of}
use Rattle.systems.specs.Systems.{In}
use Rattle.histories.specs.Searches.{State, fresh, tells_find, done, paused, Go}
use Rattle.search.specs.declared.answer.Answer.TheVariants.{Found, Done, Paused}
use Rattle.search.specs.declared.fault.CellFault.TheVariants as cell
use Rattle.search.specs.declared.fault.GoFault.TheVariants as go
use Rattle.search.specs.declared.fault.OpenFault.TheVariants as opening
use Rattle.search.specs.declared.fault.TallyFault.TheVariants as tally
use Rattle.search.specs.declared.fault.WriteFault.TheVariants as write
use Rattle.calls.specs.Asked.{Asked, to_open, to_go, to_read, to_write, to_count}
use Rattle.calls.specs.declared.call.Reply.{Reply}
use Rattle.calls.specs.declared.call.Reply.TheVariants.{Opened, Went, Read, Wrote, Counted}
use Rattle.calls.specs.declared.fault.CallFault.{CallFault}
use Rattle.calls.specs.declared.fault.CallFault.TheVariants.{Open, Go as GoRefused, Cell as CellRefused, Write as WriteRefused, Tally as TallyRefused}

abbrev pub Answered : Type 0
Answered = Result Reply CallFault

-- the text of a filling's first generation
abbrev pub text_in : Surface → Rule → List Bool → List ℕ
text_in s rule f = pattern_text s.frame.width s.frame.height (written rule.births rule.survivals) f

-- so many finds, up to 2^64 - 1
abbrev pub tally_of : List (List Bool) → ℕ
tally_of fs = min (length fs) 18446744073709551615

-- what has come of an opened search: where it stands, in the words of its definition; the finds told, in sequence, each a filling of the cells;
-- the steps of all its goes; and the find that may be read and written
pub record Book : Type 0 where
  pub state : State
  pub told : List (List Bool)
  pub steps : ℕ
  pub find : Option (List Bool)

-- a search is blank, or opened on a surface, a rule and the cells by rank
pub data Ledger : Type 0 where
  blank : Ledger
  opened : Surface → Rule → (ℕ → ℕ) → Book → Ledger

-- just opened: nothing is told
abbrev pub new_book : Book
new_book = record { state = fresh; told = []; steps = 0; find = None }

-- a find is told: it is the last, and the one that may be read
abbrev pub found_book : Book → State → ℕ → List Bool → Book
found_book b to k f = record { state = to; told = b.told ++ f ∷ []; steps = b.steps + k; find = Some f }

-- nothing is told, and none may be read
abbrev pub idle_book : Book → State → ℕ → Book
idle_book b to k = record { state = to; told = b.told; steps = b.steps + k; find = None }

-- numbers of steps that a go takes
abbrev pub Granted : ℕ → Type 0
Granted n = (1 ≤ n) × (n ≤ 1000000)

-- what a call answers, what the search has come to then, and the page then
pub data Called : Ledger → List ℕ → Asked → Answered → Ledger → List ℕ → Type 0 where
  -- ---- a blank search
  -- an opening, over at most 8 rows of ties, which name cells of the box, and by any cell order
  opens : {s : Surface} {r : Rule} {at : ℕ → ℕ} {p : List ℕ} (rank : ℕ → ℕ) → TiesInside s → Orders (cells s.frame) at rank → s.rows ≤ 8 →
      Called blank p (to_open s r at) (Ok Opened) (opened s r at new_book) p
  many_rows : {s : Surface} {r : Rule} {at : ℕ → ℕ} {p : List ℕ} → 8 < s.rows →
      Called blank p (to_open s r at) (Err (Open opening.TieRows)) blank p
  -- memory may be wanting, of which nothing is said
  no_memory : {s : Surface} {r : Rule} {at : ℕ → ℕ} {p : List ℕ} → s.rows ≤ 8 →
      Called blank p (to_open s r at) (Err (Open opening.Memory)) blank p
  blank_go : {n : ℕ} {p : List ℕ} → Called blank p (to_go n) (Err (GoRefused go.Blank)) blank p
  blank_read : {c : Cell} {p : List ℕ} → Called blank p (to_read c) (Err (CellRefused cell.Blank)) blank p
  blank_write : {at : ℕ} {p : List ℕ} → Called blank p (to_write at) (Err (WriteRefused write.Blank)) blank p
  blank_count : {p : List ℕ} → Called blank p to_count (Err (TallyRefused tally.Blank)) blank p
  -- ---- an opened search is not opened again
  not_blank : {s t : Surface} {r q : Rule} {at by : ℕ → ℕ} {b : Book} {p : List ℕ} →
      Called (opened s r at b) p (to_open t q by) (Err (Open opening.NotBlank)) (opened s r at b) p
  -- ---- it goes as the search is defined
  -- a find is told, behind those before it
  tells : {s : Surface} {r : Rule} {at : ℕ → ℕ} {b : Book} {p : List ℕ} {n k : ℕ} {to : State} {f : List Bool} → Granted n → k ≤ n →
      Go (system_of s r at) n b.state (tells_find f) k to →
      Called (opened s r at b) p (to_go n) (Ok (Went (Found k))) (opened s r at (found_book b to k (spread s f))) p
  -- done: every member of the roll was told
  ends : {s : Surface} {r : Rule} {at : ℕ → ℕ} {b : Book} {p : List ℕ} {n k : ℕ} {to : State} → Granted n → k ≤ n →
      Go (system_of s r at) n b.state done k to → ((f : List Bool) → Roll s r f → In f b.told) →
      Called (opened s r at b) p (to_go n) (Ok (Went (Done k))) (opened s r at (idle_book b to k)) p
  -- paused: every step granted was taken
  pauses : {s : Surface} {r : Rule} {at : ℕ → ℕ} {b : Book} {p : List ℕ} {n : ℕ} {to : State} → Granted n →
      Go (system_of s r at) n b.state paused n to →
      Called (opened s r at b) p (to_go n) (Ok (Went (Paused n))) (opened s r at (idle_book b to n)) p
  -- the number of steps is out of its limits
  no_steps : {s : Surface} {r : Rule} {at : ℕ → ℕ} {b : Book} {p : List ℕ} {n : ℕ} → (Granted n → ⊥) →
      Called (opened s r at b) p (to_go n) (Err (GoRefused go.Steps)) (opened s r at b) p
  -- ---- the find is read, and its text written
  reads : {s : Surface} {r : Rule} {at : ℕ → ℕ} {b : Book} {p : List ℕ} {c : Cell} {f : List Bool} {n : ℕ} → b.find ≡ Some f → number_at s.frame c ≡ Some n →
      Called (opened s r at b) p (to_read c) (Ok (Read (slice_index_or f n false))) (opened s r at b) p
  no_cell : {s : Surface} {r : Rule} {at : ℕ → ℕ} {b : Book} {p : List ℕ} {c : Cell} {f : List Bool} → b.find ≡ Some f → number_at s.frame c ≡ None →
      Called (opened s r at b) p (to_read c) (Err (CellRefused cell.NoCell)) (opened s r at b) p
  none_to_read : {s : Surface} {r : Rule} {at : ℕ → ℕ} {b : Book} {p : List ℕ} {c : Cell} → b.find ≡ None →
      Called (opened s r at b) p (to_read c) (Err (CellRefused cell.NoFind)) (opened s r at b) p
  writes : {s : Surface} {r : Rule} {at : ℕ → ℕ} {b : Book} {p p' : List ℕ} {from end : ℕ} {f : List Bool} → b.find ≡ Some f → Written p from (text_in s r f) p' (Ok end) →
      Called (opened s r at b) p (to_write from) (Ok (Wrote end)) (opened s r at b) p'
  no_room : {s : Surface} {r : Rule} {at : ℕ → ℕ} {b : Book} {p p' : List ℕ} {from : ℕ} {f : List Bool} → b.find ≡ Some f → Written p from (text_in s r f) p' (Err Short) →
      Called (opened s r at b) p (to_write from) (Err (WriteRefused (write.Page Short))) (opened s r at b) p'
  none_to_write : {s : Surface} {r : Rule} {at : ℕ → ℕ} {b : Book} {p : List ℕ} {from : ℕ} → b.find ≡ None →
      Called (opened s r at b) p (to_write from) (Err (WriteRefused write.NoFind)) (opened s r at b) p
  -- ---- how many finds were told
  counts : {s : Surface} {r : Rule} {at : ℕ → ℕ} {b : Book} {p : List ℕ} →
      Called (opened s r at b) p to_count (Ok (Counted (tally_of b.told))) (opened s r at b) p

-- a call as it was made: the page before it, what was asked and answered, and the page after it
pub record Made : Type 0 where
  pub before : List ℕ
  pub call : Asked
  pub answer : Answered
  pub after : List ℕ

-- calls of a search one after another, from what it has come to on. Between two of them its caller may do anything with the page, and use another:
-- the page after a call and the page before the next have nothing to do with each other
pub data Run (from : Ledger) : List Made → Ledger → Type 0 where
  no_calls : Run from [] from
  calls_on : {made : List Made} {l l' : Ledger} {p p' : List ℕ} {c : Asked} {a : Answered} →
      Run from made l → Called l p c a l' p' → Run from (made ++ record { before = p; call = c; answer = a; after = p' } ∷ []) l'
