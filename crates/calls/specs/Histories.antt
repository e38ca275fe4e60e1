-- How a search stands to the calls that were made of it.
use Rattle.std.specs.Prelude.{◌≡◌, ℕ, cond, Bool, false, List, Some, None}
use Rattle.frames.specs.Frames.{cells}
use Rattle.rules.specs.declared.rule.Rule.{Rule}
use Rattle.rolls.specs.Laws.{Orders}
use Rattle.rolls.specs.Rolls.{Surface}
use Rattle.systems.specs.Spaces.{spread, system_of}
use Rattle.histories.specs.Listed.{Listed, told_of}
use Rattle.histories.specs.Searches.{Calls, fresh}
use Rattle.search.specs.Calls.{IsOpen, find_of, found_by, state_in, told_by}
use Rattle.search.specs.declared.search.Search.{Search}
use Rattle.calls.specs.Asked.{Asked}
use Rattle.calls.specs.Ledgers.{Answered, Book, Called, Ledger, Made, Run, blank, new_book, opened, tally_of}

-- an opened search and what has come of it
pub record Keeps (s : Surface) (rule : Rule) (cell : ℕ → ℕ) (b : Book) (q : Search) : Type 0 where
  pub is_open : IsOpen q s rule cell
  pub state : b.state ≡ state_in q
  pub tally : told_by q ≡ tally_of b.told
  pub find : b.find ≡ cond (found_by q) (Some (spread s (find_of q))) None
  -- the finds told are in sequence the first of the roll in dictionary order, each once, and the steps are few
  pub listed : Listed s rule cell b.steps b.told
  -- they are those of calls of the search as it is defined, each a filling of the classes, from the opening on
  pub by_class : List (List Bool)
  pub told : b.told ≡ told_of s by_class
  pub calls : Calls (system_of s rule cell) fresh b.steps by_class b.state
  pub rank : ℕ → ℕ
  pub orders : Orders (cells s.frame) cell rank

abbrev pub Stands : Ledger → Search → Type 0
Stands blank q = q.record ≡ None
Stands (opened s rule cell b) q = Keeps s rule cell b q

-- a call of a search that stands so: its answer and the page are what they have to be, and so is the search then
abbrev pub Performed : Ledger → Search → List ℕ → Asked → Answered → Search → List ℕ → Type 0
Performed l old from call answer new to = Stands l old → (l' : Ledger) × Called l from call answer l' to × Stands l' new

-- the calls by which a search, blank at first, came to stand as it stands, each with the pages before and after it
pub record History (made : List Made) (q : Search) : Type 0 where
  pub ledger : Ledger
  pub run : Run blank made ledger
  pub stands : Stands ledger q

-- what a granted `Search::open` promises of a search, by a cell order, is what a search keeps of which nothing is told
abbrev pub OpeningKeeps : Type 0
OpeningKeeps =
    (q : Search) (s : Surface) (rule : Rule) (cell rank : ℕ → ℕ) → IsOpen q s rule cell → state_in q ≡ fresh → (found_by q ≡ false) × (told_by q ≡ 0) → Orders (cells s.frame) cell rank →
    Keeps s rule cell new_book q
