-- The page of a space, as the bytes that a writer gets, and its first parts.
use Rattle.std.specs.Prelude.{◌≡◌, ℕ, ◌<◌, ◌≤◌, Bool, List, [], ◌++◌, Ok, Err, Option, Result}
use Rattle.std.specs.List.{concat}
use Rattle.std.specs.Io.KnownBytes.{Appends, Keeps}
use Rattle.rules.specs.declared.rule.Rule.{Rule}
use Rattle.rolls.specs.Rolls.{Surface, Roll}
use Rattle.systems.specs.Systems.{In}
use Rattle.histories.specs.Listed.{Listed}
use Rattle.search.specs.declared.fault.OpenFault.TheVariants as opening
use Rattle.calls.specs.declared.fault.CallFault.TheVariants.{Open}
use Rattle.listing.specs.Handing.{Shown, page_of}
use Rattle.listing.specs.declared.fault.ListFault.{ListFault}
use Rattle.listing.specs.declared.fault.ListFault.TheVariants.{Call, Closed}

-- these bytes are the page: the text of each filling that keeps the ties and the rule, in dictionary order, each once, and at last how
-- many there are
pub record IsPage (s : Surface) (rule : Rule) (cell : ℕ → ℕ) (bytes : List ℕ) : Type 0 where
  pub steps : ℕ
  pub finds : List (List Bool)
  pub listed : Listed s rule cell steps finds
  pub all : (f : List Bool) → Roll s rule f → In f finds
  pub texts : bytes ≡ concat (page_of s rule finds)

-- these bytes are a first part of it: one of the texts of finds that are in dictionary order the first of the roll, with the last line
-- only behind all
pub record BeginsPage (s : Surface) (rule : Rule) (cell : ℕ → ℕ) (bytes : List ℕ) : Type 0 where
  pub steps : ℕ
  pub finds : List (List Bool)
  pub listed : Listed s rule cell steps finds
  pub texts : List (List ℕ)
  pub shown : Shown s rule [] finds texts
  pub rest : List ℕ
  pub whole : bytes ++ rest ≡ concat texts

-- a writer's known bytes grew by some that are so
abbrev pub Wrote : Option (List ℕ) → Option (List ℕ) → (List ℕ → Type 0) → Type 0
Wrote old new So = (bytes : List ℕ) × Appends old new bytes × So bytes

-- what each answer of a listing says of what was written: the page, a first part of it, or nothing
abbrev pub PageWritten : Surface → Rule → (ℕ → ℕ) → Option (List ℕ) → Result (Unit {0}) ListFault → Option (List ℕ) → Type 0
PageWritten s rule cell old (Ok u) new = (s.rows ≤ 8) × Wrote old new (IsPage s rule cell)
PageWritten s rule cell old (Err Closed) new = (s.rows ≤ 8) × Wrote old new (BeginsPage s rule cell)
PageWritten s rule cell old (Err (Call (Open opening.TieRows))) new = (8 < s.rows) × Keeps old new
PageWritten s rule cell old (Err (Call (Open opening.Memory))) new = (s.rows ≤ 8) × Keeps old new
PageWritten s rule cell old result new = ⊥
