-- The law of runs: what decides what calls come to.
use Rattle.std.specs.Prelude.{◌≡◌, ℕ, Bool, true, false, List, map, Ok, Err}
use Rattle.search.specs.declared.fault.OpenFault.TheVariants as opening
use Rattle.calls.specs.Asked.{Asked}
use Rattle.calls.specs.Ledgers.{Answered, Ledger, Made, Run, blank}
use Rattle.calls.specs.declared.fault.CallFault.TheVariants.{Open, Go, Cell, Write, Tally}

-- whether memory was wanting, which only an opening can answer
abbrev pub wants_memory : Answered → Bool
wants_memory (Ok reply) = false
wants_memory (Err (Open opening.NotBlank)) = false
wants_memory (Err (Open opening.TieRows)) = false
wants_memory (Err (Open opening.Memory)) = true
wants_memory (Err (Go fault)) = false
wants_memory (Err (Cell fault)) = false
wants_memory (Err (Write fault)) = false
wants_memory (Err (Tally fault)) = false

-- what a caller brings to a call, and whether memory was wanting then
pub record Brought : Type 0 where
  pub page : List ℕ
  pub call : Asked
  pub wanting : Bool

abbrev pub brought : Made → Brought
brought m = record { page = m.before; call = m.call; wanting = wants_memory m.answer }

-- the same calls on the same pages, made of blank searches, with memory wanting at the same ones, have the same answers and the same pages after
-- them, and lead to the same
abbrev pub RunsDecided : Type 0
RunsDecided = (xs ys : List Made) (l k : Ledger) → Run blank xs l → Run blank ys k → map brought xs ≡ map brought ys → (xs ≡ ys) × (l ≡ k)
