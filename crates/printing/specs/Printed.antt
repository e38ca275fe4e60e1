-- The printed lines, and what it means that one stands in a page.
use Rattle.std.specs.Prelude.{◌≡◌, ℕ, ◌+◌, ◌<◌, ◌≤◌, List, [], ◌∷◌, ◌++◌, length, take, drop, Ok, Err, codes, decimal, Result}
use Rattle.pages.specs.declared.fault.PageFault.{PageFault}
use Rattle.problem.specs.Faults.{cause_number}
use Rattle.problem.specs.declared.fault.ProblemFault.{ProblemFault}

-- `found`, the tally and a newline
abbrev pub found_line : ℕ → List ℕ
found_line tally = codes "found " ++ (decimal tally ++ (10 ∷ []))

-- `refused`, a number, `line`, another number and a newline
abbrev pub refused_text : ℕ → ℕ → List ℕ
refused_text number line = codes "refused " ++ (decimal number ++ (codes " line " ++ (decimal line ++ (10 ∷ []))))

-- the same with the number of a refusal and the line that it stands at
abbrev pub refused_line : ProblemFault → List ℕ
refused_line fault = refused_text (cause_number fault.cause) fault.line

-- the page with a text put in at a place
abbrev pub put : List ℕ → ℕ → List ℕ → List ℕ
put page at text = take at page ++ (text ++ drop (at + length text) page)

-- the text stands at its place, or does not fit and the page is as it was
abbrev pub Printed : List ℕ → ℕ → List ℕ → List ℕ → Result ℕ PageFault → Type 0
Printed old at text new (Ok end) = (end ≡ at + length text) × (end ≤ length old) × (new ≡ put old at text)
Printed old at text new (Err fault) = (length old < at + length text) × (new ≡ old)
