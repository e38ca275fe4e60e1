-- What handing out a line of a text gives and leaves.
use Rattle.std.specs.Prelude.{◌≡◌, ℕ, ◌<◌, ◌≤◌, List, [], length, Some, None, Option, OnSome}
use Rattle.std.specs.Borrow.{Bor}
use Rattle.lines.specs.Ends.{NextLine}
use Rattle.lines.specs.Lines.{first_line, next_lines, trimmed}

-- the first line of what was left, without the blanks at its end, and what follows its newline, by the functions that compute them;
-- none where nothing was left
abbrev pub GivenLine : List ℕ → List ℕ → Option (Bor (List ℕ)) → Type 0
GivenLine old new (Some line) = (line.now ≡ trimmed (first_line old)) × (new ≡ next_lines old)
GivenLine old new None = (old ≡ []) × (new ≡ old)

-- all that is known when a line is asked for: which line is given, in both ways, and that what is left has become shorter with each line
pub record HandsOut (old new : List ℕ) (answer : Option (Bor (List ℕ))) : Type 0 where
  pub line : NextLine old new answer
  pub given : GivenLine old new answer
  pub less : OnSome answer (length new < length old)
  pub rest : length new ≤ length old
