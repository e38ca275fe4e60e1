use Rattle.std.proofs.Common.{◌≡◌, List, ℕ, ◌++◌}
use Rattle.pages.specs.Pages.{Placed}
use Rattle.rle.specs.Texts.{body_text}
use Rattle.texts.specs.Marks.{left}
use Rattle.texts.proofs.body.write_body.Given as goal

-- a front of the body is written, and what is left has the rest of it
abbrev pub invariant-loop-run : goal.invariant-loop-run
invariant-loop-run l = (done : List ℕ) × Placed l.initial.tail 0 done l.tail l.end × (done ++ body_text (left l.run-iterator) ≡ body_text (left l.fn.runs))
