-- The problem of the block, by computing what is read, answered and printed.
use Rattle.std.proofs.Common.{◌≡◌, List, [], ◌∷◌, Ok, decimal, refl, lit<}
use Rattle.std.proofs.lemmas.Fmt.{decimal_digit}
use Rattle.std.specs.Prelude.{flat_map}
use Rattle.rules.specs.Forms.{rising, ended, divided, parsed, digits_below, written}
use Rattle.lines.specs.Lines.{trimmed}
use Rattle.words.specs.Words.{after_key, number_of}
use Rattle.rolls.specs.Examples.{plainly, two_by_two, life}
use Rattle.classes.specs.Asked.{asked_after}
use Rattle.classes.specs.Labels.{labels_after}
use Rattle.classes.specs.Numbers.{numbered_from}
use Rattle.systems.specs.Spaces.{instance_at, all_instances, start_of, classes_by_rank}
use Rattle.histories.specs.Examples.{Said, Answers, no_more_calls, and_then}
use Rattle.histories.specs.Searches.{State, tells_find, done, paused}
use Rattle.histories.proofs.Worked.{searches_worked}
use Rattle.problem.specs.Forms.{size_in, space_in, order_in, mirror_in}
use Rattle.problem.specs.Lines.{cut_lines}
use Rattle.problem.specs.Reading.{problem_in, from_fixes}
use Rattle.listing.specs.Handing.{page_of}
use Rattle.worked.proofs.Only.{only}
use Rattle.worked.specs.Block.{block_problem, block_said, block_space, block_page, empty_box, block, BlockWorked}

-- the digits of the numbers that stand in the problem and in the page
zero_written : decimal 0 ≡ 48 ∷ []
zero_written = decimal_digit 0 (lit< tt)

one_written : decimal 1 ≡ 49 ∷ []
one_written = decimal_digit 1 (lit< tt)

two_written : decimal 2 ≡ 50 ∷ []
two_written = decimal_digit 2 (lit< tt)

-- each number that is read is one that is written so: those of the box, and that of the mirror
reads : problem_in block_problem ≡ Ok block_said
unfolding problem_in cut_lines trimmed after_key number_of parsed divided ended rising size_in space_in order_in mirror_in from_fixes
reads = rw (two_written, two_written, one_written, zero_written, zero_written) refl

-- rows that ask nothing leave the system of a space as it is, and so the answers of its searches
over_layers : {at : State} {said : List Said} → Answers (plainly two_by_two) life 1000000 at said → Answers block_space life 1000000 at said
unfolding instance_at all_instances start_of classes_by_rank asked_after labels_after numbered_from
over_layers no_more_calls = no_more_calls
over_layers (and_then {a = tells_find f} go more) = and_then go (over_layers more)
over_layers (and_then {a = done} go more) = and_then go (over_layers more)
over_layers (and_then {a = paused} go more) = and_then go (over_layers more)

prints : flat_map (λ text. text) (page_of block_space life (empty_box ∷ block ∷ [])) ≡ block_page
unfolding written digits_below
prints = rw two_written refl

pub block_worked : BlockWorked
block_worked = record { reads = reads; answers = over_layers searches_worked.block; only = only; prints = prints }
