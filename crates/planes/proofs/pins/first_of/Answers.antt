use Rattle.std.proofs.Common.{◌==◌, ◌∙◌, rules}
use Rattle.std.proofs.lemmas.Iterator.{YieldsList-from_slice}
use Rattle.std.proofs.lemmas.Iterator.Search.{find_from_yields_List}
use borrow.Author.Tests.{tests}
use Rattle.planes.proofs.pins.first_of.Goals as goal

pub returns : goal.returns
returns c = c.copied.ensures ∙ find_from_yields_List (λ p. p.cell == c.args.cell) _ _ _ c.find.ensures.ran (YieldsList-from_slice c.args.pins.now cc) (λ x b q k. search (rules, tests))
