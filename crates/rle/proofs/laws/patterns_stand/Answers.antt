use Rattle.rle.proofs.Canonical.{one_form}
use Rattle.rle.proofs.Patterns.{shows_one, shows_no_other, writes_canonical}
use Rattle.rle.proofs.laws.patterns_stand.Goals as goal

pub returns : goal.returns
returns c = record { shows = shows_one; alone = shows_no_other; canonical = writes_canonical; one = one_form }
