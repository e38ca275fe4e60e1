-- What a list of pairs has in common, as the program holds it.
use Rattle.std.specs.Prelude.{◌≡◌, ℕ, ◌+◌, Bool, true, false, cond, not, ◌&&◌, ◌==◌, List, Option, Some, None}
use Rattle.codes.specs.declared.common.Verdict.{Verdict}
use Rattle.codes.specs.declared.common.Common.{Common}
use Rattle.codes.specs.Codes.{Parts, Pair, is_empty, every, says_centre, says_successor, says_neighbours, with_fit}

abbrev pub verdict_of : (Bool → Pair → Bool) → List Pair → Verdict
verdict_of says ps = record { off = every (says false) ps; on = every (says true) ps }

-- nothing where there is no pair
abbrev pub common_of : (Bool → ℕ → Bool) → Parts → List Pair → Option Common
common_of rule d ps =
    cond (is_empty ps) None
    (Some (record {
      centre = verdict_of says_centre ps;
      successor = verdict_of (says_successor rule) ps;
      neighbours = verdict_of (says_neighbours d) ps;
    }))

-- what one pair says, from its successor
abbrev pub said_by : Parts → Bool → ℕ → Bool → Common
said_by d centre sum next =
    record {
      centre = record { off = not centre; on = centre };
      successor = record { off = not next; on = next };
      neighbours = record { off = sum == d.on; on = sum == d.on + d.unknown };
    }

-- what two verdicts say both
abbrev pub agreed : Verdict → Verdict → Verdict
agreed v w = record { off = v.off && w.off; on = v.on && w.on }

abbrev pub both : Common → Common → Common
both a b =
    record {
      centre = agreed a.centre b.centre;
      successor = agreed a.successor b.successor;
      neighbours = agreed a.neighbours b.neighbours;
    }

-- what pairs have in common, before and after a pair more that is kept if it fits
abbrev pub Gathers : (Bool → ℕ → Bool) → Parts → Pair → Option Common → Option Common → Type 0
Gathers rule d p before after = (ps : List Pair) → before ≡ common_of rule d ps → after ≡ common_of rule d (with_fit rule d p ps)
