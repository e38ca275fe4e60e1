use Rattle.std.proofs.Common.{◌≡◌, ◌≤◌, map, take, length, vec_len, vec_capacity}
use Rattle.rolls.specs.Rolls.{surface}
use Rattle.accounting.specs.Accounts.{EachJudged}
use Rattle.accounting.proofs.parties.judge.Given as goal

abbrev pub invariant-loop-text : goal.invariant-loop-text
invariant-loop-text g l =
    EachJudged (surface (g.S.Plane.means l.space) (g.S.Space.count l.space) (g.S.Space.tied l.space)) l.rule (map (λ text. text.now) (take l.text-index l.texts)) l.verdicts.items
    × (vec_len l.verdicts ≡ l.text-index) × (length l.texts ≤ vec_capacity l.verdicts)
