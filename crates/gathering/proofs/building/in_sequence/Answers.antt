use Rattle.std.proofs.Common.{rules, ◌≡◌, length, refl, arith}
use Rattle.gathering.proofs.Keeping.{below_still, rearranged}
use Rattle.gathering.proofs.building.in_sequence.Goals as goal

pub returns-clause-looks : goal.returns-clause-looks
returns-clause-looks c = record { centre = refl; successor = refl; neighbours = rearranged _ _ c.sort_unstable.ensures.permutation }

pub returns-clause-named : goal.returns-clause-named
returns-clause-named c n named =
    let eight : length c.args.instance.neighbours ≡ 8 = search rules in
    (named.0, named.1, below_still n (omega (arith, named.0)) c.args.instance.neighbours c.sort_unstable.new.self c.sort_unstable.ensures.permutation (λ k l. named.2 k (omega (arith, l, eight))))
