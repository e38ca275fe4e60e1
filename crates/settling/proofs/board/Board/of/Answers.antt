use Rattle.std.proofs.Common.{◌≡◌, vec_items, vec_len, ap, arith, ◌∙◌}
use Rattle.classes.specs.declared.classes.Classes.{Classes}
use Rattle.systems.specs.Spaces.{start_of}
use Rattle.settling.proofs.Counted.{unknowns_le}
use Rattle.settling.proofs.Start.{starts, last_off}
use Rattle.settling.proofs.board.Board.of.Goals as goal

pub invariant_of-known : goal.invariant_of-known
invariant_of-known c =
    let values = c.in_ok-first_values.field-0 in
    let trail = c.in_ok-with_capacity.field-0 in
    let made = c.in_ok-with_capacity.ensures in
    let few = unknowns_le (vec_items values) in
    let all : vec_len c.classes.result.now.lowest ≡ vec_len c.args.system.classes.lowest = ap (λ (k : Classes). vec_len k.lowest) c.classes.ensures in
    record {
      nothing = λ k e. last_off _ _ _ k c.in_ok-first_values.ensures.values (omega (arith, e, c.in_ok-first_values.ensures.len));
      trailed = (λ k h. absurd (omega (arith, trail.ok.0, made.len, h)));
      room = omega (arith, few, values.ok.0, made.len);
      reserved = omega (arith, made.capacity, c.in_ok-first_values.ensures.len, all, c.args.system.classed, c.count.ensures.value);
      reached = omega arith;
    }

pub returns-clause-values : goal.returns-clause-values
returns-clause-values c =
    let classes = c.classes.result.now in
    c.in_ok-first_values.ensures.values ∙ starts classes.musts.items (vec_len classes.lowest) (omega (arith, classes.asked, classes.musts.ok.0))
    ∙ ap (λ (k : Classes). start_of k.musts.items) c.classes.ensures
