use Rattle.std.proofs.Common.{◌+◌, get_or, drop, ap, sym, ◌∙◌, refl, arith}
use Rattle.codes.specs.Laws.{known}
use Rattle.systems.specs.Trails.{hold_each}
use Rattle.systems.proofs.Reading.{hold_known}
use Rattle.settling.specs.Knowing.{held, value_said}
use Rattle.settling.proofs.Held.{grown_none, grown_then, each_next, each_nothing, each_ended}
use Rattle.settling.proofs.known.Known.set_neighbours.Goals as goal

pub returns-in_default-clause-grown : goal.returns-in_default-clause-grown
returns-in_default-clause-grown c = grown_none c.args.self.now

pub returns-in_default-clause-set : goal.returns-in_default-clause-set
returns-in_default-clause-set c =
    let h = held c.args.self.now in
    sym (ap (λ w. hold_each (value_said w) c.args.instance.now.neighbours h) c.in_default.is ∙ each_nothing c.args.instance.now.neighbours h)

pub loop-class-init : goal.loop-class-init
loop-class-init c = record { grown = grown_none c.args.self.now; set = refl }

pub loop-class-preserved : goal.loop-class-preserved
loop-class-preserved c =
    let xs = c.args.instance.now.neighbours in
    let k = c.loop-class.class-index in
    let w = known c.in-Some.on in
    let one = c.set.ensures.set ∙ sym (hold_known c.in-Some.on (get_or xs k 0) (held c.loop-class.self)) in
    record {
      grown = grown_then _ _ _ c.loop-class.invariant.grown c.set.ensures.grown;
      set = ap (hold_each w (drop (k + 1) xs)) one ∙ sym (each_next w xs k (held c.loop-class.self) (omega arith)) ∙ c.loop-class.invariant.set;
    }

pub returns : goal.returns
returns c =
    let xs = c.args.instance.now.neighbours in
    let h = held c.args.self.now in
    record {
      grown = c.loop-class.invariant.grown;
      set = sym (each_ended (known c.in-Some.on) xs c.loop-class.class-index (held c.loop-class.self) (omega arith)) ∙ c.loop-class.invariant.set
          ∙ ap (λ s. hold_each (value_said s) xs h) (sym c.in-Some.is);
    }
