use Rattle.std.proofs.Common.{◌≡◌, ℕ, ◌<◌, List, length, get_or, ap, ◌∙◌, arith}
use Rattle.std.proofs.lemmas.List.{get_or_default}
use Rattle.codes.specs.declared.value.Value.{Value}
use Rattle.codes.specs.declared.value.Value.TheVariants.{Off, Unknown}
use Rattle.codes.specs.Values.{number_of}
use Rattle.systems.specs.Systems.{at, weight_of}
use Rattle.settling.proofs.Indexed.{number_few, counted_none, counted_more, counted_all}
use Rattle.settling.proofs.forcing.index_of.Goals as goal

-- the value that is read is that of the class
read : (σ : List Value) (n x : ℕ) → n ≡ x → x < length σ → get_or σ n Off ≡ at σ x
read σ n x e l = get_or_default σ n Off Unknown (omega arith) ∙ ap (at σ) e

pub loop-class-init : goal.loop-class-init
loop-class-init c =
    let σ = c.args.values.now in
    let i = c.args.instance.now in
    let centre : c.from-centre.result ≡ number_of (at σ i.centre) = c.from-centre.ensures ∙ ap number_of (read σ c.from.result i.centre c.from.ensures c.requires.0) in
    let successor : c.from-successor.result ≡ number_of (at σ i.successor) = c.from-successor.ensures ∙ ap number_of (read σ c.from-2.result i.successor c.from-2.ensures c.requires.1) in
    record {
      few = omega (arith, centre, successor, number_few (at σ i.centre), number_few (at σ i.successor));
      sum = omega (arith, centre, successor, counted_none σ i);
    }

pub loop-class-preserved : goal.loop-class-preserved
loop-class-preserved c =
    let σ = c.args.values.now in
    let i = c.args.instance.now in
    let k = c.loop-class.class-index in
    let x : ℕ = get_or i.neighbours k 0 in
    let weight : c.weight-index.result ≡ weight_of (at σ x) = c.weight-index.ensures.value ∙ ap weight_of (read σ c.from-in-loop-class.result x c.from-in-loop-class.ensures (c.requires.2 k c.loop-class-test.true)) in
    record {
      few = omega (arith, c.weight-index.ensures.few, c.loop-class.invariant.few);
      sum = omega (arith, weight, counted_more σ i k (omega arith), c.loop-class.invariant.sum);
    }

pub returns-clause-value : goal.returns-clause-value
returns-clause-value c = c.loop-class.invariant.sum ∙ counted_all c.args.values.now c.args.instance.now c.loop-class.class-index (omega arith)
