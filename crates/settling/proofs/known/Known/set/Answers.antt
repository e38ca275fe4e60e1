use Rattle.std.proofs.Common.{◌≡◌, ℕ, ◌+◌, ◌<◌, ◌≢◌, get_or, vec_items, vec_len, sym, refl, ◌∙◌, arith, rules}
use Rattle.std.proofs.lemmas.List.{get_or_default}
use Rattle.codes.specs.declared.value.Value.TheVariants.{Unknown}
use Rattle.classes.proofs.Places.{each_more}
use Rattle.settling.specs.Knowing.{held}
use Rattle.settling.proofs.Counted.{set_known}
use Rattle.settling.proofs.Held.{hold_new, hold_still, nothing_set, not_last, grown_hold}
use Rattle.settling.proofs.known.Known.set.Goals as goal

pub push_reserved-requires : goal.push_reserved-requires
push_reserved-requires c =
    let was = c.args.self.now in
    let unknown : c.index_mut-value.result.now ≡ Unknown = search rules in
    let here : get_or (vec_items was.values) c.args.class Unknown ≡ Unknown = cc in
    let fewer = set_known (vec_items was.values) c.args.class c.from-then-eq.result c.args.on (omega (arith, was.values.ok.0)) here c.from-then-eq.ensures in
    omega (arith, fewer, was.room, was.reserved)

pub invariant_of-self : goal.invariant_of-self
invariant_of-self c =
    let was = c.args.self.now in
    let unknown : c.index_mut-value.result.now ≡ Unknown = search rules in
    let here : get_or (vec_items was.values) c.from.result Unknown ≡ Unknown = cc in
    let fewer = set_known (vec_items was.values) c.from.result c.from-then-eq.result c.args.on (omega (arith, was.values.ok.0, c.from.ensures)) here c.from-then-eq.ensures in
    let told = c.push_reserved.ensures in
    let there : get_or (vec_items was.values) c.args.class Unknown ≡ Unknown = cc in
    let inside : c.args.class + 1 < vec_len was.values = not_last (vec_len was.values) c.args.class (vec_items was.values) c.requires there was.nothing in
    let P : ℕ → ℕ → Type 0 = λ k v. v + 1 < vec_len was.values in
    record {
      nothing = λ k e. nothing_set (vec_items was.values) c.from.result k c.from-then-eq.result here (was.nothing k e);
      trailed = each_more P 0 (vec_items was.trail) (vec_items c.push_reserved.new.self) c.args.class told.items was.trailed inside;
      room = omega (arith, fewer, was.room, told.len);
      reserved = omega (arith, was.reserved, told.capacity);
      reached = omega (arith, was.reached, told.len);
    }

pub returns-then-eq-clause-set : goal.returns-then-eq-clause-set
returns-then-eq-clause-set c =
    let was = c.args.self.now in
    let unknown : c.index_mut-value.result.now ≡ Unknown = search rules in
    let here : get_or (vec_items was.values) c.from.result Unknown ≡ Unknown = cc in
    hold_new c.args.class c.from.result c.args.on (held was) _ c.from-then-eq.result c.from.ensures here c.from-then-eq.ensures refl c.push_reserved.ensures.items

pub returns-then-eq-clause-grown : goal.returns-then-eq-clause-grown
returns-then-eq-clause-grown c =
    grown_hold c.args.self.now _ c.args.class c.args.on refl refl (returns-then-eq-clause-set c) c.requires

pub returns-else-eq-clause-set : goal.returns-else-eq-clause-set
returns-else-eq-clause-set c =
    let was = c.args.self.now in
    let other : c.index_mut-value.result.now ≢ Unknown = search rules in
    let here : get_or (vec_items was.values) c.from.result Unknown ≡ c.index_mut-value.result.now =
    get_or_default (vec_items was.values) c.from.result Unknown c.index_mut-value.result.now (omega (arith, was.values.ok.0, c.from.ensures)) ∙ sym c.index_mut-value.ensures.value in
    hold_still c.args.class c.from.result c.args.on (held was) _ c.index_mut-value.result.now c.from.ensures here other refl refl

pub returns-else-eq-clause-grown : goal.returns-else-eq-clause-grown
returns-else-eq-clause-grown c =
    grown_hold c.args.self.now _ c.args.class c.args.on refl refl (returns-else-eq-clause-set c) c.requires
