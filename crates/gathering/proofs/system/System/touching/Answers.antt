use Rattle.std.proofs.Common.{◌≡◌, ℕ, length, [], None, Some, Vec, slice_get, vec_items, vec_len, ap, ◌∙◌, subst, sym, refl, rules}
use Rattle.std.proofs.lemmas.Option.{slice_get_read, slice_get_past}
use Rattle.std.specs.Option.{option_map_or}
use Rattle.std.specs.declared.alloc.Global.{Global}
use Rattle.gathering.specs.Bounds.{Under}
use Rattle.gathering.specs.Rendering.{AllTouching, OnlyTouching}
use Rattle.gathering.proofs.Noting.{all_touching, only_touching}
use Rattle.gathering.proofs.system.System.touching.Goals as goal

pub returns-in-Some-clause-complete : goal.returns-in-Some-clause-complete
returns-in-Some-clause-complete c = λ few.
    let me = c.args.self.now in
    let here = c.in-Some.ensures.lookup in
    let got : slice_get (vec_items me.touching) c.args.class ≡ Some c.in-Some.numbers.now =
    sym (λ h. slice_get (c.deref.ensures.value h) (c.from.ensures h)) ∙ slice_get_read c.deref.result.now _ c.from.result c.in-Some.numbers.now refl here.3.0 here.1 in
    let shown = sym c.as_slice.ensures.value in
    subst (AllTouching (vec_items me.instances) c.args.class) shown (all_touching _ _ _ (me.noted c.args.class c.in-Some.numbers.now got))

pub returns-in-Some-clause-only : goal.returns-in-Some-clause-only
returns-in-Some-clause-only c =
    let me = c.args.self.now in
    let here = c.in-Some.ensures.lookup in
    let got : slice_get (vec_items me.touching) c.args.class ≡ Some c.in-Some.numbers.now =
    sym (λ h. slice_get (c.deref.ensures.value h) (c.from.ensures h)) ∙ slice_get_read c.deref.result.now _ c.from.result c.in-Some.numbers.now refl here.3.0 here.1 in
    let shown = sym c.as_slice.ensures.value in
    let long : vec_len me.instances ≡ length (vec_items me.instances) = search rules in
    let within = subst (λ n. Under n (vec_items c.in-Some.numbers.now)) long (me.within c.args.class c.in-Some.numbers.now got) in
    subst (OnlyTouching (vec_items me.instances) c.args.class) shown (only_touching _ _ _ (me.noted c.args.class c.in-Some.numbers.now got) within)

pub returns-in-None-clause-value : goal.returns-in-None-clause-value
returns-in-None-clause-value c =
    let none : slice_get (vec_items c.args.self.now.touching) c.args.class ≡ None =
    sym (λ h. slice_get (c.deref.ensures.value h) (c.from.ensures h)) ∙ slice_get_past c.deref.result.now c.from.result c.in-None.ensures.lookup.3 in
    ap (λ o. option_map_or (λ (numbers : Vec ℕ Global). vec_items numbers) o []) (sym none)
