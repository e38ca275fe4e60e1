use Rattle.std.proofs.Common.{◌≡◌, ℕ, ◌≤◌, Bool, List, length, vec_items, sym, refl, ap, ◌∙◌, arith}
use Rattle.codes.specs.declared.table.Table.{Table}
use Rattle.codes.specs.declared.value.Value.{Value}
use Rattle.codes.specs.Tables.{index, code_in}
use Rattle.systems.specs.declared.instance.Instance.{Instance}
use Rattle.systems.specs.Systems.{at, descriptor_of, code_for}
use Rattle.systems.specs.Trails.{hold_by}
use Rattle.systems.proofs.Reading.{coded_for, code_few}
use Rattle.settling.specs.Knowing.{Coded, Refused, held}
use Rattle.settling.specs.declared.known.Known.{Known}
use Rattle.settling.proofs.Held.{grown_none, by_nothing_at}
use Rattle.settling.proofs.known.Known.examine.Goals as goal

-- the code that is read is that of the instance
is_code : (t : Table) (rule : Bool → ℕ → Bool) → Coded t rule → (σ τ : List Value) (i : Instance) → length i.neighbours ≤ 8 → (n k : ℕ) → n ≡ code_in t k → k ≡ index (descriptor_of (at τ) i) → τ ≡ σ → n ≡ code_for rule (at σ) i
is_code t rule h σ τ i l n k e f g =
    e ∙ ap (code_in t) (f ∙ ap (λ (ρ : List Value). index (descriptor_of (at ρ) i)) g) ∙ coded_for (at σ) rule t h i l

refused : (rule : Bool → ℕ → Bool) (i : Instance) (a : Known) → code_for rule (at (vec_items a.values)) i ≡ 1 → Refused rule i a a
refused rule i a e = record { contradiction = e; same = refl }

pub returns-in-0-clause-grown : goal.returns-in-0-clause-grown
returns-in-0-clause-grown c = grown_none c.args.self.now

pub returns-in-0-clause-looked : goal.returns-in-0-clause-looked
returns-in-0-clause-looked c = λ rule t.
    let k = is_code c.args.table.now rule t (vec_items c.args.self.now.values) c.as_slice.result.now c.args.instance.now (omega (arith, c.index_of.ensures.eight)) _ _ c.code_at.ensures c.index_of.ensures.value c.as_slice.ensures.value in
    let z : code_for rule (at (vec_items c.args.self.now.values)) c.args.instance.now ≡ 0 = sym k ∙ c.in-0.is in
    record { possible = λ e. omega (arith, z, e); set = by_nothing_at _ c.args.instance.now (held c.args.self.now) z }

pub returns-in-1-clause-grown : goal.returns-in-1-clause-grown
returns-in-1-clause-grown c = grown_none c.args.self.now

pub returns-in-1-clause-looked : goal.returns-in-1-clause-looked
returns-in-1-clause-looked c = λ rule t.
    let k = is_code c.args.table.now rule t (vec_items c.args.self.now.values) c.as_slice.result.now c.args.instance.now (omega (arith, c.index_of.ensures.eight)) _ _ c.code_at.ensures c.index_of.ensures.value c.as_slice.ensures.value in
    refused rule c.args.instance.now c.args.self.now (sym k ∙ c.in-1.is)

pub returns-in_default-clause-looked : goal.returns-in_default-clause-looked
returns-in_default-clause-looked c = λ rule t.
    let i = c.args.instance.now in
    let σ = vec_items c.args.self.now.values in
    let k = is_code c.args.table.now rule t σ c.as_slice.result.now i (omega (arith, c.index_of.ensures.eight)) _ _ c.code_at.ensures c.index_of.ensures.value c.as_slice.ensures.value in
    record {
      possible = λ e. omega (arith, k, e);
      set = c.force.ensures.set (omega (arith, k, code_few (at σ) rule i)) ∙ ap (λ (n : ℕ). hold_by n i (held c.args.self.now)) k;
    }
