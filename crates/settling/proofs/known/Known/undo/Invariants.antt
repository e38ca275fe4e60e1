use Rattle.std.proofs.Common.{◌≡◌, ℕ, ◌+◌, ◌≤◌, drop, get_or, vec_items, vec_len}
use Rattle.codes.specs.declared.value.Value.TheVariants.{Off, Unknown}
use Rattle.settling.specs.Counts.{unknowns}
use Rattle.settling.specs.Knowing.{put_back}
use Rattle.settling.proofs.known.Known.undo.Given as goal

abbrev pub invariant-loop-class : goal.invariant-loop-class
invariant-loop-class l = record {
  sized : vec_len l.values ≡ vec_len l.fn.self.values;
  more : unknowns (vec_items l.values) ≤ unknowns (vec_items l.fn.self.values) + l.class-index;
  nothing : (k : ℕ) → k + 1 ≡ vec_len l.values → get_or (vec_items l.values) k Unknown ≡ Off;
  back : put_back (drop l.class-index l.class-items) (vec_items l.values) ≡ put_back l.class-items (vec_items l.fn.self.values);
}
