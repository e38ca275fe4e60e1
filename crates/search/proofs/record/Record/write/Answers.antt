use Rattle.std.proofs.Common.{rules, ◌≡◌, ℕ, ◌*◌, ◌<◌, false, slice_index_or, Err, arith}
use Rattle.search.specs.Opening.{found_cells}
use Rattle.search.specs.declared.fault.WriteFault.TheVariants.{Page}
use Rattle.search.proofs.Finds.{asked_text, places_within, set_more, text_err, text_ok}
use Rattle.search.proofs.record.Record.write.Goals as goal

pub is_on-requires : goal.is_on-requires
is_on-requires c = omega (arith, c.loop-cell-test.true, c.places-cell-end.ensures.value, places_within c.args.self.now.frame)

pub loop-cell-preserved : goal.loop-cell-preserved
loop-cell-preserved c =
    let was = c.loop-cell.invariant in
    record {
      long = search rules;
      asked = set_more c.loop-cell.pattern c.loop-cell.cell c.is_on.result _ (omega (arith, was.long, c.loop-cell-test.true, c.places-cell-end.ensures.bound)) c.is_on.ensures was.asked;
    }

pub returns-in_err-write_pattern-clause-text : goal.returns-in_err-write_pattern-clause-text
returns-in_err-write_pattern-clause-text c =
    let was = c.loop-cell.invariant in
    let asked : (k : ℕ) → k < c.args.self.now.frame.width * c.args.self.now.frame.height → slice_index_or c.loop-cell.pattern k false ≡ slice_index_or (found_cells c.args.self.now) k false = λ k l. was.asked k (omega (arith, l, c.loop-cell-test.false, c.places-cell-end.ensures.value)) in
    let fault : c.from_residual.result ≡ Err (Page c.in_err-write_pattern.field-0.0) = search rules in
    text_err _ _ _ _ _ _ _ (asked_text c.args.self.now c.loop-cell.pattern was.long asked) c.in_err-write_pattern.ensures.written fault

pub returns-clause-text : goal.returns-clause-text
returns-clause-text c =
    let was = c.loop-cell.invariant in
    let asked : (k : ℕ) → k < c.args.self.now.frame.width * c.args.self.now.frame.height → slice_index_or c.loop-cell.pattern k false ≡ slice_index_or (found_cells c.args.self.now) k false = λ k l. was.asked k (omega (arith, l, c.loop-cell-test.false, c.places-cell-end.ensures.value)) in
    text_ok _ _ _ _ _ _ (asked_text c.args.self.now c.loop-cell.pattern was.long asked) c.in_ok-write_pattern.ensures.written
