use Rattle.std.proofs.Common.{sym, slice_index, ap, ◌∙◌, arith}
use Rattle.classes.specs.declared.classes.Classes.{Classes}
use Rattle.search.specs.Stacks.{is_on}
use Rattle.search.proofs.Finds.{cell_on}
use Rattle.search.proofs.record.Record.is_on.Goals as goal

pub returns-in-On : goal.returns-in-On
returns-in-On c =
    let old = c.args.self.now in
    ap is_on (sym c.in-On.is ∙ c.value.ensures)
    ∙ cell_on old c.args.cell c.in-Some.class (c.in-Some.ensures.0 ∙ ap (λ (k : Classes). slice_index k.labels.items c.args.cell) c.classes.ensures) (omega (arith, c.requires, old.classed))
