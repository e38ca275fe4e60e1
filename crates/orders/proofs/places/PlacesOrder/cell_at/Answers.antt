use Rattle.std.proofs.Common.{rules, ◌/◌, ◌%◌, ◌*◌, ◌<◌, arith}
use Rattle.orders.specs.Turns.{by_row, by_column}
use Rattle.frames.proofs.Cells.{numbered}
use Rattle.orders.proofs.places.PlacesOrder.cell_at.Goals.{then-this-ne0, else-this-ne0}
use Rattle.orders.proofs.places.PlacesOrder.cell_at.Goals as goal

pub returns : goal.returns
returns g c =
    let f = c.args.frame.now in
    let rank = c.args.rank in
    let less : rank < f.width * f.height * f.period = omega arith in
    elim c.if-this-ne0.branch [
      | then-this-ne0 w ↦
          let by = by_column f.width f.height f.period f.wide f.tall f.lasting in
          let n = numbered f (record { x = rank / f.period / f.height; y = rank / f.period % f.height; t = rank % f.period }) (by.column_below rank less) (by.row_below rank less) (by.generation_below rank less) in
          search rules
      | else-this-ne0 w ↦
          let by = by_row f.width f.height f.period f.wide f.tall f.lasting in
          let n = numbered f (record { x = rank / f.period % f.width; y = rank / f.period / f.width; t = rank % f.period }) (by.column_below rank less) (by.row_below rank less) (by.generation_below rank less) in
          search rules
    ]
