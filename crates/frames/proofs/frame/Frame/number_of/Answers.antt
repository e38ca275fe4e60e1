use Rattle.std.proofs.Common.{rules}
use Rattle.frames.proofs.Cells.{number_below, column_back, row_back, generation_back}
use Rattle.frames.proofs.frame.Frame.number_of.Goals as goal

pub returns : goal.returns
returns c =
    let f = c.args.self.now in
    let cell = c.args.cell in
    record {
      value = search rules;
      bound = number_below f.width f.height f.period cell.x cell.y cell.t c.if-cell-self.false c.if-cell-self-2.false c.if-cell-self-3.false;
      back = λ i. record {
        x = column_back f.width f.height cell.x cell.y cell.t c.if-cell-self.false c.if-cell-self-2.false i;
        y = row_back f.width f.height cell.x cell.y cell.t c.if-cell-self.false c.if-cell-self-2.false i;
        t = generation_back f.width f.height cell.x cell.y cell.t c.if-cell-self.false c.if-cell-self-2.false i;
      };
    }
