use Rattle.std.proofs.Common.{◌*◌, ◌/◌, ◌%◌, ◌<◌, Some, ap, ◌∙◌, arith, rules}
use Rattle.std.proofs.lemmas.Nat.{mod_below}
use Rattle.frames.specs.Frames.{cell_at}
use Rattle.frames.proofs.Cells.{generation_below, number_back, numbered}
use Rattle.frames.proofs.frame.Frame.cell_at.Goals as goal

pub returns : goal.returns
returns c =
    let f = c.args.self.now in
    let n = c.args.number in
    let less : n < f.width * f.height * f.period = omega arith in
    let column : n % f.width < f.width = mod_below n f.width f.wide in
    let row : n / f.width % f.height < f.height = mod_below (n / f.width) f.height f.tall in
    let generation : n / f.width / f.height < f.period = generation_below f.width f.height f.period n f.wide f.tall less in
    record {
      inside = (column, row, generation);
      back = numbered f (cell_at f n) column row generation ∙ ap Some (number_back f.width f.height n);
      value = search rules;
    }
