-- A look's place lies in the box, so that its cell has a number, and that is the cell which is seen.
use Rattle.std.proofs.Common.{◌≡◌, Some, sym, ap, ◌∙◌, subst, rules}
use Rattle.frames.proofs.Cells.{numbered}
use Rattle.frames.specs.Frames.{cell_number}
use Rattle.planes.specs.Meaning.{InBox}
use Rattle.rolls.specs.Rolls.{seen, surface, at}
use Rattle.keeping.proofs.filled.Filled.seen.Goals as goal

pub returns : goal.returns
returns g c =
    let space = c.args.self.now.space.now in
    let f = (g.S.Plane.means space).frame in
    let p = c.in-Some.field-0 in
    let here : (g.S.Plane.means space).look c.args.x c.args.y ≡ Some p = search rules in
    let box : InBox f (Some p) = subst (InBox f) here (g.met.S.Plane.inside space c.args.x c.args.y) in
    let same : c.frame.result ≡ f = c.frame.ensures in
    let told = numbered f (record { x = p.x; y = p.y; t = c.args.t }) box.0 box.1 c.requires in
    let value_of : c.number_of.result ≡ Some (cell_number f p.x p.y c.args.t) = search (rules, told) in
    let number : c.in-Some-number_of.number ≡ cell_number f p.x p.y c.args.t = cc in
    let cells = c.args.self.now.cells.now in
    let got : c.unwrap_or.result ≡ at cells c.in-Some-number_of.number = search rules in
    got ∙ ap (at cells) number ∙ sym (ap (seen (surface (g.S.Plane.means space) (g.S.Space.count space) (g.S.Space.tied space)) cells c.args.t) here)
