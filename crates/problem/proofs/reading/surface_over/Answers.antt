use Rattle.std.proofs.Common.{sym, ap, ◌∙◌}
use Rattle.frames.specs.Frames.{shape_of}
use Rattle.planes.specs.Meaning.{Meaning}
use Rattle.problem.specs.Reading.{look_of}
use Rattle.problem.proofs.reading.surface_over.Goals as goal

pub returns-in-Plain-clause-look : goal.returns-in-Plain-clause-look
returns-in-Plain-clause-look c = ap (λ n. look_of n (shape_of c.args.frame)) c.in-Plain.is ∙ ap (λ (m : Meaning). m.look) (sym c.plain.ensures)

pub returns-in-Torus-clause-look : goal.returns-in-Torus-clause-look
returns-in-Torus-clause-look c = ap (λ n. look_of n (shape_of c.args.frame)) c.in-Torus.is ∙ ap (λ (m : Meaning). m.look) (sym c.torus.ensures)

pub returns-in-Cylinder-clause-look : goal.returns-in-Cylinder-clause-look
returns-in-Cylinder-clause-look c = ap (λ n. look_of n (shape_of c.args.frame)) c.in-Cylinder.is ∙ ap (λ (m : Meaning). m.look) (sym c.cylinder.ensures)
