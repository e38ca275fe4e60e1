-- What a program writes for the text that it reads.
use Rattle.std.specs.Prelude.{◌≡◌, ℕ, ◌⊎◌, List, None, Some, Ok, Err, Option, Result}
use Rattle.std.specs.Io.KnownBytes.{Appends, Keeps}
use Rattle.choices.specs.Choices.{chosen_cell}
use Rattle.listing.specs.declared.fault.ListFault.{ListFault}
use Rattle.planes.specs.declared.axis.Edge.{Edge}
use Rattle.planes.specs.declared.layer.Layer.{Layer}
use Rattle.planes.specs.declared.mirror.MirrorKind.{MirrorKind}
use Rattle.planes.specs.declared.pins.Pins.{Pins}
use Rattle.planes.specs.declared.sheet.Sheet.{Sheet}
use Rattle.printing.specs.Printed.{refused_line}
use Rattle.problem.specs.Reading.{problem_in, said}
use Rattle.problem.specs.declared.fault.ProblemFault.{ProblemFault}
use Rattle.problem.specs.declared.problem.Problem.{Problem}
use Rattle.rolls.specs.Rolls.{Surface}
use Rattle.running.specs.Pages.{PageWritten}
use Rattle.running.specs.Written.{AppendsPart}
use Rattle.running.specs.declared.fault.RunFault.{RunFault}
use Rattle.running.specs.declared.fault.RunFault.TheVariants.{Read, Write, List as Listing, Memory}

-- the space that a problem tells: a plane, under a mirror, under cells that are fixed
abbrev pub ToldSpace : Type 0
ToldSpace = Layer (Layer (Sheet Edge Edge) MirrorKind) Pins

-- a text is what a reader had, where that is known
abbrev pub IsAllOf : Option (List ℕ) → List ℕ → Type 0
IsAllOf None text = Unit {0}
IsAllOf (Some all) text = text ≡ all

-- what asking for a problem comes to: the problem that the text says, with nothing written; or its refusal
abbrev pub Asked : List ℕ → Option (List ℕ) → Result (Option Problem) RunFault → Option (List ℕ) → Type 0
Asked text old (Ok (Some p)) new = (problem_in text ≡ Ok (said p)) × Keeps old new
Asked text old (Ok None) new = (fault : ProblemFault) × (problem_in text ≡ Err fault) × Appends old new (refused_line fault)
Asked text old (Err (Read e)) new = Keeps old new
Asked text old (Err (Write e)) new = (fault : ProblemFault) × (problem_in text ≡ Err fault) × AppendsPart old new (refused_line fault)
Asked text old (Err (Listing fault)) new = ⊥
Asked text old (Err (Memory e)) new = ⊥

-- what listing the space made of a problem comes to
abbrev pub ProblemListed : (ToldSpace → Surface) → Problem → Option (List ℕ) → Result (Unit {0}) ListFault → Option (List ℕ) → Type 0
ProblemListed made p old result new = PageWritten (made p.space) p.rule (chosen_cell p.order (made p.space).frame) old result new

-- What a whole run comes to. It wrote the page of the problem that the text says, over the space that is made of it, or the line of its
-- refusal, and nothing else; where the writer failed, a first part of that; and nothing where the reader failed, where memory was wanting,
-- or where the space has more than 8 rows of ties.
abbrev pub Ran : (ToldSpace → Surface) → List ℕ → Option (List ℕ) → Result (Unit {0}) RunFault → Option (List ℕ) → Type 0
Ran made text old (Ok u) new = ((fault : ProblemFault) × (problem_in text ≡ Err fault) × Appends old new (refused_line fault))
    ⊎ ((p : Problem) × (problem_in text ≡ Ok (said p)) × ProblemListed made p old (Ok tt) new)
Ran made text old (Err (Read e)) new = Keeps old new
Ran made text old (Err (Write e)) new = (fault : ProblemFault) × (problem_in text ≡ Err fault) × AppendsPart old new (refused_line fault)
Ran made text old (Err (Listing fault)) new = (p : Problem) × (problem_in text ≡ Ok (said p)) × ProblemListed made p old (Err fault) new
Ran made text old (Err (Memory e)) new = ⊥
