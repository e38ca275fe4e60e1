-- What a check comes to, and its line.
use Rattle.std.specs.Prelude.{ℕ, List, [], ◌∷◌, ◌++◌, Some, None, Ok, Err, Option, Result, codes, decimal}
use Rattle.std.specs.Fmt.{signed_decimal}
use Rattle.checking.specs.declared.fault.CheckFault.{CheckFault}
use Rattle.checking.specs.declared.fault.CheckFault.TheVariants.{Rows, Read, Rule, OtherRule, Size, Instance, Tie, Memory}
use Rattle.checking.specs.Faults.{number_of}
use Rattle.verdicts.specs.declared.verdict.Place.{Place}
use Rattle.verdicts.specs.declared.verdict.Place.TheVariants.{Whole, Text, Instance as InstancePlace, Tie as TiePlace}
use Rattle.verdicts.specs.declared.verdict.Refusal.{Refusal}
use Rattle.verdicts.specs.declared.verdict.Verdict.{Verdict}
use Rattle.verdicts.specs.declared.verdict.Verdict.TheVariants.{Accepted, Refused}

-- where a fault stands: a line and a column, an instance, a tie, or nowhere
abbrev pub place_of : CheckFault → Place
place_of Rows = Whole
place_of (Read fault) = Text fault.line fault.column
place_of (Rule fault) = Text fault.line fault.column
place_of OtherRule = Whole
place_of Size = Whole
place_of (Instance at) = InstancePlace at
place_of (Tie at) = TiePlace at
place_of (Memory e) = Whole

-- a fault that has a number is a refusal
abbrev pub with_number : Place → Option ℕ → Option Refusal
with_number place None = None
with_number place (Some n) = Some (record { number = n; place = place })

abbrev pub refusal_of : CheckFault → Option Refusal
refusal_of fault = with_number (place_of fault) (number_of fault)

-- a refusal is a verdict
abbrev pub refused_by : Option Refusal → Option Verdict
refused_by None = None
refused_by (Some r) = Some (Refused r)

-- what an answer of a check comes to
abbrev pub verdict_of : {A : Type 0} → Result A CheckFault → Option Verdict
verdict_of (Ok first) = Some Accepted
verdict_of (Err fault) = refused_by (refusal_of fault)

-- the numbers of a place, each after a blank
abbrev pub place_text : Place → List ℕ
place_text Whole = []
place_text (Text line column) = codes " " ++ decimal line ++ codes " " ++ decimal column
place_text (InstancePlace at) = codes " " ++ decimal at.t ++ codes " " ++ signed_decimal at.y ++ codes " " ++ signed_decimal at.x
place_text (TiePlace at) = codes " " ++ decimal at.row ++ codes " " ++ decimal at.cell

-- `accepted`, or `refused`, the number and the place
abbrev pub verdict_text : Verdict → List ℕ
verdict_text Accepted = codes "accepted"
verdict_text (Refused r) = codes "refused " ++ decimal r.number ++ place_text r.place

-- what follows the name of the file: a colon, a blank, the verdict and a newline
abbrev pub words : Verdict → List ℕ
words v = codes ": " ++ verdict_text v ++ (10 ∷ [])

-- the line of a file's verdict
abbrev pub verdict_line : List ℕ → Verdict → List ℕ
verdict_line file v = file ++ words v
