-- Which texts are accepted, and why the others are not.
use Rattle.std.specs.Prelude.{◌≡◌, ℕ, Bool, cond, ◌&&◌, ◌||◌, List, Some, None, Ok, Err, Option, Result, codes, ◌==◌, nat_lt}
use Rattle.frames.specs.declared.frame.Frame.{Frame}
use Rattle.rules.specs.declared.fault.RuleFault.{RuleFault}
use Rattle.rules.specs.declared.rule.Rule.{Rule}
use Rattle.rules.specs.Forms.{Sets, parsed}
use Rattle.rle.specs.declared.fault.ReadFault.{ReadFault}
use Rattle.rolls.specs.Rolls.{Surface}
use Rattle.keeping.specs.Asked.{broken_instance, broken_tie}
use Rattle.keeping.specs.Worked.{worked_out}
use Rattle.keeping.specs.declared.places.InstanceAt.{InstanceAt}
use Rattle.keeping.specs.declared.places.TieAt.{TieAt}
use Rattle.patterns.specs.Laid.{laid}
use Rattle.patterns.specs.Told.{Told, told}
use Rattle.checking.specs.declared.fault.CheckFault.{CheckFault}
use Rattle.checking.specs.declared.fault.CheckFault.TheVariants.{Rows, Read, Rule as RuleFaulty, OtherRule, Size, Instance, Tie, Memory}

-- the rule's text: B3/S23 where none is named
abbrev pub rule_text : Option (List ℕ) → List ℕ
rule_text None = codes "B3/S23"
rule_text (Some text) = text

-- whether two sets of bits are those of a rule
abbrev pub are_of : Rule → Sets → Bool
are_of r named = named.births == r.births && named.survivals == r.survivals

-- the rule that is named is none, is another, or is this one
abbrev pub ruled_by : Rule → Told → Result Sets RuleFault → Result (Unit {0}) CheckFault
ruled_by r t (Err cause) = Err (RuleFaulty (record { line = t.line; column = t.column; cause = cause }))
ruled_by r t (Ok named) = cond (are_of r named) (Ok tt) (Err OtherRule)

abbrev pub ruled : Rule → Told → Result (Unit {0}) CheckFault
ruled r t = ruled_by r t (parsed (rule_text t.rule))

-- the pattern has no more columns and rows than the box
abbrev pub sized : Frame → Told → Result (Unit {0}) CheckFault
sized f t = cond (nat_lt f.width t.width || nat_lt f.height t.height) (Err Size) (Ok tt)

-- a first generation, unless a tie or an instance does not hold; instances come first
abbrev pub tied : List Bool → Option TieAt → Result (List Bool) CheckFault
tied first None = Ok first
tied first (Some at) = Err (Tie at)

abbrev pub held : List Bool → Option TieAt → Option InstanceAt → Result (List Bool) CheckFault
held first tie None = tied first tie
held first tie (Some at) = Err (Instance at)

-- a first generation is asked, with the generations that follow it
abbrev pub kept : Surface → Rule → List Bool → Result (List Bool) CheckFault
kept s r first = held first (broken_tie s (worked_out s r first)) (broken_instance s r (worked_out s r first))

-- one question after another: the first refusal is the answer
abbrev pub after : {A : Type 0} → Result (Unit {0}) CheckFault → Result A CheckFault → Result A CheckFault
after (Ok u) next = next
after (Err fault) next = Err fault

-- a text that is read is asked for its rule, its size and its generations
abbrev pub judged : Surface → Rule → Result Told ReadFault → Result (List Bool) CheckFault
judged s r (Err fault) = Err (Read fault)
judged s r (Ok t) = after (ruled r t) (after (sized s.frame t) (kept s r (laid s.frame t.runs)))

-- the first generation that is accepted, or why there is none
abbrev pub checked : Surface → Rule → List ℕ → Result (List Bool) CheckFault
checked s r text = cond (nat_lt 8 s.rows) (Err Rows) (judged s r (told text))

-- an answer that is about the cells of a text: nothing was refused before these were asked
abbrev pub AsksCells : {A : Type 0} → Result A CheckFault → Type 0
AsksCells (Ok first) = Unit {0}
AsksCells (Err Rows) = ⊥
AsksCells (Err (Read fault)) = ⊥
AsksCells (Err (RuleFaulty fault)) = ⊥
AsksCells (Err OtherRule) = ⊥
AsksCells (Err Size) = ⊥
AsksCells (Err (Instance at)) = Unit {0}
AsksCells (Err (Tie at)) = Unit {0}
AsksCells (Err (Memory e)) = ⊥

-- a refusal is the one that is defined; memory may be wanting only where the answer that is defined is about the cells
abbrev pub Refuses : {A : Type 0} → Result A CheckFault → CheckFault → Type 0
Refuses want Rows = want ≡ Err Rows
Refuses want (Read fault) = want ≡ Err (Read fault)
Refuses want (RuleFaulty fault) = want ≡ Err (RuleFaulty fault)
Refuses want OtherRule = want ≡ Err OtherRule
Refuses want Size = want ≡ Err Size
Refuses want (Instance at) = want ≡ Err (Instance at)
Refuses want (Tie at) = want ≡ Err (Tie at)
Refuses want (Memory e) = AsksCells want
