-- What a search and the checker come to, side by side: any list of calls, and any list of texts.
use Rattle.std.specs.Prelude.{◌≡◌, ℕ, ◌<◌, ◌≤◌, Bool, ◌↔◌, ◌⊎◌, List, [], ◌∷◌, map, Ok, Err, Result}
use Rattle.std.specs.Global.{Vec}
use Rattle.rules.specs.declared.rule.Rule.{Rule}
use Rattle.rolls.specs.Rolls.{Surface, Roll}
use Rattle.systems.specs.Systems.{In}
use Rattle.histories.specs.Listed.{Listed}
use Rattle.checking.specs.Laws.{FirstOf}
use Rattle.checking.specs.declared.fault.CheckFault.{CheckFault}
use Rattle.checking.specs.declared.fault.CheckFault.TheVariants.{Rows}
use Rattle.checking.specs.Verdicts.{VerdictOn, shown}
use Rattle.search.specs.declared.answer.Answer.TheVariants.{Done}
use Rattle.search.specs.declared.fault.OpenFault.TheVariants.{Memory, TieRows}
use Rattle.calls.specs.Asked.{Asked, to_open}
use Rattle.calls.specs.Ledgers.{Answered, Book, Ledger, Made, Run, blank, opened, tally_of}
use Rattle.calls.specs.declared.call.Reply.TheVariants.{Opened, Went}
use Rattle.calls.specs.declared.fault.CallFault.TheVariants.{Open}
use Rattle.accounting.specs.declared.report.Report.{Report}

-- each text, in sequence, has a verdict that is due
abbrev pub EachJudged : Surface → Rule → List (List ℕ) → List (Result (Vec Bool) CheckFault) → Type 0
EachJudged s rule [] [] = Unit {0}
EachJudged s rule (text ∷ texts) (verdict ∷ verdicts) = VerdictOn s rule text (shown verdict) × EachJudged s rule texts verdicts
EachJudged s rule texts verdicts = ⊥

-- calls made on one page: the first finds it as it was, each further one as the call before left it, and so it is at last
abbrev pub OnePage : List ℕ → List Made → List ℕ → Type 0
OnePage from [] to = to ≡ from
OnePage from (m ∷ made) to = (m.before ≡ from) × OnePage m.after made to

-- a go answered done
abbrev pub Ended : List Answered → Type 0
Ended answers = (steps : ℕ) × In (Ok (Went (Done steps))) answers

-- the checker accepts no text at all
abbrev pub AcceptsNone : Surface → Rule → Type 0
AcceptsNone s rule = (text : List ℕ) (first : List Bool) → VerdictOn s rule text (Ok first) → ⊥

-- what the finds told have to do with the roll, and with the texts that the checker accepts
pub record Agreed (s : Surface) (rule : Rule) (at : ℕ → ℕ) (answers : List Answered) (b : Book) : Type 0 where
  -- they are in sequence the first of the roll in dictionary order, each once, and all steps are at most 2^(k+1) - 2 with k the number of free classes
  pub listed : Listed s rule at b.steps b.told
  -- done was answered only after every member was told
  pub whole : Ended answers → (f : List Bool) → Roll s rule f → In f b.told
  -- once done was answered, the tally is 0 exactly when the checker accepts no text
  pub none : Ended answers → (tally_of b.told ≡ 0) ↔ AcceptsNone s rule

-- over at most 8 rows of ties the search was opened, and what has come of it agrees with the roll and the checker
pub record Both (s : Surface) (rule : Rule) (at : ℕ → ℕ) (a : Report) (l : Ledger) : Type 0 where
  pub granted : a.opened ≡ Ok Opened
  pub book : Book
  pub ledger : l ≡ opened s rule at book
  pub agreed : Agreed s rule at a.answers.items book

-- or memory was wanting for it: the calls are those of a search that is blank still
pub record Unopened (a : Report) (made : List Made) (l : Ledger) : Type 0 where
  pub wanting : a.opened ≡ Err (Open Memory)
  pub blank_on : Run blank made l

-- over more than 8 rows both refuse, and the calls are those of a search that is blank still
pub record Neither (s : Surface) (rule : Rule) (a : Report) (made : List Made) (l : Ledger) : Type 0 where
  pub opening : a.opened ≡ Err (Open TieRows)
  pub blank_on : Run blank made l
  pub checks : (text : List ℕ) (verdict : Result (List Bool) CheckFault) → VerdictOn s rule text verdict → verdict ≡ Err Rows

-- an account of a search that was opened on a surface, a rule and the cells by rank, of calls and of texts
pub record Accounted (s : Surface) (rule : Rule) (at : ℕ → ℕ) (calls : List Asked) (texts : List (List ℕ)) (a : Report) (from to : List ℕ) : Type 0 where
  -- each text has its verdict
  pub verdicts : EachJudged s rule texts a.verdicts.items
  -- the opening and the calls were made as they were asked and answered, on one page; each has the answer that it has to have, and leaves the page as it has to be
  pub opening : Made
  pub made : List Made
  pub asked : map (λ (m : Made). m.call) (opening ∷ made) ≡ to_open s rule at ∷ calls
  pub answered : map (λ (m : Made). m.answer) (opening ∷ made) ≡ a.opened ∷ a.answers.items
  pub on_page : OnePage from (opening ∷ made) to
  pub ledger : Ledger
  pub run : Run blank (opening ∷ made) ledger
  pub few : s.rows ≤ 8 → Both s rule at a ledger ⊎ Unopened a made ledger
  pub many : 8 < s.rows → Neither s rule a made ledger
  -- over at most 8 rows the first generations of the roll are exactly the patterns that the checker accepts
  pub exactly : s.rows ≤ 8 → (first : List Bool) → FirstOf s rule first ↔ ((text : List ℕ) × VerdictOn s rule text (Ok first))
