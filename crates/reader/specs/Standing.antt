-- Where the items that a reader answers stand in the text.
use Rattle.std.specs.Prelude.{◌≡◌, ℕ, ◌+◌, List, [], ◌∷◌, ◌++◌, length, Ok, Err}
use Rattle.rle.specs.Forms.{Each, CountForm, HeadForm, RemarkForm, RuleStarts}
use Rattle.rle.specs.Laws.{Placed}
use Rattle.rle.specs.Runs.{letter_of}
use Rattle.rle.specs.Scans.{space}
use Rattle.reader.specs.declared.reader.Reader.{Reader}
use Rattle.reader.specs.Calls.{Opened}
use Rattle.reader.specs.Readings.{Answer, Calls}
use Rattle.reader.specs.Shown.{Shown, remarked, headed, marks, over}

-- some bytes that start in a column begin with an item: a remark's line, a heading's line with the column where its rule starts or would
-- start, a run, or the end; and what is left after it, where the end stays
abbrev pub Begins : Shown → ℕ → List ℕ → List ℕ → Type 0
Begins (remarked line) column t rest = RemarkForm line × (t ≡ line ++ (10 ∷ rest))
Begins (headed h) column t rest =
    HeadForm h.width h.height h.rule h.line × (t ≡ h.line ++ (10 ∷ rest))
    × ((front : List ℕ) × (own : List ℕ) × (h.line ≡ front ++ own) × RuleStarts h.rule own × (h.column ≡ column + length front))
Begins (marks r) column t rest = (count : List ℕ) × CountForm r.count count × (t ≡ count ++ (letter_of r.mark ∷ rest))
Begins over column t rest = (after : List ℕ) × (t ≡ 33 ∷ after) × (rest ≡ t)

-- answers about a text from some of its bytes on: blanks and newlines alone stand before each item, and it is said to stand where it does
abbrev pub Follow : List ℕ → List ℕ → List Answer → Type 0
Follow text t [] = Unit {0}
Follow text t (Err fault ∷ more) = Unit {0}
Follow text t (Ok l ∷ more) =
    (s : List ℕ) × (at : List ℕ) × (rest : List ℕ) × Each space s × (t ≡ s ++ at) × Placed text at l.spot × Begins l.item l.spot.column at rest × Follow text rest more

-- the items that are answered follow one another from the text's first byte on, until a fault
abbrev pub ItemsStand : Type 0
ItemsStand = (text : List ℕ) (first last : Reader) (answers : List Answer) → Opened text first → Calls first answers last → Follow text text answers
