-- The grammar of RLE texts, as a relation between a text and its parts.
use Rattle.std.specs.Prelude.{◌≡◌, ℕ, ◌≤◌, Bool, true, false, not, ◌⊎◌, List, [], ◌∷◌, ◌++◌, Some, None, decimal, Option, ◌==◌}
use Rattle.std.specs.List.{flat_map}
use Rattle.lines.specs.Lines.{blank, trimmed}
use Rattle.rle.specs.declared.mark.Run.{Run}
use Rattle.rle.specs.declared.phase.Step.{Step}
use Rattle.rle.specs.Runs.{letter_of}
use Rattle.rle.specs.Scans.{past, space, digit, byte_of, is_loose}
use Rattle.rle.specs.Items.{before_width, before_height, before_rule}

-- every byte passes a test
abbrev pub Each : (ℕ → Bool) → List ℕ → Type 0
Each test [] = Unit {0}
Each test (b ∷ bs) = (test b ≡ true) × Each test bs

-- no newline
abbrev pub on_line : ℕ → Bool
on_line b = not (b == 10)

-- any number of blanks, or nothing
abbrev pub Gap : Bool → List ℕ → Type 0
Gap true bs = Each blank bs
Gap false bs = bs ≡ []

-- the bytes of some steps in turn, with any number of blanks after each loose one
abbrev pub Spells : List Step → List ℕ → Type 0
Spells [] t = t ≡ []
Spells (s ∷ ss) t = (bs : List ℕ) × (u : List ℕ) × Gap (is_loose s) bs × Spells ss u × (t ≡ byte_of s ∷ (bs ++ u))

-- a number of one to four digits without a leading zero
abbrev pub Numeral : ℕ → List ℕ → Type 0
Numeral n u = (1 ≤ n) × (n ≤ 9999) × (u ≡ decimal n)

-- what begins with no digit
abbrev pub NoDigit : List ℕ → Type 0
NoDigit [] = Unit {0}
NoDigit (b ∷ t) = digit b ≡ false

-- what stands in a heading's line after the height: blanks, or `, rule =`, a rule that does not end with a blank, and blanks; those
-- right after the = are its own
abbrev pub RuleForm : Option (List ℕ) → List ℕ → Type 0
RuleForm None tail = Each blank tail
RuleForm (Some r) tail = (key : List ℕ) × (bs : List ℕ) × Spells before_rule key × Each blank bs × Each on_line r × (past blank (r ++ bs) ≡ r ++ bs) × (trimmed r ≡ r) × (tail ≡ key ++ (r ++ bs))

-- what a heading's line has from where its rule starts: the rule and blanks; where no rule is named, nothing, since it would start at the line's end
abbrev pub RuleStarts : Option (List ℕ) → List ℕ → Type 0
RuleStarts None own = own ≡ []
RuleStarts (Some r) own = (bs : List ℕ) × Each blank bs × (own ≡ r ++ bs)

-- a heading's line: x = w, y = h and perhaps a rule
pub record HeadForm (w h : ℕ) (rule : Option (List ℕ)) (line : List ℕ) : Type 0 where
  pub first : List ℕ
  pub width : List ℕ
  pub second : List ℕ
  pub height : List ℕ
  pub tail : List ℕ
  pub first_spelled : Spells before_width first
  pub is_width : Numeral w width
  pub second_spelled : Spells before_height second
  pub is_height : Numeral h height
  pub ruled : RuleForm rule tail
  pub whole : line ≡ first ++ (width ++ (second ++ (height ++ tail)))

-- a count that is left out is 1
abbrev pub CountForm : ℕ → List ℕ → Type 0
CountForm n u = ((n ≡ 1) × (u ≡ [])) ⊎ Numeral n u

-- runs, with blanks and newlines between them and not inside, and the end; what follows that does not matter
abbrev pub BodyForm : List Run → List ℕ → Type 0
BodyForm [] t = (s : List ℕ) × (v : List ℕ) × Each space s × (t ≡ s ++ (33 ∷ v))
BodyForm (r ∷ rs) t =
    (s : List ℕ) × (u : List ℕ) × (v : List ℕ) × Each space s × CountForm r.count u × BodyForm rs v × (t ≡ s ++ (u ++ (letter_of r.mark ∷ v)))

-- runs alone, with blanks and newlines before each and after the last
abbrev pub RunsForm : List Run → List ℕ → Type 0
RunsForm [] t = Each space t
RunsForm (r ∷ rs) t =
    (s : List ℕ) × (u : List ℕ) × (v : List ℕ) × Each space s × CountForm r.count u × RunsForm rs v × (t ≡ s ++ (u ++ (letter_of r.mark ∷ v)))

-- a line that starts with #
abbrev pub RemarkForm : List ℕ → Type 0
RemarkForm [] = ⊥
RemarkForm (b ∷ bs) = (b ≡ 35) × Each on_line bs

abbrev pub RemarkForms : List (List ℕ) → Type 0
RemarkForms [] = Unit {0}
RemarkForms (r ∷ rs) = RemarkForm r × RemarkForms rs

-- a line with its newline
abbrev pub ended : List ℕ → List ℕ
ended line = line ++ (10 ∷ [])

-- a text: remarks, the heading and the body, whatever its length and however large its box
pub record TextForm (remarks : List (List ℕ)) (w h : ℕ) (rule : Option (List ℕ)) (runs : List Run) (text : List ℕ) : Type 0 where
  pub line : List ℕ
  pub body : List ℕ
  pub remarked : RemarkForms remarks
  pub headed : HeadForm w h rule line
  pub bodied : BodyForm runs body
  pub whole : text ≡ flat_map ended remarks ++ (line ++ (10 ∷ body))

-- a text that has the form of some remarks, sizes, rule and runs
abbrev pub BareForm : List ℕ → Type 0
BareForm text = (remarks : List (List ℕ)) × (w : ℕ) × (h : ℕ) × (rule : Option (List ℕ)) × (runs : List Run) × TextForm remarks w h rule runs text
