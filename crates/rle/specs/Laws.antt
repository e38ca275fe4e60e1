-- The laws of reading: which texts are read, what they give, and of the others why they are not and from which byte on.
use Rattle.std.specs.Prelude.{◌≡◌, ℕ, ◌+◌, ◌<◌, ◌≤◌, ◌⊎◌, List, [], ◌∷◌, ◌++◌, length, Option}
use Rattle.std.specs.List.{flat_map}
use Rattle.rle.specs.declared.fault.ReadCause.{ReadCause}
use Rattle.rle.specs.declared.fault.ReadCause.TheVariants.{TooLong, Byte, Size, Outside, Ended}
use Rattle.rle.specs.declared.mark.Run.{Run}
use Rattle.rle.specs.declared.phase.Phase.TheVariants.{Opening}
use Rattle.rle.specs.Forms.{Each, on_line, Spells, Numeral, NoDigit, HeadForm, CountForm, RunsForm, RemarkForms, TextForm, BareForm, ended}
use Rattle.rle.specs.Items.{before_width, before_height, Head, Part, Finishes, Stops, items_of}
use Rattle.rle.specs.Runs.{letter_of, Inside}
use Rattle.rle.specs.Spots.{Spot, spot_before}

-- a text of the grammar, whose sizes are at most 32 and whose runs lie in its box
pub record Readable (remarks : List (List ℕ)) (w h : ℕ) (rule : Option (List ℕ)) (runs : List Run) (text : List ℕ) : Type 0 where
  pub form : TextForm remarks w h rule runs text
  pub narrow : w ≤ 32
  pub low : h ≤ 32
  pub inside : Inside w h 0 0 runs

-- what a reader hands out of a text are these parts of it
pub record Given (remarks : List (List ℕ)) (w h : ℕ) (rule : Option (List ℕ)) (runs : List Run) (items : List Part) : Type 0 where
  pub line : List ℕ
  pub head : Head
  pub width : head.width ≡ w
  pub height : head.height ≡ h
  pub named : head.rule ≡ rule
  pub items_are : items ≡ items_of remarks line head runs

-- every such text is read to its end, and gives its parts
abbrev pub ReadsEvery : Type 0
ReadsEvery =
    (remarks : List (List ℕ)) (w h : ℕ) (rule : Option (List ℕ)) (runs : List Run) (text : List ℕ) → Readable remarks w h rule runs text →
    (items : List Part) × Finishes Opening text items × Given remarks w h rule runs items

-- and no other is
abbrev pub ReadsOnly : Type 0
ReadsOnly =
    (text : List ℕ) (items : List Part) → Finishes Opening text items →
    (remarks : List (List ℕ)) × (w : ℕ) × (h : ℕ) × (rule : Option (List ℕ)) × (runs : List Run) × Readable remarks w h rule runs text × Given remarks w h rule runs items

-- a byte out of place is the first that no text of the grammar has there: what stands before it begins some such text, and
-- with it none
pub record FirstFault (text at : List ℕ) : Type 0 where
  pub before : List ℕ
  pub byte : ℕ
  pub after : List ℕ
  pub stands : at ≡ byte ∷ after
  pub whole : text ≡ before ++ at
  pub begins : (rest : List ℕ) × BareForm (before ++ rest)
  pub none : (rest : List ℕ) → BareForm (before ++ (byte ∷ rest)) → ⊥

-- a text that ends too soon: it begins a text of the grammar and is none, and the fault stands after its last byte
pub record EndsEarly (text at : List ℕ) : Type 0 where
  pub last : at ≡ []
  pub begins : (rest : List ℕ) × BareForm (text ++ rest)
  pub none : BareForm text → ⊥

-- what stands before a size in its line: `x =` before the width, and `x = w, y =` before the height, where w is at most 32
abbrev pub BeforeSize : List ℕ → Type 0
BeforeSize u =
    Spells before_width u
    ⊎ ((first : List ℕ) × (w : ℕ) × (width : List ℕ) × (second : List ℕ) × Spells before_width first × Numeral w width × (w ≤ 32) × Spells before_height second × (u ≡ first ++ (width ++ second)))

-- the first size over 32, from its first digit on: after remarks and what stands before a size come the digits of the number, and no digit more
pub record LargeSize (text at : List ℕ) : Type 0 where
  pub remarks : List (List ℕ)
  pub before : List ℕ
  pub number : ℕ
  pub digits : List ℕ
  pub after : List ℕ
  pub remarked : RemarkForms remarks
  pub leads : BeforeSize before
  pub numeral : Numeral number digits
  pub over : NoDigit after
  pub large : 32 < number
  pub stands : at ≡ digits ++ after
  pub whole : text ≡ flat_map ended remarks ++ (before ++ at)

-- the first run that does not lie in the box, from its count on, or its mark where the count is left out: after remarks, a heading
-- and runs that lie in the box come its count and its mark, and with it they do not lie in it any more
pub record RunOutside (text at : List ℕ) : Type 0 where
  pub remarks : List (List ℕ)
  pub w : ℕ
  pub h : ℕ
  pub rule : Option (List ℕ)
  pub line : List ℕ
  pub runs : List Run
  pub before : List ℕ
  pub run : Run
  pub count : List ℕ
  pub after : List ℕ
  pub remarked : RemarkForms remarks
  pub headed : HeadForm w h rule line
  pub narrow : w ≤ 32
  pub low : h ≤ 32
  pub spelled : RunsForm runs before
  pub inside : Inside w h 0 0 runs
  pub counted : CountForm run.count count
  pub outside : Inside w h 0 0 (runs ++ (run ∷ [])) → ⊥
  pub stands : at ≡ count ++ (letter_of run.mark ∷ after)
  pub whole : text ≡ flat_map ended remarks ++ (line ++ (10 ∷ (before ++ at)))

-- why a text is at fault, and the bytes from the fault on
abbrev pub AtFault : List ℕ → ReadCause → List ℕ → Type 0
AtFault text TooLong at = (65536 < length text) × (at ≡ text)
AtFault text Byte at = FirstFault text at
AtFault text Size at = LargeSize text at
AtFault text Outside at = RunOutside text at
AtFault text Ended at = EndsEarly text at

-- where reading stops the text is at fault, for that cause and from there on
abbrev pub StopsAtFault : Type 0
StopsAtFault = (text : List ℕ) (cause : ReadCause) (at : List ℕ) → Stops Opening text cause at → AtFault text cause at

-- where a size is over 32 reading stops at the first such, whatever comes after it
abbrev pub StopsAtLarge : Type 0
StopsAtLarge = (text at : List ℕ) → LargeSize text at → Stops Opening text Size at

-- where a run leaves the box reading stops at the first such, whatever comes after it
abbrev pub StopsOutside : Type 0
StopsOutside = (text at : List ℕ) → RunOutside text at → Stops Opening text Outside at

-- reading stops for one cause and in one place
abbrev pub StopsOnce : Type 0
StopsOnce =
    (text : List ℕ) (cause₁ cause₂ : ReadCause) (at₁ at₂ : List ℕ) → Stops Opening text cause₁ at₁ → Stops Opening text cause₂ at₂ → (cause₁ ≡ cause₂) × (at₁ ≡ at₂)

-- a text is read to its end or it is at fault
abbrev pub EndsOrStops : Type 0
EndsOrStops = (text : List ℕ) → ((items : List Part) × Finishes Opening text items) ⊎ ((cause : ReadCause) × (at : List ℕ) × Stops Opening text cause at)

-- each line of some has no newline in it
abbrev pub OnLines : List (List ℕ) → Type 0
OnLines [] = Unit {0}
OnLines (line ∷ lines) = Each on_line line × OnLines lines

-- the last bytes of a text start at a line and a column: so many whole lines stand before them, and so many bytes in their own line, and
-- both count from 1
pub record Placed (text at : List ℕ) (spot : Spot) : Type 0 where
  pub lines : List (List ℕ)
  pub part : List ℕ
  pub lined : OnLines lines
  pub parted : Each on_line part
  pub whole : text ≡ flat_map ended lines ++ (part ++ at)
  pub line : spot.line ≡ length lines + 1
  pub column : spot.column ≡ length part + 1

-- the line and column that are told of the last bytes of a text are those where they start
abbrev pub PlacesCount : Type 0
PlacesCount = (before at : List ℕ) → Placed (before ++ at) at (spot_before (before ++ at) at)

-- what reading comes to, for every text
pub record ReadingLaws : Type 0 where
  pub every : ReadsEvery
  pub only : ReadsOnly
  pub always : EndsOrStops
  pub faults : StopsAtFault
  pub large : StopsAtLarge
  pub outside : StopsOutside
  pub once : StopsOnce
  pub placed : PlacesCount
