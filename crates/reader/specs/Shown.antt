-- What the reader's answers show, without references.
use Rattle.std.specs.Prelude.{ℕ, List, Option, Result}
use Rattle.std.specs.Option.{option_map}
use Rattle.rle.specs.Items.{Head, Part, remark, header, run, ending}
use Rattle.rle.specs.Items.{Taken as Expected}
use Rattle.rle.specs.declared.mark.Run.{Run}
use Rattle.rle.specs.declared.phase.Phase.{Phase}
use Rattle.reader.specs.declared.item.Item.{Item}
use Rattle.reader.specs.declared.item.Item.TheVariants.{Remark, Heading as HeadingItem, Run as RunItem, End}
use Rattle.reader.specs.declared.item.Taken.{Taken}
use Rattle.rle.specs.Scans.{Scan, good, bad}
use Rattle.rle.specs.Spots.{spot_before}
use Rattle.rle.specs.declared.fault.ReadCause.{ReadCause}
use Rattle.reader.specs.declared.item.Heading.{Heading}
use Rattle.reader.specs.declared.item.Tail.{Tail}
use Rattle.reader.specs.declared.reader.Reader.{Reader}
use Rattle.reader.specs.Left.{Scanned}

-- a heading: its line, what it tells, and the column where the rule starts or would start
pub record HeadShown : Type 0 where
  pub line : List ℕ
  pub width : ℕ
  pub height : ℕ
  pub rule : Option (List ℕ)
  pub column : ℕ

-- what a heading that is handed out shows
abbrev pub shown_heading : Heading → HeadShown
shown_heading h = record { line = h.line.now; width = h.width; height = h.height; rule = option_map (λ s. s.now) h.rule; column = h.rule_column }

-- what the heading of a text has to show
abbrev pub told_head : List ℕ → List ℕ → Head → HeadShown
told_head text line h = record { line = line; width = h.width; height = h.height; rule = h.rule; column = (spot_before text h.named).column }

-- the same reading, told in other words
abbrev pub retold : {A B : Type 0} → (A → B) → Scan A → Scan B
retold tell (good a rest) = good (tell a) rest
retold tell (bad cause rest) = bad cause rest

-- a heading that starts in a line is read as a definition says
abbrev pub Headed : (List ℕ → Scan Head) → List ℕ → Reader → Reader → Result Heading ReadCause → Type 0
Headed scan line old new r = Scanned shown_heading (λ t. retold (told_head old.text.now line) (scan t)) old new r

-- a heading that starts in a line, with what was handed out after its sizes
abbrev pub shown_tail : List ℕ → ℕ → ℕ → Tail → HeadShown
shown_tail line w h t = record { line = line; width = w; height = h; rule = option_map (λ s. s.now) t.rule; column = t.rule_column }

-- what follows the sizes of a heading is read as a definition says, whatever its line and its sizes
abbrev pub Tailed : (ℕ → ℕ → List ℕ → Scan Head) → Reader → Reader → Result Tail ReadCause → Type 0
Tailed scan old new r = (line : List ℕ) (w h : ℕ) → Scanned (shown_tail line w h) (λ t. retold (told_head old.text.now line) (scan w h t)) old new r

-- an item without references
pub data Shown : Type 0 where
  remarked : List ℕ → Shown
  headed : HeadShown → Shown
  marks : Run → Shown
  over : Shown

-- what an item that is handed out shows
abbrev pub shown_item : Item → Shown
shown_item (Remark line) = remarked line.now
shown_item (HeadingItem h) = headed (shown_heading h)
shown_item (RunItem r) = marks r
shown_item End = over

-- what an item of the text has to show
abbrev pub told_part : List ℕ → Part → Shown
told_part text (remark line) = remarked line
told_part text (header line h) = headed (told_head text line h)
told_part text (run r) = marks r
told_part text ending = over

-- an item without references, and the phase after it
pub record TakenShown : Type 0 where
  pub item : Shown
  pub phase : Phase

-- what an item that was taken shows
abbrev pub shown_taken : Taken → TakenShown
shown_taken t = record { item = shown_item t.item; phase = t.phase }

-- what an item that has to be taken shows
abbrev pub told_taken : List ℕ → Expected → TakenShown
told_taken text t = record { item = told_part text t.part; phase = t.phase }

-- an item is read as a definition says
abbrev pub Took : (List ℕ → Scan Expected) → Reader → Reader → Result Taken ReadCause → Type 0
Took scan old new r = Scanned shown_taken (λ t. retold (told_taken old.text.now) (scan t)) old new r
