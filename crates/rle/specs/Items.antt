-- The items of a text, one by one: remarks, the heading, runs and the end.
use Rattle.std.specs.Prelude.{◌≡◌, ℕ, cond, List, [], ◌∷◌, drop, Some, None, Option, ◌==◌, ◌≢◌}
use Rattle.lines.specs.Lines.{blank, line_length, first_line, trimmed}
use Rattle.rle.specs.declared.fault.ReadCause.{ReadCause}
use Rattle.rle.specs.declared.fault.ReadCause.TheVariants.{Byte, Outside, Ended}
use Rattle.rle.specs.declared.mark.Mark.{Mark}
use Rattle.rle.specs.declared.mark.Mark.TheVariants.{Off, On, NextRow}
use Rattle.rle.specs.declared.mark.Run.{Run}
use Rattle.rle.specs.declared.phase.Cursor.{Cursor}
use Rattle.rle.specs.declared.phase.Phase.{Phase}
use Rattle.rle.specs.declared.phase.Phase.TheVariants.{Opening, Body, Failed}
use Rattle.rle.specs.declared.phase.Step.{Step}
use Rattle.rle.specs.declared.phase.Step.TheVariants.{Tight, Loose}
use Rattle.rle.specs.Runs.{column_after, row_after, fitting}
use Rattle.rle.specs.Scans.{Scan, good, bad, and_then, this_byte, past, space, in_turn, digit, numeral, size}

-- x =
abbrev pub before_width : List Step
before_width = Loose 120 ∷ Loose 61 ∷ []

-- , y =
abbrev pub before_height : List Step
before_height = Loose 44 ∷ Loose 121 ∷ Loose 61 ∷ []

-- , rule =
abbrev pub before_rule : List Step
before_rule = Loose 44 ∷ Tight 114 ∷ Tight 117 ∷ Tight 108 ∷ Loose 101 ∷ Loose 61 ∷ []

-- what a heading tells: width, height, the rule's text if any, and the bytes from where that starts or would start
pub record Head : Type 0 where
  pub width : ℕ
  pub height : ℕ
  pub rule : Option (List ℕ)
  pub named : List ℕ

-- the newline that ends the first line; where none does the text ends too soon
abbrev pub line_over : List ℕ → Scan (Unit {0})
line_over t = this_byte 10 (drop (line_length t) t)

-- the line's rest is the rule, without the blanks at its end
abbrev pub ruled : ℕ → ℕ → List ℕ → Scan Head
ruled w h t = and_then (line_over t) (λ _ rest. good (record { width = w; height = h; rule = Some (trimmed (first_line t)); named = t }) rest)

-- no rule is named, and the line ends here
abbrev pub unruled : ℕ → ℕ → List ℕ → Scan Head
unruled w h t = and_then (this_byte 10 t) (λ _ rest. good (record { width = w; height = h; rule = None; named = t }) rest)

-- what follows the height: a comma and the rule, or blanks and the line's end
abbrev pub tailed : ℕ → ℕ → List ℕ → Scan Head
tailed w h [] = bad Ended []
tailed w h (b ∷ bs) = cond (b == 44) (and_then (in_turn before_rule (b ∷ bs)) (λ _ rest. ruled w h rest)) (unruled w h (past blank (b ∷ bs)))

-- x = w, y = h and what follows, with the line's end
unfoldable pub heading : List ℕ → Scan Head
heading t =
    and_then (in_turn before_width t) (λ _ a. and_then (size a) (λ w b.
    and_then (in_turn before_height b) (λ _ c. and_then (size c) (λ h d. tailed w h d))))

-- an item: a remark's line, the heading's line and what it tells, a run, or the end
pub data Part : Type 0 where
  remark : List ℕ → Part
  header : List ℕ → Head → Part
  run : Run → Part
  ending : Part

-- an item, and the phase after it
pub record Taken : Type 0 where
  pub part : Part
  pub phase : Phase

-- where the first run is laid
abbrev pub top_left : ℕ → ℕ → Cursor
top_left w h = record { width = w; height = h; column = 0; row = 0 }

-- a line that starts with #
abbrev pub remark_item : List ℕ → Scan Taken
remark_item t = and_then (line_over t) (λ _ rest. good (record { part = remark (first_line t); phase = Opening }) rest)

abbrev pub heading_item : List ℕ → Scan Taken
heading_item t = and_then (heading t) (λ head rest. good (record { part = header (first_line t) head; phase = Body (top_left head.width head.height) }) rest)

abbrev pub opening_item : List ℕ → Scan Taken
opening_item [] = bad Ended []
opening_item (b ∷ bs) = cond (b == 35) (remark_item (b ∷ bs)) (heading_item (b ∷ bs))

-- b off, o on, $ next row
abbrev pub mark_of : ℕ → Option Mark
mark_of b = cond (b == 98) (Some Off) (cond (b == 111) (Some On) (cond (b == 36) (Some NextRow) None))

-- where the next run is laid after n marks; nothing where they leave the box
abbrev pub laid : Cursor → ℕ → Mark → Option Cursor
laid c n m = cond (fitting c.width c.height c.column c.row m n) (Some (record { width = c.width; height = c.height; column = column_after m c.column n; row = row_after m c.row n })) None

-- a run is judged where it starts
abbrev pub laid_run : List ℕ → ℕ → Mark → List ℕ → Option Cursor → Scan Taken
laid_run start n m rest None = bad Outside start
laid_run start n m rest (Some c) = good (record { part = run (record { count = n; mark = m }); phase = Body c }) rest

-- the mark of a run with a count
abbrev pub marked_by : Cursor → List ℕ → ℕ → List ℕ → Option Mark → List ℕ → Scan Taken
marked_by c start n here None rest = bad Byte here
marked_by c start n here (Some m) rest = laid_run start n m rest (laid c n m)

abbrev pub marked : Cursor → List ℕ → ℕ → List ℕ → Scan Taken
marked c start n [] = bad Ended []
marked c start n (b ∷ bs) = marked_by c start n (b ∷ bs) (mark_of b) bs

-- a count, or 1 where no digit stands
abbrev pub counted : List ℕ → Scan ℕ
counted [] = bad Ended []
counted (b ∷ bs) = cond (digit b) (numeral (b ∷ bs)) (good 1 (b ∷ bs))

-- the end stays where it is, so that it is read again
abbrev pub body_item : Cursor → List ℕ → Scan Taken
body_item c [] = bad Ended []
body_item c (b ∷ bs) = cond (b == 33) (good (record { part = ending; phase = Body c }) (b ∷ bs)) (and_then (counted (b ∷ bs)) (marked c (b ∷ bs)))

-- the bytes from which the next item starts
abbrev pub item_start : Phase → List ℕ → List ℕ
item_start Opening t = t
item_start (Body c) t = past space t
item_start (Failed cause) t = t

-- the next item of a text from its rest; at a fault nothing moves any more
unfoldable pub read_item : Phase → List ℕ → Scan Taken
read_item Opening t = opening_item t
read_item (Body c) t = body_item c (past space t)
read_item (Failed cause) t = bad cause t

-- a reader that stands in a phase before a text hands out these items, and the last of them is the end
pub data Finishes : Phase → List ℕ → List Part → Type 0 where
  ends : {p : Phase} {t : List ℕ} (q : Phase) (rest : List ℕ) → read_item p t ≡ good (record { part = ending; phase = q }) rest → Finishes p t (ending ∷ [])
  goes : {p : Phase} {t : List ℕ} {x : Part} {xs : List Part} (q : Phase) (rest : List ℕ) → read_item p t ≡ good (record { part = x; phase = q }) rest → (x ≢ ending) → Finishes q rest xs → Finishes p t (x ∷ xs)

-- after some items it meets a fault, before these bytes
pub data Stops : Phase → List ℕ → ReadCause → List ℕ → Type 0 where
  here : {p : Phase} {t : List ℕ} {cause : ReadCause} {at : List ℕ} → read_item p t ≡ bad cause at → Stops p t cause at
  later : {p : Phase} {t : List ℕ} {cause : ReadCause} {at : List ℕ} (x : Part) (q : Phase) (rest : List ℕ) → read_item p t ≡ good (record { part = x; phase = q }) rest → Stops q rest cause at → Stops p t cause at

-- the items of a text: its remarks, its heading, its runs and the end
abbrev pub run_items : List Run → List Part
run_items [] = ending ∷ []
run_items (r ∷ rs) = run r ∷ run_items rs

abbrev pub items_of : List (List ℕ) → List ℕ → Head → List Run → List Part
items_of [] line head runs = header line head ∷ run_items runs
items_of (r ∷ rs) line head runs = remark r ∷ items_of rs line head runs
