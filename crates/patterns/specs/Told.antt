-- What a text tells when it is read whole.
use Rattle.std.specs.Prelude.{◌≡◌, ℕ, zero, suc, ◌+◌, List, [], ◌∷◌, ◌++◌, length, None, Ok, Err, Option, Result}
use Rattle.std.specs.Option.{option_map}
use Rattle.rle.specs.declared.fault.ReadFault.{ReadFault}
use Rattle.rle.specs.declared.mark.Run.{Run}
use Rattle.rle.specs.Items.{item_start, read_item}
use Rattle.reader.specs.Calls.{LocatedShown, Stand, answer_of, stand_after, readable, first_phase}
use Rattle.reader.specs.Shown.{Shown, remarked, headed, marks, over}
use Rattle.patterns.specs.declared.pattern.Pattern.{Pattern}

-- how many columns and rows a pattern has, the rule's text if one is named, where that starts or would start, and the runs
pub record Told : Type 0 where
  pub width : ℕ
  pub height : ℕ
  pub rule : Option (List ℕ)
  pub line : ℕ
  pub column : ℕ
  pub runs : List Run

-- nothing is told yet
abbrev pub blank : Told
blank = record { width = 0; height = 0; rule = None; line = 1; column = 1; runs = [] }

-- what is told with one item more: a heading tells the sizes and the rule, a run is one more run
abbrev pub with_item : Told → ℕ → Shown → Told
with_item t line (remarked bytes) = t
with_item t line (headed h) = record { width = h.width; height = h.height; rule = h.rule; line = line; column = h.column; runs = t.runs }
with_item t line (marks r) = record { width = t.width; height = t.height; rule = t.rule; line = t.line; column = t.column; runs = t.runs ++ r ∷ [] }
with_item t line over = t

abbrev pub told_with : Told → LocatedShown → Told
told_with t l = with_item t l.spot.line l.item

-- the end tells no more; after any other item reading goes on
abbrev pub unless_over : Told → (Told → Result Told ReadFault) → LocatedShown → Shown → Result Told ReadFault
unless_over t next l (remarked bytes) = next (told_with t l)
unless_over t next l (headed h) = next (told_with t l)
unless_over t next l (marks r) = next (told_with t l)
unless_over t next l over = Ok t

-- a fault is the answer
abbrev pub unless_fault : Told → (Told → Result Told ReadFault) → Result LocatedShown ReadFault → Result Told ReadFault
unless_fault t next (Ok l) = unless_over t next l l.item
unless_fault t next (Err fault) = Err fault

-- what a text tells from a stand on, in so many items at most, after what was told before
unfoldable pub told_on : ℕ → List ℕ → Stand → Told → Result Told ReadFault
told_on zero text s t = Ok t
told_on (suc n) text s t = unless_fault t (told_on n text (stand_after (read_item s.phase s.rest))) (answer_of text (item_start s.phase s.rest) (read_item s.phase s.rest))

-- what a text tells, or the first fault: each item but the end takes a byte of it
abbrev pub told : List ℕ → Result Told ReadFault
told text = told_on (length text + 1) (readable text) (record { rest = readable text; phase = first_phase text }) blank

-- the runs of what is told; a text at fault has none
abbrev pub runs_in : Result Told ReadFault → List Run
runs_in (Ok t) = t.runs
runs_in (Err fault) = []

-- what a pattern that is handed out shows, with these runs
abbrev pub shown_with : Pattern → List Run → Told
shown_with p runs = record { width = p.width; height = p.height; rule = option_map (λ s. s.now) p.rule; line = p.line; column = p.column; runs = runs }

-- and with those of its text
abbrev pub shown : Pattern → Told
shown p = shown_with p (runs_in (told p.text.now))

-- some runs, and one more where the next item is one
abbrev pub runs_after : List Run → Shown → List Run
runs_after runs (remarked bytes) = runs
runs_after runs (headed h) = runs
runs_after runs (marks r) = runs ++ r ∷ []
runs_after runs over = runs

-- what a text tells is a pattern, or the text is at fault
abbrev pub Tells : List ℕ → Result Pattern ReadFault → Type 0
Tells text (Ok p) = told text ≡ Ok (shown p)
Tells text (Err fault) = told text ≡ Err fault
