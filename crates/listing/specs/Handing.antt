-- What a listing hands to its sink, and how it ends: the text of every find, in sequence, and at last how many there were.
use Rattle.std.specs.Prelude.{◌≡◌, ℕ, ◌<◌, ◌≤◌, Bool, List, [], ◌∷◌, ◌++◌, map, length, drop, Some, None, Option, Ok, Err, OnOk, Result}
use Rattle.rules.specs.declared.rule.Rule.{Rule}
use Rattle.rolls.specs.Rolls.{Surface, Roll}
use Rattle.pages.specs.declared.fault.PageFault.TheVariants.{Short}
use Rattle.printing.specs.Printed.{found_line}
use Rattle.systems.specs.Systems.{In}
use Rattle.histories.specs.Listed.{Listed}
use Rattle.search.specs.declared.fault.GoFault.TheVariants.{Blank}
use Rattle.search.specs.declared.fault.OpenFault.TheVariants.{NotBlank, TieRows, Memory}
use Rattle.search.specs.declared.fault.WriteFault.TheVariants.{Page}
use Rattle.search.specs.declared.search.Search.{Search}
use Rattle.calls.specs.Histories.{Keeps}
use Rattle.calls.specs.Ledgers.{Book, Ledger, blank, opened, tally_of, text_in}
use Rattle.calls.specs.declared.fault.CallFault.TheVariants.{Open, Go, Write}
use Rattle.listing.specs.declared.fault.ListFault.{ListFault}
use Rattle.listing.specs.declared.fault.ListFault.TheVariants.{Call, Foot, Closed}

-- ---- what a sink is handed
-- texts taken one after another, with rests between them
pub data Handed {A : Type 0} (takes : A → List ℕ → A → Type 0) (rests : A → A → Type 0) (from : A) : List (List ℕ) → A → Type 0 where
  nothing : Handed takes rests from [] from
  took : {texts : List (List ℕ)} {a b : A} (text : List ℕ) → Handed takes rests from texts a → takes a text b → Handed takes rests from (texts ++ text ∷ []) b
  rested : {texts : List (List ℕ)} {a b : A} → Handed takes rests from texts a → rests a b → Handed takes rests from texts b

-- texts handed on until the sink failed: as it took the last of them, or as it rested after it
pub data Broken {A : Type 0} (takes : A → List ℕ → A → Type 0) (rests : A → A → Type 0) (fails : A → List ℕ → A → Type 0) (from : A) : List (List ℕ) → A → Type 0 where
  at_text : {texts : List (List ℕ)} {a b : A} (text : List ℕ) → Handed takes rests from texts a → fails a text b → Broken takes rests fails from (texts ++ text ∷ []) b
  at_rest : {texts : List (List ℕ)} {a b : A} → Handed takes rests from texts a → fails a [] b → Broken takes rests fails from texts b

-- texts handed on, and a rest at last
abbrev pub Settled : {A : Type 0} → (A → List ℕ → A → Type 0) → (A → A → Type 0) → A → List (List ℕ) → A → Type 0
Settled {A} takes rests from texts to = (at : A) × Handed takes rests from texts at × rests at to

-- what a sink was handed by an answer: texts, until it failed where that is answered, and only there
abbrev pub HandedBy : {A B : Type 0} → (A → List ℕ → A → Type 0) → (A → A → Type 0) → (A → List ℕ → A → Type 0) → A → Result B ListFault → A → Type 0
HandedBy takes rests fails from (Err Closed) to = (texts : List (List ℕ)) × Broken takes rests fails from texts to
HandedBy takes rests fails from result to = (texts : List (List ℕ)) × Handed takes rests from texts to

-- ---- the page
-- room for the text of any find, and for the last line
abbrev pub text_room : ℕ
text_room = 1101

-- a page with a text put at its front: what lies beyond the text stays
abbrev pub fronted : List ℕ → List ℕ → List ℕ
fronted page text = text ++ drop (length text) page

-- a page with texts put at its front one after another, each over those before it
abbrev pub overwritten : List ℕ → List (List ℕ) → List ℕ
overwritten page [] = page
overwritten page (text ∷ texts) = overwritten (fronted page text) texts

-- ---- the texts
abbrev pub texts_of : Surface → Rule → List (List Bool) → List (List ℕ)
texts_of s rule fs = map (text_in s rule) fs

-- the texts of finds that were told after others, and how many there are with those
abbrev pub page_after : Surface → Rule → List (List Bool) → List (List Bool) → List (List ℕ)
page_after s rule before fs = texts_of s rule fs ++ found_line (tally_of (before ++ fs)) ∷ []

-- all that a page prints where these are its finds
abbrev pub page_of : Surface → Rule → List (List Bool) → List (List ℕ)
page_of s rule fs = page_after s rule [] fs

-- what is shown of finds that were told after others: their texts, and the last line once they are all that keeps the ties and the rule
pub data Shown (s : Surface) (rule : Rule) (before fs : List (List Bool)) : List (List ℕ) → Type 0 where
  so_far : Shown s rule before fs (texts_of s rule fs)
  in_full : ((f : List Bool) → Roll s rule f → In f (before ++ fs)) → Shown s rule before fs (page_after s rule before fs)

-- ---- how a listing ends, where the finds are those that it was told, after others
-- they are all that keeps the ties and the rule, and they and the last line were handed on
pub record Whole {A : Type 0} (takes : A → List ℕ → A → Type 0) (rests : A → A → Type 0) (s : Surface) (rule : Rule) (before finds : List (List Bool)) (p : List ℕ) (from : A) (p' : List ℕ) (to : A) : Type 0 where
  pub all : (f : List Bool) → Roll s rule f → In f (before ++ finds)
  pub handed : Handed takes rests from (page_after s rule before finds) to
  -- the last of all is a rest, so that nothing is held back
  pub settled : Settled takes rests from (page_after s rule before finds) to
  pub page : p' ≡ overwritten p (page_after s rule before finds)

-- the sink failed
pub record Stopped {A : Type 0} (takes : A → List ℕ → A → Type 0) (rests : A → A → Type 0) (fails : A → List ℕ → A → Type 0) (s : Surface) (rule : Rule) (before finds : List (List Bool)) (p : List ℕ) (from : A) (p' : List ℕ) (to : A) : Type 0 where
  pub texts : List (List ℕ)
  pub shown : Shown s rule before finds texts
  pub broken : Broken takes rests fails from texts to
  pub page : p' ≡ overwritten p texts

-- the page has no room for the text of the last find
pub record NoRoom {A : Type 0} (takes : A → List ℕ → A → Type 0) (rests : A → A → Type 0) (s : Surface) (rule : Rule) (finds : List (List Bool)) (p : List ℕ) (from : A) (p' : List ℕ) (to : A) : Type 0 where
  pub first : List (List Bool)
  pub last : List Bool
  pub told : finds ≡ first ++ last ∷ []
  pub long : length p < length (text_in s rule last)
  pub handed : Handed takes rests from (texts_of s rule first) to
  pub page : p' ≡ overwritten p (texts_of s rule first)

-- the page has no room for the last line
pub record NoRoomForFoot {A : Type 0} (takes : A → List ℕ → A → Type 0) (rests : A → A → Type 0) (s : Surface) (rule : Rule) (before finds : List (List Bool)) (p : List ℕ) (from : A) (p' : List ℕ) (to : A) : Type 0 where
  pub all : (f : List Bool) → Roll s rule f → In f (before ++ finds)
  pub long : length p < length (found_line (tally_of (before ++ finds)))
  pub handed : Handed takes rests from (texts_of s rule finds) to
  pub page : p' ≡ overwritten p (texts_of s rule finds)

-- what each answer of a listing means
abbrev pub Ended : {A : Type 0} → (A → List ℕ → A → Type 0) → (A → A → Type 0) → (A → List ℕ → A → Type 0) → Surface → Rule → List (List Bool) → List (List Bool) → List ℕ → A → Result (Unit {0}) ListFault → List ℕ → A → Type 0
Ended takes rests fails s rule before finds p from (Ok u) p' to = Whole takes rests s rule before finds p from p' to
Ended takes rests fails s rule before finds p from (Err Closed) p' to = Stopped takes rests fails s rule before finds p from p' to
Ended takes rests fails s rule before finds p from (Err (Call fault)) p' to = (fault ≡ Write (Page Short)) × NoRoom takes rests s rule finds p from p' to
Ended takes rests fails s rule before finds p from (Err (Foot fault)) p' to = NoRoomForFoot takes rests s rule before finds p from p' to

-- ---- a search that is listed
-- one that was opened: the finds that it tells, by what book it stands then, and how the listing ended
pub record Ran {A : Type 0} (takes : A → List ℕ → A → Type 0) (rests : A → A → Type 0) (fails : A → List ℕ → A → Type 0) (s : Surface) (rule : Rule) (cell : ℕ → ℕ) (b : Book) (p : List ℕ) (from : A) (result : Result (Unit {0}) ListFault) (q : Search) (p' : List ℕ) (to : A) : Type 0 where
  pub finds : List (List Bool)
  pub book : Book
  pub keeps : Keeps s rule cell book q
  pub told : book.told ≡ b.told ++ finds
  -- after done no find may be read
  pub idle : OnOk result (book.find ≡ None)
  pub ended : Ended takes rests fails s rule b.told finds p from result p' to

-- one that stands by a ledger: a blank one does not go
abbrev pub RanBy : {A : Type 0} → (A → List ℕ → A → Type 0) → (A → A → Type 0) → (A → List ℕ → A → Type 0) → Ledger → List ℕ → A → Result (Unit {0}) ListFault → Search → List ℕ → A → Type 0
RanBy takes rests fails blank p from result q p' to = (result ≡ Err (Call (Go Blank))) × (q.record ≡ None) × (p' ≡ p) × (to ≡ from)
RanBy takes rests fails (opened s rule cell b) p from result q p' to = Ran takes rests fails s rule cell b p from result q p' to

-- ---- a space that is listed
-- its finds are the first of the roll, in dictionary order
pub record SpaceRan {A : Type 0} (takes : A → List ℕ → A → Type 0) (rests : A → A → Type 0) (fails : A → List ℕ → A → Type 0) (s : Surface) (rule : Rule) (cell : ℕ → ℕ) (p : List ℕ) (from : A) (result : Result (Unit {0}) ListFault) (p' : List ℕ) (to : A) : Type 0 where
  pub rows : s.rows ≤ 8
  pub steps : ℕ
  pub finds : List (List Bool)
  pub listed : Listed s rule cell steps finds
  pub ended : Ended takes rests fails s rule [] finds p from result p' to

-- its search is opened unless there are too many rows of ties or memory is wanting
abbrev pub SpaceEnded : {A : Type 0} → (A → List ℕ → A → Type 0) → (A → A → Type 0) → (A → List ℕ → A → Type 0) → Surface → Rule → (ℕ → ℕ) → List ℕ → A → Result (Unit {0}) ListFault → List ℕ → A → Type 0
SpaceEnded takes rests fails s rule cell p from (Err (Call (Open TieRows))) p' to = (8 < s.rows) × (p' ≡ p) × (to ≡ from)
SpaceEnded takes rests fails s rule cell p from (Err (Call (Open Memory))) p' to = (s.rows ≤ 8) × (p' ≡ p) × (to ≡ from)
SpaceEnded takes rests fails s rule cell p from (Err (Call (Open NotBlank))) p' to = ⊥
SpaceEnded takes rests fails s rule cell p from result p' to = SpaceRan takes rests fails s rule cell p from result p' to

-- over a page with room only an opening that is refused or a sink that takes no more ends it before
abbrev pub ClosedOrOpening : ListFault → Type 0
ClosedOrOpening Closed = Unit {0}
ClosedOrOpening (Call (Open fault)) = Unit {0}
ClosedOrOpening fault = ⊥

-- ---- between two goes
-- the texts of the finds that were told have been handed on, each put at the page's front
pub record Begun {A : Type 0} (takes : A → List ℕ → A → Type 0) (rests : A → A → Type 0) (s : Surface) (rule : Rule) (cell : ℕ → ℕ) (b : Book) (p : List ℕ) (from : A) (q : Search) (p' : List ℕ) (to : A) : Type 0 where
  pub finds : List (List Bool)
  pub book : Book
  pub keeps : Keeps s rule cell book q
  pub told : book.told ≡ b.told ++ finds
  pub handed : Handed takes rests from (texts_of s rule finds) to
  pub page : p' ≡ overwritten p (texts_of s rule finds)
  pub as_long : length p' ≡ length p

abbrev pub BegunBy : {A : Type 0} → (A → List ℕ → A → Type 0) → (A → A → Type 0) → Ledger → List ℕ → A → Search → List ℕ → A → Type 0
BegunBy takes rests blank p from q p' to = (q.record ≡ None) × (p' ≡ p) × (to ≡ from)
BegunBy takes rests (opened s rule cell b) p from q p' to = Begun takes rests s rule cell b p from q p' to

-- after a go: the listing goes on, or has ended
abbrev pub WentOn : {A : Type 0} → (A → List ℕ → A → Type 0) → (A → A → Type 0) → (A → List ℕ → A → Type 0) → Ledger → List ℕ → A → Result (Option ℕ) ListFault → Search → List ℕ → A → Type 0
WentOn takes rests fails l p from (Ok (Some left)) q p' to = BegunBy takes rests l p from q p' to
WentOn takes rests fails l p from (Ok None) q p' to = RanBy takes rests fails l p from (Ok tt) q p' to
WentOn takes rests fails l p from (Err fault) q p' to = RanBy takes rests fails l p from (Err fault) q p' to

-- one text is put at the page's front and handed on, unless the page has no room for it
abbrev pub TextHanded : {A : Type 0} → (A → List ℕ → A → Type 0) → (A → A → Type 0) → (A → List ℕ → A → Type 0) → ListFault → List ℕ → List ℕ → A → Result (Unit {0}) ListFault → List ℕ → A → Type 0
TextHanded takes rests fails short text p from (Ok u) p' to = (p' ≡ fronted p text) × Handed takes rests from (text ∷ []) to
TextHanded takes rests fails short text p from (Err Closed) p' to = (p' ≡ fronted p text) × Broken takes rests fails from (text ∷ []) to
TextHanded takes rests fails short text p from (Err fault) p' to = (fault ≡ short) × (length p < length text) × (p' ≡ p) × (to ≡ from)
