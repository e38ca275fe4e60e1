-- One call of the reader is one item of what is told.
use Rattle.std.proofs.Common.{◌≡◌, ℕ, suc, ◌+◌, ◌-◌, ◌<◌, ◌≤◌, List, length, Ok, Err, Result, sym, ap, ◌∙◌, refl, subst, arith}
use Rattle.std.specs.Result.{IsErrAnd}
use Rattle.patterns.specs.declared.pattern.Pattern.{Pattern}
use Rattle.rle.specs.declared.fault.ReadFault.{ReadFault}
use Rattle.rle.specs.Items.{item_start, read_item}
use Rattle.reader.specs.Calls.{Answered, LocatedShown, Stand, answer_of, readable, shown_answer, standing}
use Rattle.reader.specs.Left.{left}
use Rattle.reader.specs.Shown.{Shown, shown_item, remarked, headed, marks, over}
use Rattle.reader.specs.declared.item.Item.{Item}
use Rattle.reader.specs.declared.item.Item.TheVariants.{Remark, Heading, Run, End}
use Rattle.reader.specs.declared.item.Located.{Located}
use Rattle.reader.specs.declared.reader.Reader.{Reader}
use Rattle.rle.specs.declared.mark.Run.{Run as Laid}
use Rattle.patterns.specs.Told.{Tells, Told, runs_after, runs_in, shown, shown_with, told, told_on, unless_fault, unless_over, with_item}

-- one call
pub told_call : (n : ℕ) (text : List ℕ) (t : Told) (old new : Reader) (r : Result Located ReadFault) → Answered old new r → old.text.now ≡ text → told_on (suc n) text (standing old) t ≡ unless_fault t (told_on n text (standing new)) (shown_answer r)
unfolding told_on
told_call n text t old new r a same =
    let start = item_start old.phase (left old) in
    let scan = read_item old.phase (left old) in
    let answer = a.answer ∙ ap (λ x. answer_of x start scan) same in
    let stands = sym a.stands in
    let told = sym answer in
    (λ i. unless_fault t (told_on n text (stands i)) (told i))

-- an item that is not the end is taken in, and reading goes on
pub goes_on : (t : Told) (next : Told → Result Told ReadFault) (line : ℕ) (l : LocatedShown) (i : Item) → l.spot.line ≡ line → l.item ≡ shown_item i → (i ≡ End → ⊥) → unless_over t next l (shown_item i) ≡ next (with_item t line (shown_item i))
goes_on t next line l (Remark bytes) e f other = (λ k. next (with_item t (e k) (f k)))
goes_on t next line l (Heading h) e f other = (λ k. next (with_item t (e k) (f k)))
goes_on t next line l (Run r) e f other = (λ k. next (with_item t (e k) (f k)))
goes_on t next line l End e f other = absurd (other refl)

-- a fault is told as it is
pub tells_fault : (text : List ℕ) (fault : ReadFault) (r : Result Pattern ReadFault) → told text ≡ Err fault → IsErrAnd r (λ e. e ≡ fault) → Tells text r
tells_fault text fault (Ok p) e h = absurd h
tells_fault text fault (Err x) e h = subst (λ x. Tells text (Err x)) (sym h) e

-- a pattern shows what is told of its text with the runs that were told
pub shows_told : (text : List ℕ) (p : Pattern) (runs : List Laid) → p.text.now ≡ text → told text ≡ Ok (shown_with p runs) → told text ≡ Ok (shown p)
shows_told text p runs same e = e ∙ ap (λ l. Ok (shown_with p l)) (sym (ap (λ x. runs_in (told x)) same ∙ ap runs_in e))

-- as many items as there are bytes, and one more
pub one_less : (n i : ℕ) → i < n → n - i ≡ suc (n - (i + 1))
one_less n i h = omega arith

-- at the end nothing more is told
pub over_now : (t : Told) (next : Told → Result Told ReadFault) (l : LocatedShown) (i : Item) → i ≡ End → unless_over t next l (shown_item i) ≡ Ok t
over_now t next l i e = ap (λ k. unless_over t next l (shown_item k)) e

-- nor when no item may come any more
pub none_left : (n i : ℕ) (text : List ℕ) (s : Stand) (t : Told) → n ≤ i → told_on (n - i) text s t ≡ Ok t
unfolding told_on
none_left n i text s t h = let none : n - i ≡ 0 = omega arith in ap (λ k. told_on k text s t) none

-- what the next call of the reader tells
pub called : (text : List ℕ) (t : Told) (old new : Reader) (r : Result Located ReadFault) (i : ℕ) → i < length text + 1 → Answered old new r → old.text.now ≡ readable text → told_on (length text + 1 - i) (readable text) (standing old) t ≡ told text → unless_fault t (told_on (length text + 1 - (i + 1)) (readable text) (standing new)) (shown_answer r) ≡ told text
called text t old new r i h a same before =
    sym (told_call (length text + 1 - (i + 1)) (readable text) t old new r a same) ∙ ap (λ n. told_on n (readable text) (standing old) t) (sym (one_less (length text + 1) i h)) ∙ before

-- an item that is handed out, without references
abbrev pub seen : Located → LocatedShown
seen l = record { spot = record { line = l.line; column = l.column }; item = shown_item l.item }

-- a reader of a text has still so many items to come, and what they tell after a pattern and some runs is what the text tells
pub record Reading (n : ℕ) (text : List ℕ) (r : Reader) (p : Pattern) : Type 0 where
  pub runs : List Laid
  pub read : r.text.now ≡ readable text
  pub whole : p.text.now ≡ text
  pub told : told_on n (readable text) (standing r) (shown_with p runs) ≡ told text

-- the same of the runs alone
pub record Gathering (n : ℕ) (text : List ℕ) (r : Reader) (runs : List Laid) : Type 0 where
  pub before : Told
  pub read : r.text.now ≡ readable text
  pub gathered : before.runs ≡ runs
  pub told : told_on n (readable text) (standing r) before ≡ told text

-- runs with those of one item more
pub runs_more : (t : Told) (line : ℕ) (s : Shown) → (with_item t line s).runs ≡ runs_after t.runs s
runs_more t line (remarked bytes) = refl
runs_more t line (headed h) = refl
runs_more t line (marks r) = refl
runs_more t line over = refl

-- an item that is no run adds none
pub no_run : (runs : List Laid) (i : Item) → ((r : Laid) → i ≡ Run r → ⊥) → runs_after runs (shown_item i) ≡ runs
no_run runs (Remark bytes) other = refl
no_run runs (Heading h) other = refl
no_run runs (Run r) other = absurd (other r refl)
no_run runs End other = refl
