-- The items that are answered follow one another, and stand where they are said to.
use Rattle.std.proofs.Common.{◌≡◌, ℕ, ◌+◌, leb, List, [], ◌∷◌, ◌++◌, length, take, sym, refl, ap, ◌∙◌, subst, ⊎_elim}
use Rattle.std.proofs.lemmas.Bool.{cases_Bool}
use Rattle.std.proofs.lemmas.List.{append_assoc, append_cancel_right, take-append-drop}
use Rattle.lines.specs.Lines.{first_line}
use Rattle.rle.specs.declared.phase.Cursor.{Cursor}
use Rattle.rle.specs.declared.phase.Phase.{Phase}
use Rattle.rle.specs.declared.phase.Phase.TheVariants.{Opening, Body, Failed}
use Rattle.rle.specs.declared.fault.ReadCause.{ReadCause}
use Rattle.rle.specs.declared.fault.ReadCause.TheVariants.{TooLong}
use Rattle.rle.specs.Forms.{Each, on_line, HeadForm}
use Rattle.rle.specs.Items.{Part, header, ending, Taken, item_start, body_item, opening_item, read_item}
use Rattle.rle.specs.Laws.{Placed}
use Rattle.rle.specs.Runs.{letter_of}
use Rattle.rle.specs.Scans.{Scan, good, bad, past, space}
use Rattle.rle.specs.Spots.{Spot, corner, spot_past, spot_before}
use Rattle.rle.proofs.Bodies.{ran, BodyView, over as ended_here, ran_on, misplaced, faulty, body_view}
use Rattle.rle.proofs.Headers.{head_on_line, rule_place, heading_read}
use Rattle.rle.proofs.Lines.{first_of, each_front}
use Rattle.rle.proofs.Openings.{took_heading, open_view}
use Rattle.rle.proofs.Pasts.{past_split}
use Rattle.rle.proofs.Places.{spot_append, spot_after, spot_on_line, places_count}
use Rattle.rle.proofs.Reading.{took_part, is_opened}
use Rattle.reader.specs.declared.reader.Reader.{Reader}
use Rattle.reader.specs.Calls.{Stand, answer_of, stand_after}
use Rattle.reader.specs.Left.{left}
use Rattle.reader.specs.Readings.{Answer, Calls, none, call}
use Rattle.reader.specs.Shown.{told_part}
use Rattle.reader.specs.Standing.{Begins, Follow, ItemsStand}
use Rattle.reader.proofs.Readings.{starts, fails}

-- the last bytes of a text are placed
last_placed : (text before at : List ℕ) → text ≡ before ++ at → Placed text at (spot_before text at)
last_placed text before at e = subst (λ x. Placed x at (spot_before x at)) (sym e) (places_count before at)

-- the column where a rule starts, from the start of its line
rule_column : (text before front at named : List ℕ) → text ≡ before ++ at → at ≡ front ++ named → Each on_line front → (spot_before text named).column ≡ (spot_before text at).column + length front
rule_column text before front at named e f on =
    let whole : text ≡ (before ++ front) ++ named = e ∙ ap (λ x. before ++ x) f ∙ sym (append_assoc before front named) in
    let there : spot_before text named ≡ spot_past (spot_past corner before) front = ap (λ x. spot_before x named) whole ∙ spot_after (before ++ front) named ∙ spot_append corner before front in
    let here : spot_before text at ≡ spot_past corner before = ap (λ x. spot_before x at) e ∙ spot_after before at in
    ap (λ (s : Spot). s.column) (there ∙ spot_on_line (spot_past corner before) front on) ∙ ap (λ (s : Spot). s.column + length front) (sym here)

-- an item and where it stands
abbrev ItemAt : List ℕ → List ℕ → Phase → Part → List ℕ → Type 0
ItemAt text t p x rest =
    (s : List ℕ) × (at : List ℕ) × Each space s × (t ≡ s ++ at) × Placed text at (spot_before text (item_start p t)) × Begins (told_part text x) (spot_before text (item_start p t)).column at rest

opening_at : (text before t : List ℕ) (x : Part) (q : Phase) (rest : List ℕ) → text ≡ before ++ t → opening_item t ≡ good (record { part = x; phase = q }) rest → Begins (told_part text x) (spot_before text t).column t rest
opening_at text before t x q rest e f =
    let column = (spot_before text t).column in
    ⊎_elim
    (λ p. subst (λ y. Begins (told_part text y) column t rest) (sym p.3) (p.1, p.2))
    (λ p.
    let head = p.0 in
    let line = p.1 in
    let on = head_on_line head.width head.height head.rule line p.2 in
    let first : first_line t ≡ line = ap first_line p.3 ∙ first_of line rest on in
    let read : opening_item t ≡ good (took_heading (first_line t) head) rest =
    f ∙ ap (λ z. good (record { part = z; phase = q }) rest) p.6 ∙ ap (λ z. good (record { part = header (first_line t) head; phase = z }) rest) p.7 in
    let place = rule_place t head rest (heading_read t (first_line t) head rest read) in
    let split : line ≡ place.0 ++ place.1 = append_cancel_right line (place.0 ++ place.1) (10 ∷ rest) (sym p.3 ∙ place.2 ∙ ap (λ y. place.0 ++ y) place.3 ∙ sym (append_assoc place.0 place.1 (10 ∷ rest))) in
    let front_on : Each on_line place.0 = each_front on_line place.0 place.1 (subst (Each on_line) split on) in
    subst (λ y. Begins (told_part text y) column t rest) (sym p.6) (
      subst (HeadForm head.width head.height head.rule) (sym first) p.2,
      p.3 ∙ ap (λ y. y ++ (10 ∷ rest)) (sym first),
      (place.0, place.1, first ∙ split, place.4, rule_column text before place.0 t head.named e place.2 front_on),
    ))
    (is_opened t x q rest (opening_item t) (open_view t) f)

body_at : (text t at : List ℕ) (c : Cursor) (x : Part) (q : Phase) (rest : List ℕ) (column : ℕ) (s : Scan Taken) → BodyView c at s → s ≡ good (record { part = x; phase = q }) rest → Begins (told_part text x) column at rest
body_at text t at c x q rest column s (ended_here v e) f =
    let taken : Taken = record { part = x; phase = q } in
    let left : at ≡ rest = cc in
    let part : ending ≡ x = took_part (record { part = ending; phase = Body c }) taken at rest f in
    subst (λ y. Begins (told_part text y) column at rest) part (v, e, sym left)
body_at text t at c x q rest column s (ran_on n m u v h e g) f =
    let taken : Taken = record { part = x; phase = q } in
    let left : v ≡ rest = cc in
    subst (λ y. Begins (told_part text y) column at rest) (took_part (ran c n m) taken v rest f) (u, h, e ∙ ap (λ y. u ++ (letter_of m ∷ y)) left)
body_at text t at c x q rest column s (misplaced u b r e n v h g) f = cc
body_at text t at c x q rest column s (faulty k v h) f = cc

item_at : (text before t : List ℕ) (p : Phase) (x : Part) (q : Phase) (rest : List ℕ) → text ≡ before ++ t → read_item p t ≡ good (record { part = x; phase = q }) rest → ItemAt text t p x rest
unfolding read_item
item_at text before t Opening x q rest e f = ([], t, tt, refl, last_placed text before t e, opening_at text before t x q rest e f)
item_at text before t (Body c) x q rest e f =
    let split = past_split space t in
    let at = past space t in
    (split.0, at, split.1, split.2, last_placed text (before ++ split.0) at (e ∙ ap (λ y. before ++ y) split.2 ∙ sym (append_assoc before split.0 at)), body_at text t at c x q rest (spot_before text at).column (body_item c at) (body_view c at) f)
item_at text before t (Failed cause) x q rest e f = cc

follow_by : (text before t : List ℕ) (p : Phase) (sc : Scan Taken) (more : List Answer) → text ≡ before ++ t → read_item p t ≡ sc → ((q : Phase) (rest : List ℕ) → stand_after sc ≡ record { rest = rest; phase = q } → Follow text rest more) → Follow text t (answer_of text (item_start p t) sc ∷ more)
follow_by text before t p (bad cause rest) more e f next = tt
follow_by text before t p (good taken rest) more e f next =
    let i = item_at text before t p taken.part taken.phase rest e f in
    (i.0, i.1, rest, i.2, i.3, i.4, i.5, next taken.phase rest refl)

follow : {r s : Reader} {answers : List Answer} → Calls r answers s → Follow r.text.now (left r) answers
follow (none r) = tt
follow (call r s t a more one rest) =
    let text = r.text.now in
    let all : Follow text (left r) (answer_of text (item_start r.phase (left r)) (read_item r.phase (left r)) ∷ more) =
    follow_by text (take r.at text) (left r) r.phase (read_item r.phase (left r)) more (sym (take-append-drop r.at text)) refl
    (λ q u is. subst (λ z. Follow z u more) one.text (subst (λ (z : Stand). Follow s.text.now z.rest more) (one.stands ∙ is) (follow rest))) in
    subst (λ z. Follow text (left r) (z ∷ more)) (sym one.answer) all

-- a reader that stands at a fault answers no item
fault_by : (text start t : List ℕ) (p : Phase) (sc : Scan Taken) (more : List Answer) (cause : ReadCause) (whole rest : List ℕ) → p ≡ Failed cause → read_item p t ≡ sc → Follow whole rest (answer_of text start sc ∷ more)
unfolding read_item
fault_by text start t p (bad k v) more cause whole rest is e = tt
fault_by text start t p (good taken v) more cause whole rest is e = let z : ◌≡◌ {A = Scan Taken} (bad cause t) (good taken v) = ap (λ p. read_item p t) (sym is) ∙ e in cc

only_faults : {r s : Reader} {answers : List Answer} → Calls r answers s → (cause : ReadCause) → r.phase ≡ Failed cause → (text rest : List ℕ) → Follow text rest answers
only_faults (none r) cause is text rest = tt
only_faults (call r s t a more one rest) cause is text from =
    subst (λ z. Follow text from (z ∷ more)) (sym one.answer)
    (fault_by r.text.now (item_start r.phase (left r)) (left r) r.phase (read_item r.phase (left r)) more cause text from is refl)

pub items_stand : ItemsStand
items_stand text first last answers o calls =
    ⊎_elim
    (λ e. let s = starts text first o e in subst (λ z. Follow z text answers) s.0 (subst (λ z. Follow first.text.now z answers) s.2 (follow calls)))
    (λ e. only_faults calls TooLong (fails text first o e).1 text text)
    (cases_Bool (leb (length text) 65536))
