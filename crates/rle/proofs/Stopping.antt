-- Where reading stops the text is at fault: what was read until then, and what the item at fault shows.
use Rattle.std.proofs.Common.{◌≡◌, ℕ, ◌≤◌, Bool, true, false, ◌⊎◌, List, [], ◌∷◌, ◌++◌, sym, refl, ap, ◌∙◌, subst, inl, inr, ⊎_elim}
use Rattle.std.specs.List.{flat_map}
use Rattle.std.proofs.lemmas.Grind.{flat_map-append}
use Rattle.std.proofs.lemmas.List.{append_assoc}
use Rattle.rle.specs.declared.fault.ReadCause.{ReadCause}
use Rattle.rle.specs.declared.fault.ReadCause.TheVariants.{TooLong, Byte, Size, Outside, Ended}
use Rattle.rle.specs.declared.mark.Run.{Run}
use Rattle.rle.specs.declared.phase.Cursor.{Cursor}
use Rattle.rle.specs.declared.phase.Phase.{Phase}
use Rattle.rle.specs.declared.phase.Phase.TheVariants.{Opening, Body}
use Rattle.rle.specs.Forms.{Each, BodyForm, RunsForm, HeadForm, RemarkForms, BareForm, ended}
use Rattle.rle.specs.Items.{Head, Part, Taken, ending, Stops, here, later, top_left, body_item, opening_item, read_item}
use Rattle.rle.specs.Laws.{EndsEarly, LargeSize, RunOutside, StopsAtFault}
use Rattle.rle.specs.Runs.{letter_of, Inside}
use Rattle.rle.specs.Scans.{Scan, good, bad, past, space}
use Rattle.rle.proofs.Bodies.{onward, fits, ran, RunFault, BodyView, over, ran_on, misplaced, faulty, body_view}
use Rattle.rle.proofs.Faulting.{FormView, form_ends, form_runs, form_leaves, form_view, TextView, text_remark, text_heading, text_large, bare_view, no_stop, faults_first}
use Rattle.rle.proofs.Openings.{took_remark, took_heading, OpenFault, OpenView, remarked, headed, open_view, with_remark}
use Rattle.rle.proofs.Lines.{each_both}
use Rattle.rle.proofs.Openings as opens
use Rattle.rle.proofs.Pasts.{past_split, past_stop}
use Rattle.rle.proofs.Reading.{read_body, read_opening, took_phase, is_opened}

-- where the next run is laid after some, and whether these lie in the box
abbrev pub laid_on : Cursor → List Run → Cursor
laid_on c [] = c
laid_on c (r ∷ rs) = laid_on (onward c r.count r.mark) rs

abbrev pub InBox : Cursor → List Run → Type 0
InBox c runs = Inside c.width c.height c.column c.row runs

pub in_box_last : (c : Cursor) (runs : List Run) (r : Run) → InBox c (runs ++ (r ∷ [])) → fits (laid_on c runs) r.count r.mark ≡ true
in_box_last c [] r h = h.0
in_box_last c (q ∷ runs) r h = in_box_last (onward c q.count q.mark) runs r h.1

pub in_box_more : (c : Cursor) (runs : List Run) (r : Run) → InBox c runs → fits (laid_on c runs) r.count r.mark ≡ true → InBox c (runs ++ (r ∷ []))
in_box_more c [] r h e = (e, tt)
in_box_more c (q ∷ runs) r h e = (h.0, in_box_more (onward c q.count q.mark) runs r h.1 e)

-- a body that is at fault: the runs that were read, and the item at fault
record Walked (c : Cursor) (t : List ℕ) (cause : ReadCause) (at : List ℕ) : Type 0 where
  runs : List Run
  before : List ℕ
  rest : List ℕ
  spelled : RunsForm runs before
  inside : InBox c runs
  whole : t ≡ before ++ rest
  stop : body_item (laid_on c runs) rest ≡ bad cause at

walked_by : (c : Cursor) (t : List ℕ) (cause : ReadCause) (at : List ℕ) (x : Part) (q : Phase) (rest : List ℕ) (s : Scan Taken) → BodyView c (past space t) s → s ≡ good (record { part = x; phase = q }) rest → Stops q rest cause at → ((d : Cursor) → q ≡ Body d → Walked d rest cause at) → Walked c t cause at
walked_by c t cause at x q rest s (over v e) f more walk =
    let taken : Taken = record { part = x; phase = q } in
    let took : Taken = record { part = ending; phase = Body c } in
    let left : past space t ≡ rest = cc in
    absurd (no_stop more c v (sym (took_phase took taken (past space t) rest f)) (ap (past space) (sym left ∙ e) ∙ past_stop space 33 v refl))
walked_by c t cause at x q rest s (ran_on n m u v h e g) f more walk =
    let taken : Taken = record { part = x; phase = q } in
    let left : v ≡ rest = cc in
    let next = walk (onward c n m) (sym (took_phase (ran c n m) taken v rest f)) in
    let split = past_split space t in
    record {
      runs = record { count = n; mark = m } ∷ next.runs;
      before = split.0 ++ (u ++ (letter_of m ∷ next.before));
      rest = next.rest;
      spelled = (split.0, u, next.before, split.1, h, next.spelled, refl);
      inside = (g, next.inside);
      whole = split.2
          ∙ ap (λ y. split.0 ++ y) (e ∙ ap (λ y. u ++ (letter_of m ∷ y)) (left ∙ next.whole) ∙ sym (append_assoc u (letter_of m ∷ next.before) next.rest))
          ∙ sym (append_assoc split.0 (u ++ (letter_of m ∷ next.before)) next.rest);
      stop = next.stop;
    }
walked_by c t cause at x q rest s (misplaced u b r e n v h g) f more walk = cc
walked_by c t cause at x q rest s (faulty k v h) f more walk = cc

walked : {p : Phase} {t : List ℕ} {cause : ReadCause} {at : List ℕ} → Stops p t cause at → (c : Cursor) → p ≡ Body c → Walked c t cause at
walked {t = t} {cause = cause} {at = at} (here e) c is =
    let split = past_split space t in
    record {
      runs = [];
      before = split.0;
      rest = past space t;
      spelled = split.1;
      inside = tt;
      whole = split.2;
      stop = sym (read_body c t) ∙ subst (λ x. read_item x t ≡ bad cause at) is e;
    }
walked {t = t} {cause = cause} {at = at} (later x q rest e more) c is =
    let taken : Taken = record { part = x; phase = q } in
    let read : body_item c (past space t) ≡ good taken rest = sym (read_body c t) ∙ subst (λ y. read_item y t ≡ good taken rest) is e in
    walked_by c t cause at x q rest (body_item c (past space t)) (body_view c (past space t)) read more (λ d same. walked more d same)

-- a text that is at fault: the remarks that were read, and the item at fault, or the heading and the body at fault
abbrev InBody : List ℕ → ReadCause → List ℕ → Type 0
InBody t cause at =
    (head : Head) × (line : List ℕ) × (body : List ℕ) × HeadForm head.width head.height head.rule line × (t ≡ line ++ (10 ∷ body)) × (head.width ≤ 32) × (head.height ≤ 32) × Walked (top_left head.width head.height) body cause at

record Entered (t : List ℕ) (cause : ReadCause) (at : List ℕ) : Type 0 where
  remarks : List (List ℕ)
  rest : List ℕ
  remarked : RemarkForms remarks
  whole : t ≡ flat_map ended remarks ++ rest
  stop : (opening_item rest ≡ bad cause at) ⊎ InBody rest cause at

-- the first remark before others
pub one_remark : (line : List ℕ) (remarks : List (List ℕ)) (rest : List ℕ) → flat_map ended (line ∷ remarks) ++ rest ≡ line ++ (10 ∷ (flat_map ended remarks ++ rest))
one_remark line remarks rest = append_assoc (ended line) (flat_map ended remarks) rest ∙ append_assoc line (10 ∷ []) (flat_map ended remarks ++ rest)

entered : {p : Phase} {t : List ℕ} {cause : ReadCause} {at : List ℕ} → Stops p t cause at → p ≡ Opening → Entered t cause at
entered {t = t} {cause = cause} {at = at} (here e) is =
    record { remarks = []; rest = t; remarked = tt; whole = refl; stop = inl (sym (read_opening t) ∙ subst (λ x. read_item x t ≡ bad cause at) is e) }
entered {t = t} {cause = cause} {at = at} (later x q rest e more) is =
    let taken : Taken = record { part = x; phase = q } in
    let read : opening_item t ≡ good taken rest = sym (read_opening t) ∙ subst (λ y. read_item y t ≡ good taken rest) is e in
    ⊎_elim
    (λ p.
    let next = entered more p.4 in
    record {
      remarks = p.0 ∷ next.remarks;
      rest = next.rest;
      remarked = (p.1, next.remarked);
      whole = p.2 ∙ ap (λ y. p.0 ++ (10 ∷ y)) next.whole ∙ sym (one_remark p.0 next.remarks next.rest);
      stop = next.stop;
    })
    (λ p. record { remarks = []; rest = t; remarked = tt; whole = refl; stop = inr (p.0, p.1, rest, p.2, p.3, p.4, p.5, walked more (top_left p.0.width p.0.height) p.7) })
    (is_opened t x q rest (opening_item t) (open_view t) read)

-- what the item at fault shows
open_shows : (t : List ℕ) (cause : ReadCause) (at : List ℕ) (s : Scan Taken) → OpenView t s → s ≡ bad cause at → (cause ≡ Byte → ⊥) → OpenFault t cause at
open_shows t cause at s (remarked line rest h e) f other = cc
open_shows t cause at s (headed head line rest h e narrow low) f other = cc
open_shows t cause at s (opens.misplaced u b r e head v h g) f other = let same : Byte ≡ cause = cc in absurd (other (sym same))
open_shows t cause at s (opens.faulty k rest h) f other =
    let same : k ≡ cause = cc in
    let there : rest ≡ at = cc in
    subst (OpenFault t cause) there (subst (λ z. OpenFault t z rest) same h)

run_shows : (c : Cursor) (t : List ℕ) (cause : ReadCause) (at : List ℕ) (s : Scan Taken) → BodyView c t s → s ≡ bad cause at → (cause ≡ Byte → ⊥) → RunFault c t cause at
run_shows c t cause at s (over v e) f other = cc
run_shows c t cause at s (ran_on n m u rest h e g) f other = cc
run_shows c t cause at s (misplaced u b r e n v h g) f other = let same : Byte ≡ cause = cc in absurd (other (sym same))
run_shows c t cause at s (faulty k rest h) f other =
    let same : k ≡ cause = cc in
    let there : rest ≡ at = cc in
    subst (RunFault c t cause) there (subst (λ z. RunFault c t z rest) same h)

opening_fault : (t : List ℕ) (cause : ReadCause) (at : List ℕ) → opening_item t ≡ bad cause at → (cause ≡ Byte → ⊥) → OpenFault t cause at
opening_fault t cause at = open_shows t cause at (opening_item t) (open_view t)

run_fault : (c : Cursor) (t : List ℕ) (cause : ReadCause) (at : List ℕ) → body_item c t ≡ bad cause at → (cause ≡ Byte → ⊥) → RunFault c t cause at
run_fault c t cause at = run_shows c t cause at (body_item c t) (body_view c t)

-- a text that is too long is refused before it is read
never_long : (text at : List ℕ) → Entered text TooLong at → ⊥
never_long text at o =
    ⊎_elim
    (λ e. opening_fault o.rest TooLong at e (λ z. cc))
    (λ b. let w = b.7 in run_fault (laid_on (top_left b.0.width b.0.height) w.runs) w.rest TooLong at w.stop (λ z. cc))
    o.stop

-- remarks before others
remarks_both : (qs rs : List (List ℕ)) → RemarkForms qs → RemarkForms rs → RemarkForms (qs ++ rs)
remarks_both [] rs h g = g
remarks_both (q ∷ qs) rs h g = (h.0, remarks_both qs rs h.1 g)

remarks_join : (qs rs : List (List ℕ)) (t : List ℕ) → flat_map ended qs ++ (flat_map ended rs ++ t) ≡ flat_map ended (qs ++ rs) ++ t
remarks_join qs rs t = sym (append_assoc (flat_map ended qs) (flat_map ended rs) t) ∙ ap (λ x. x ++ t) (sym (flat_map-append ended qs rs))

large_size : (text at : List ℕ) → Entered text Size at → LargeSize text at
large_size text at o =
    ⊎_elim
    (λ e.
    let l = opening_fault o.rest Size at e (λ z. cc) in
    record {
      remarks = o.remarks ++ l.remarks;
      before = l.before;
      number = l.number;
      digits = l.digits;
      after = l.after;
      remarked = remarks_both o.remarks l.remarks o.remarked l.remarked;
      leads = l.leads;
      numeral = l.numeral;
      over = l.over;
      large = l.large;
      stands = l.stands;
      whole = o.whole ∙ ap (λ y. flat_map ended o.remarks ++ y) l.whole ∙ remarks_join o.remarks l.remarks (l.before ++ at);
    })
    (λ b. let w = b.7 in absurd (run_fault (laid_on (top_left b.0.width b.0.height) w.runs) w.rest Size at w.stop (λ z. cc)))
    o.stop

not_both : (x : Bool) → x ≡ true → x ≡ false → ⊥
not_both true e f = cc
not_both false e f = cc

run_outside : (text at : List ℕ) → Entered text Outside at → RunOutside text at
run_outside text at o =
    ⊎_elim
    (λ e. absurd (opening_fault o.rest Outside at e (λ z. cc)))
    (λ b.
    let w = b.7 in
    let c = top_left b.0.width b.0.height in
    let f = run_fault (laid_on c w.runs) w.rest Outside at w.stop (λ z. cc) in
    let r : Run = record { count = f.1; mark = f.2 } in
    record {
      remarks = o.remarks;
      w = b.0.width;
      h = b.0.height;
      rule = b.0.rule;
      line = b.1;
      runs = w.runs;
      before = w.before;
      run = r;
      count = f.3;
      after = f.4;
      remarked = o.remarked;
      headed = b.3;
      narrow = b.5;
      low = b.6;
      spelled = w.spelled;
      inside = w.inside;
      counted = f.5;
      outside = λ h. not_both (fits (laid_on c w.runs) f.1 f.2) (in_box_last c w.runs r h) f.7;
      stands = f.0 ∙ f.6;
      whole = o.whole ∙ ap (λ y. flat_map ended o.remarks ++ y) (b.4 ∙ ap (λ y. b.1 ++ (10 ∷ y)) (w.whole ∙ ap (λ y. w.before ++ y) (sym f.0)));
    })
    o.stop

-- a text of the grammar never ends too soon
form_later : (c : Cursor) (runs : List Run) (at : List ℕ) (x : Part) (q : Phase) (rest : List ℕ) (s : Scan Taken) → FormView c runs s → s ≡ good (record { part = x; phase = q }) rest → Stops q rest Ended at → ((d : Cursor) (rs : List Run) → q ≡ Body d → BodyForm rs rest → ⊥) → ⊥
form_later c runs at x q rest s (form_ends v) f more next =
    let taken : Taken = record { part = x; phase = q } in
    let took : Taken = record { part = ending; phase = Body c } in
    let left : 33 ∷ v ≡ rest = cc in
    no_stop more c v (sym (took_phase took taken (33 ∷ v) rest f)) (ap (past space) (sym left) ∙ past_stop space 33 v refl)
form_later c runs at x q rest s (form_runs n m rs v g) f more next =
    let taken : Taken = record { part = x; phase = q } in
    let left : v ≡ rest = cc in
    next (onward c n m) rs (sym (took_phase (ran c n m) taken v rest f)) (subst (BodyForm rs) left g)
form_later c runs at x q rest s (form_leaves v) f more next = cc

form_now : (c : Cursor) (runs : List Run) (at : List ℕ) (s : Scan Taken) → FormView c runs s → s ≡ bad Ended at → ⊥
form_now c runs at s (form_ends v) f = cc
form_now c runs at s (form_runs n m rs v g) f = cc
form_now c runs at s (form_leaves v) f = cc

form_never : {p : Phase} {t : List ℕ} {cause : ReadCause} {at : List ℕ} → Stops p t cause at → (runs : List Run) (c : Cursor) → p ≡ Body c → BodyForm runs t → cause ≡ Ended → ⊥
form_never {t = t} {cause = cause} {at = at} (here e) runs c is form end =
    let read : body_item c (past space t) ≡ bad Ended at = sym (read_body c t) ∙ subst (λ x. read_item x t ≡ bad cause at) is e ∙ ap (λ x. bad x at) end in
    form_now c runs at (body_item c (past space t)) (form_view c runs t form) read
form_never {t = t} {at = at} (later x q rest e more) runs c is form end =
    let taken : Taken = record { part = x; phase = q } in
    let read : body_item c (past space t) ≡ good taken rest = sym (read_body c t) ∙ subst (λ y. read_item y t ≡ good taken rest) is e in
    form_later c runs at x q rest (body_item c (past space t)) (form_view c runs t form) read (subst (λ y. Stops q rest y at) end more) (λ d rs same g. form_never more rs d same g end)

text_now : (at : List ℕ) (s : Scan Taken) → TextView s → s ≡ bad Ended at → ⊥
text_now at s (text_remark line rest f) e = cc
text_now at s (text_heading line head runs body f) e = cc
text_now at s (text_large x) e = cc

text_later : (at : List ℕ) (x : Part) (q : Phase) (rest : List ℕ) (s : Scan Taken) → TextView s → s ≡ good (record { part = x; phase = q }) rest → Stops q rest Ended at → (q ≡ Opening → BareForm rest → ⊥) → ⊥
text_later at x q rest s (text_remark line v g) f more next =
    let taken : Taken = record { part = x; phase = q } in
    let left : v ≡ rest = cc in
    next (sym (took_phase (took_remark line) taken v rest f)) (subst BareForm left g)
text_later at x q rest s (text_heading line head runs body g) f more next =
    let taken : Taken = record { part = x; phase = q } in
    let left : body ≡ rest = cc in
    form_never more runs (top_left head.width head.height) (sym (took_phase (took_heading line head) taken body rest f)) (subst (BodyForm runs) left g) refl
text_later at x q rest s (text_large v) f more next = cc

text_never : {p : Phase} {t : List ℕ} {cause : ReadCause} {at : List ℕ} → Stops p t cause at → p ≡ Opening → BareForm t → cause ≡ Ended → ⊥
text_never {t = t} {cause = cause} {at = at} (here e) is form end =
    let read : opening_item t ≡ bad Ended at = sym (read_opening t) ∙ subst (λ x. read_item x t ≡ bad cause at) is e ∙ ap (λ x. bad x at) end in
    text_now at (opening_item t) (bare_view t form) read
text_never {t = t} {at = at} (later x q rest e more) is form end =
    let taken : Taken = record { part = x; phase = q } in
    let read : opening_item t ≡ good taken rest = sym (read_opening t) ∙ subst (λ y. read_item y t ≡ good taken rest) is e in
    text_later at x q rest (opening_item t) (bare_view t form) read (subst (λ y. Stops q rest y at) end more) (λ same g. text_never more same g end)

-- what was read can be gone on from: spaces and runs before a body, the heading before it, and remarks
spaced : (runs : List Run) (s t : List ℕ) → Each space s → BodyForm runs t → BodyForm runs (s ++ t)
spaced [] s t h f = (s ++ f.0, f.1, each_both space s f.0 h f.2, ap (λ x. s ++ x) f.3 ∙ sym (append_assoc s f.0 (33 ∷ f.1)))
spaced (r ∷ rs) s t h f =
    (s ++ f.0, f.1, f.2, each_both space s f.0 h f.3, f.4, f.5, ap (λ x. s ++ x) f.6 ∙ sym (append_assoc s f.0 (f.1 ++ (letter_of r.mark ∷ f.2))))

runs_on : (qs rs : List Run) (u t : List ℕ) → RunsForm qs u → BodyForm rs t → BodyForm (qs ++ rs) (u ++ t)
runs_on [] rs u t h f = spaced rs u t h f
runs_on (q ∷ qs) rs u t h f =
    (h.0, h.1, h.2 ++ t, h.3, h.4, runs_on qs rs h.2 t h.5 f, ap (λ x. x ++ t) h.6 ∙ append_assoc h.0 (h.1 ++ (letter_of q.mark ∷ h.2)) t ∙ ap (λ x. h.0 ++ x) (append_assoc h.1 (letter_of q.mark ∷ h.2) t))

remarks_on : (remarks : List (List ℕ)) (t : List ℕ) → RemarkForms remarks → BareForm t → BareForm (flat_map ended remarks ++ t)
remarks_on [] t h f = f
remarks_on (r ∷ remarks) t h f = subst BareForm (sym (one_remark r remarks t)) (with_remark r (flat_map ended remarks ++ t) h.0 (remarks_on remarks t h.1 f))

headed_on : (head : Head) (line : List ℕ) (runs : List Run) (body : List ℕ) → HeadForm head.width head.height head.rule line → BodyForm runs body → BareForm (line ++ (10 ∷ body))
headed_on head line runs body h f = ([], head.width, head.height, head.rule, runs, record { line = line; body = body; remarked = tt; headed = h; bodied = f; whole = refl })

ends_early : (text at : List ℕ) → Stops Opening text Ended at → Entered text Ended at → EndsEarly text at
ends_early text at s o =
    let from : (rest : List ℕ) → BareForm (o.rest ++ rest) → (rest : List ℕ) × BareForm (text ++ rest) = λ rest f. (rest, subst BareForm (sym (ap (λ x. x ++ rest) o.whole ∙ append_assoc (flat_map ended o.remarks) o.rest rest)) (remarks_on o.remarks (o.rest ++ rest) o.remarked f)) in
    ⊎_elim
    (λ e.
    let f = opening_fault o.rest Ended at e (λ z. cc) in
    record { last = f.0; begins = from f.1.0 f.1.1; none = λ form. text_never s refl form refl })
    (λ b.
    let w = b.7 in
    let f = run_fault (laid_on (top_left b.0.width b.0.height) w.runs) w.rest Ended at w.stop (λ z. cc) in
    let body : BodyForm (w.runs ++ f.2) (w.before ++ (w.rest ++ f.1)) = runs_on w.runs f.2 w.before (w.rest ++ f.1) w.spelled f.3 in
    let whole : o.rest ++ f.1 ≡ b.1 ++ (10 ∷ (w.before ++ (w.rest ++ f.1))) =
    ap (λ x. x ++ f.1) b.4 ∙ append_assoc b.1 (10 ∷ b.2) f.1 ∙ ap (λ x. b.1 ++ (10 ∷ (x ++ f.1))) w.whole ∙ ap (λ x. b.1 ++ (10 ∷ x)) (append_assoc w.before w.rest f.1) in
    record { last = f.0; begins = from f.1 (subst BareForm (sym whole) (headed_on b.0 b.1 (w.runs ++ f.2) (w.before ++ (w.rest ++ f.1)) b.3 body)); none = λ form. text_never s refl form refl })
    o.stop

pub stops_at_fault : StopsAtFault
stops_at_fault text TooLong at s = absurd (never_long text at (entered s refl))
stops_at_fault text Byte at s = faults_first text at s
stops_at_fault text Size at s = large_size text at (entered s refl)
stops_at_fault text Outside at s = run_outside text at (entered s refl)
stops_at_fault text Ended at s = ends_early text at s (entered s refl)
