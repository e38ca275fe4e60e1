-- What is told item by item is what a reader hands out to its end, and that are the parts of the text.
use Rattle.std.proofs.Common.{◌≡◌, ℕ, zero, suc, ◌+◌, ◌<◌, ◌≤◌, List, [], ◌∷◌, ◌++◌, length, Ok, Err, Option, Result, nat_le, sym, refl, ap, ◌∙◌, subst, inl, inr, ⊎_elim, arith, append-nil, append_assoc, length-append, add-one}
use Rattle.std.proofs.lemmas.Bool.{cases_lt, cond-true, cond-false, le-leb, lt-leb}
use Rattle.std.specs.List.{flat_map}
use Rattle.lines.specs.Lines.{first_line}
use Rattle.rle.specs.declared.fault.ReadCause.{ReadCause}
use Rattle.rle.specs.declared.fault.ReadCause.TheVariants.{TooLong}
use Rattle.rle.specs.declared.fault.ReadFault.{ReadFault}
use Rattle.rle.specs.declared.mark.Run.{Run}
use Rattle.rle.specs.declared.phase.Cursor.{Cursor}
use Rattle.rle.specs.declared.phase.Phase.{Phase}
use Rattle.rle.specs.declared.phase.Phase.TheVariants.{Opening, Body, Failed}
use Rattle.rle.specs.Items.{Head, Part, Taken, remark, header, run, ending, Finishes, ends, goes, Stops, here, later, run_items, items_of, item_start, read_item, body_item, opening_item, top_left}
use Rattle.rle.specs.Laws.{Readable, Given, Placed}
use Rattle.rle.proofs.Places.{fault_placed}
use Rattle.rle.specs.Forms.{BodyForm, HeadForm, RemarkForms, ended}
use Rattle.rle.specs.Runs.{Inside, letter_of}
use Rattle.rle.specs.Scans.{Scan, good, bad, past, space}
use Rattle.rle.specs.Spots.{Spot, corner, spot_before, spot_past}
use Rattle.rle.proofs.Bodies.{BodyView, ran, over, ran_on, misplaced, faulty, body_view}
use Rattle.rle.proofs.Openings.{open_view, remark_reads}
use Rattle.rle.proofs.Pasts.{past_past, past_split}
use Rattle.rle.proofs.Patterns.{took_rest}
use Rattle.rle.proofs.Reading.{is_opened, read_opening, took_part, took_phase, reads_every, reads_only}
use Rattle.reader.specs.Calls.{answer_of, fault_at, stand_after, readable, first_phase}
use Rattle.reader.specs.Shown.{told_part}
use Rattle.patterns.specs.Told.{Told, told, told_on, unless_fault, blank}
use Rattle.patterns.specs.Laws.{Faulty, FirstAt, TellingLaws, told_form}
use Rattle.patterns.proofs.Faults.{first_stops, read_no_fault, stops_first}
use Rattle.patterns.proofs.Placing.{told_of, heading_item_reads, name_spot, head_spot, placed_spot}

-- what is told are these sizes, this rule and these runs
pub record Parts (t : Told) (w h : ℕ) (rule : Option (List ℕ)) (runs : List Run) : Type 0 where
  pub width : t.width ≡ w
  pub height : t.height ≡ h
  pub named : t.rule ≡ rule
  pub marked : t.runs ≡ runs

-- an item of the body that is read takes a byte
shorter_body : (c : Cursor) (t : List ℕ) (x : Part) (q : Phase) (rest : List ℕ) (s : Scan Taken) → BodyView c t s → s ≡ good (record { part = x; phase = q }) rest → (x ≡ ending → ⊥) → length rest < length t
shorter_body c t x q rest s (over v e) f other = absurd (other (sym (took_part (record { part = ending; phase = Body c }) (record { part = x; phase = q }) t rest f)))
shorter_body c t x q rest s (ran_on n m u v h e g) f other =
    let left : v ≡ rest = cc in
    let long = ap length e ∙ length-append u (letter_of m ∷ v) in
    omega (arith, long, ap length left)
shorter_body c t x q rest s (misplaced u b r e n v h g) f other = cc
shorter_body c t x q rest s (faulty cause v h) f other = cc

-- and so does every item but the end
shorter : (p : Phase) (t : List ℕ) (x : Part) (q : Phase) (rest : List ℕ) → read_item p t ≡ good (record { part = x; phase = q }) rest → (x ≡ ending → ⊥) → length rest < length t
unfolding read_item
shorter Opening t x q rest e other =
    ⊎_elim
    (λ p. let long = ap length p.2 ∙ length-append p.0 (10 ∷ rest) in omega (arith, long))
    (λ p. let long = ap length p.3 ∙ length-append p.1 (10 ∷ rest) in omega (arith, long))
    (is_opened t x q rest (opening_item t) (open_view t) e)
shorter (Body c) t x q rest e other =
    let here = shorter_body c (past space t) x q rest (body_item c (past space t)) (body_view c (past space t)) e other in
    let split = past_split space t in
    let long = ap length split.2 ∙ length-append split.0 (past space t) in
    omega (arith, here, long)
shorter (Failed cause) t x q rest e other = cc

-- one item that is read is one that is told
step : (n : ℕ) (text : List ℕ) (s : Told) (p : Phase) (t : List ℕ) (x : Part) (q : Phase) (rest : List ℕ) → read_item p t ≡ good (record { part = x; phase = q }) rest → told_on (suc n) text (record { rest = t; phase = p }) s ≡ unless_fault s (told_on n text (record { rest = rest; phase = q })) (Ok (record { spot = spot_before text (item_start p t); item = told_part text x }))
unfolding told_on
step n text s p t x q rest e = ap (λ z. unless_fault s (told_on n text (stand_after z)) (answer_of text (item_start p t) z)) e

-- with some runs more
with_runs : Told → List Run → Told
with_runs s runs = record { width = s.width; height = s.height; rule = s.rule; line = s.line; column = s.column; runs = s.runs ++ runs }

with_marks : Told → List Run → Told
with_marks s runs = record { width = s.width; height = s.height; rule = s.rule; line = s.line; column = s.column; runs = runs }

-- the runs of a body that is read to its end
body_told : {p : Phase} {t : List ℕ} {xs : List Part} → Finishes p t xs → (n : ℕ) (text : List ℕ) (s : Told) (runs : List Run) → xs ≡ run_items runs → length t < n → told_on n text (record { rest = t; phase = p }) s ≡ Ok (with_runs s runs)
unfolding with_runs with_marks
body_told {t = t} f zero text s runs e h = absurd (omega arith)
body_told {p = p} {t = t} (ends q rest e) (suc n) text s [] is h = step n text s p t ending q rest e ∙ ap (λ l. Ok (with_marks s l)) (sym (append-nil s.runs))
body_told (ends q rest e) (suc n) text s (r ∷ rs) is h = cc
body_told (goes {x = x} q rest e other more) (suc n) text s [] is h = (let same : x ≡ ending = cc in absurd (other same))
body_told {p = p} {t = t} (goes {x = x} {xs = xs} q rest e other more) (suc n) text s (r ∷ rs) is h =
    let same : x ≡ run r = cc in
    let left : xs ≡ run_items rs = cc in
    let next = told_on n text (record { rest = rest; phase = q }) in
    let spot = spot_before text (item_start p t) in
    step n text s p t x q rest e
    ∙ ap (λ y. unless_fault s next (Ok (record { spot = spot; item = told_part text y }))) same
    ∙ body_told more n text (with_marks s (s.runs ++ r ∷ [])) rs left (omega (arith, shorter p t x q rest e other, h))
    ∙ ap (λ l. Ok (with_marks s l)) (append_assoc s.runs (r ∷ []) rs)

-- the remarks, the heading and the runs of a text that is read to its end
text_told : {p : Phase} {t : List ℕ} {xs : List Part} → Finishes p t xs → (n : ℕ) (text : List ℕ) (s : Told) (remarks : List (List ℕ)) (line : List ℕ) (head : Head) (runs : List Run) → xs ≡ items_of remarks line head runs → length t < n → (r : Told) × (told_on n text (record { rest = t; phase = p }) s ≡ Ok r) × Parts r head.width head.height head.rule (s.runs ++ runs)
unfolding with_runs
text_told f zero text s remarks line head runs is h = absurd (omega arith)
text_told (ends q rest e) (suc n) text s [] line head runs is h = cc
text_told (ends q rest e) (suc n) text s (m ∷ ms) line head runs is h = cc
text_told {p = p} {t = t} (goes {x = x} {xs = xs} q rest e other more) (suc n) text s [] line head runs is h =
    let same : x ≡ header line head = cc in
    let left : xs ≡ run_items runs = cc in
    let next = told_on n text (record { rest = rest; phase = q }) in
    let spot = spot_before text (item_start p t) in
    let now : Told = record { width = head.width; height = head.height; rule = head.rule; line = spot.line; column = (spot_before text head.named).column; runs = s.runs } in (
      with_runs now runs,
      step n text s p t x q rest e
          ∙ ap (λ y. unless_fault s next (Ok (record { spot = spot; item = told_part text y }))) same
          ∙ body_told more n text now runs left (omega (arith, shorter p t x q rest e other, h)),
      record { width = refl; height = refl; named = refl; marked = refl },
    )
text_told {p = p} {t = t} (goes {x = x} {xs = xs} q rest e other more) (suc n) text s (m ∷ ms) line head runs is h =
    let same : x ≡ remark m = cc in
    let left : xs ≡ items_of ms line head runs = cc in
    let next = told_on n text (record { rest = rest; phase = q }) in
    let spot = spot_before text (item_start p t) in
    let later = text_told more n text s ms line head runs left (omega (arith, shorter p t x q rest e other, h)) in (
      later.0,
      step n text s p t x q rest e
          ∙ ap (λ y. unless_fault s next (Ok (record { spot = spot; item = told_part text y }))) same
          ∙ later.1,
      later.2,
    )

-- what is told is what a reader hands out to the end
part_finishes : (n : ℕ) (text : List ℕ) (p : Phase) (t : List ℕ) (s r : Told) → length t < suc n → ((p : Phase) (t : List ℕ) (s : Told) → length t < n → told_on n text (record { rest = t; phase = p }) s ≡ Ok r → (xs : List Part) × Finishes p t xs) → (x : Part) (q : Phase) (rest : List ℕ) → read_item p t ≡ good (record { part = x; phase = q }) rest → told_on (suc n) text (record { rest = t; phase = p }) s ≡ Ok r → (xs : List Part) × Finishes p t xs
part_finishes n text p t s r h ind ending q rest e is = (ending ∷ [], ends q rest e)
part_finishes n text p t s r h ind (remark l) q rest e is =
    let other : remark l ≡ ending → ⊥ = λ z. cc in
    let more = ind q rest s (omega (arith, shorter p t (remark l) q rest e other, h)) (sym (step n text s p t (remark l) q rest e) ∙ is) in
    (remark l ∷ more.0, goes q rest e other more.1)
part_finishes n text p t s r h ind (header l head) q rest e is =
    let other : header l head ≡ ending → ⊥ = λ z. cc in
    let more = ind q rest _ (omega (arith, shorter p t (header l head) q rest e other, h)) (sym (step n text s p t (header l head) q rest e) ∙ is) in
    (header l head ∷ more.0, goes q rest e other more.1)
part_finishes n text p t s r h ind (run m) q rest e is =
    let other : run m ≡ ending → ⊥ = λ z. cc in
    let more = ind q rest _ (omega (arith, shorter p t (run m) q rest e other, h)) (sym (step n text s p t (run m) q rest e) ∙ is) in
    (run m ∷ more.0, goes q rest e other more.1)

-- at a fault the fault is told, where its bytes start
step_bad : (n : ℕ) (text : List ℕ) (s : Told) (p : Phase) (t : List ℕ) (cause : ReadCause) (at : List ℕ) → read_item p t ≡ bad cause at → told_on (suc n) text (record { rest = t; phase = p }) s ≡ Err (fault_at (spot_before text at) cause)
unfolding told_on
step_bad n text s p t cause at e = ap (λ z. unless_fault s (told_on n text (stand_after z)) (answer_of text (item_start p t) z)) e

no_part : (n : ℕ) (text : List ℕ) (p : Phase) (t : List ℕ) (s r : Told) (cause : ReadCause) (at : List ℕ) → read_item p t ≡ bad cause at → told_on (suc n) text (record { rest = t; phase = p }) s ≡ Ok r → ⊥
no_part n text p t s r cause at e is =
    let both : ◌≡◌ {A = Result Told ReadFault} (Err (fault_at (spot_before text at) cause)) (Ok r) = sym (step_bad n text s p t cause at e) ∙ is in
    cc

scan_finishes : (n : ℕ) (text : List ℕ) (p : Phase) (t : List ℕ) (s r : Told) → length t < suc n → ((p : Phase) (t : List ℕ) (s : Told) → length t < n → told_on n text (record { rest = t; phase = p }) s ≡ Ok r → (xs : List Part) × Finishes p t xs) → (z : Scan Taken) → read_item p t ≡ z → told_on (suc n) text (record { rest = t; phase = p }) s ≡ Ok r → (xs : List Part) × Finishes p t xs
scan_finishes n text p t s r h ind (good taken rest) e is = part_finishes n text p t s r h ind taken.part taken.phase rest e is
scan_finishes n text p t s r h ind (bad cause at) e is = absurd (no_part n text p t s r cause at e is)

finishes_told : (n : ℕ) (text : List ℕ) (p : Phase) (t : List ℕ) (s r : Told) → length t < n → told_on n text (record { rest = t; phase = p }) s ≡ Ok r → (xs : List Part) × Finishes p t xs
finishes_told zero text p t s r h is = absurd (omega arith)
finishes_told (suc n) text p t s r h is = scan_finishes n text p t s r h (λ p' t' s'. finishes_told n text p' t' s' r) (read_item p t) refl is

-- a text that is not too long is read from its first byte on
opened : (text : List ℕ) → length text ≤ 65536 → told text ≡ told_on (length text + 1) text (record { rest = text; phase = Opening }) blank
opened text h =
    let all : readable text ≡ text = cond-true (nat_le (length text) 65536) text [] (le-leb (length text) 65536 h) in
    let begin : first_phase text ≡ Opening = cond-true (nat_le (length text) 65536) Opening (Failed TooLong) (le-leb (length text) 65536 h) in
    (λ i. told_on (length text + 1) (all i) (record { rest = all i; phase = begin i }) blank)

-- one that is too long is at fault before its first byte
told_too_long : (text : List ℕ) → 65536 < length text → told text ≡ Err (fault_at corner TooLong)
unfolding read_item told_on spot_past
told_too_long text h =
    let none : readable text ≡ [] = cond-false (nat_le (length text) 65536) text [] (lt-leb (length text) 65536 h) in
    let begin : first_phase text ≡ Failed TooLong = cond-false (nat_le (length text) 65536) Opening (Failed TooLong) (lt-leb (length text) 65536 h) in
    (λ i. told_on (add-one (length text) i) (none i) (record { rest = none i; phase = begin i }) blank)

too_long : (text : List ℕ) (t : Told) → 65536 < length text → told text ≡ Ok t → ⊥
too_long text t h is = let both : ◌≡◌ {A = Result Told ReadFault} (Err (fault_at corner TooLong)) (Ok t) = sym (told_too_long text h) ∙ is in cc

-- what is told of a text that is read to its end
pub whole : (text : List ℕ) (items : List Part) (remarks : List (List ℕ)) (w h : ℕ) (rule : Option (List ℕ)) (runs : List Run) → length text ≤ 65536 → Finishes Opening text items → Given remarks w h rule runs items → (t : Told) × (told text ≡ Ok t) × Parts t w h rule runs
whole text items remarks w h rule runs short f g =
    let all = text_told f (length text + 1) text blank remarks g.line g.head runs g.items_are (omega arith) in
    let parts = all.2 in
    (all.0, opened text short ∙ all.1, record { width = parts.width ∙ g.width; height = parts.height ∙ g.height; named = parts.named ∙ g.named; marked = parts.marked })

-- the first of the items that are handed out
first_part : {p : Phase} {t : List ℕ} {xs : List Part} → Finishes p t xs → (x : Part) (q : Phase) (rest : List ℕ) → read_item p t ≡ good (record { part = x; phase = q }) rest → (x ≡ ending → ⊥) → (ys : List Part) × Finishes q rest ys × (xs ≡ x ∷ ys)
first_part (ends r left e) x q rest read other =
    let both : good (record { part = ending; phase = r }) left ≡ good (record { part = x; phase = q }) rest = sym e ∙ read in
    absurd (other (sym (took_part (record { part = ending; phase = r }) (record { part = x; phase = q }) left rest both)))
first_part (goes {x = y} {xs = ys} r left e last more) x q rest read other =
    let both : ◌≡◌ {A = Scan Taken} (good (record { part = y; phase = r }) left) (good (record { part = x; phase = q }) rest) = sym e ∙ read in
    let part : y ≡ x = took_part (record { part = y; phase = r }) (record { part = x; phase = q }) left rest both in
    let phase : r ≡ q = took_phase (record { part = y; phase = r }) (record { part = x; phase = q }) left rest both in
    let same : left ≡ rest = took_rest (record { part = y; phase = r }) (record { part = x; phase = q }) left rest both in
    (ys, subst (λ z. Finishes z rest ys) phase (subst (λ z. Finishes r z ys) same more), ap (λ z. z ∷ ys) part)

-- what is told from the remarks on
abbrev from_form : (w h : ℕ) (rule : Option (List ℕ)) (runs : List Run) (line body text : List ℕ) → HeadForm w h rule line → List Run → Told
from_form w h rule runs line body text f before = record { width = w; height = h; rule = rule; line = (spot_before text (line ++ (10 ∷ body))).line; column = (spot_before text (told_of w h rule line body f).named).column; runs = before ++ runs }

form_told : (remarks : List (List ℕ)) (w h : ℕ) (rule : Option (List ℕ)) (runs : List Run) (line body : List ℕ) (f : HeadForm w h rule line) → RemarkForms remarks → BodyForm runs body → w ≤ 32 → h ≤ 32 → Inside w h 0 0 runs → (n : ℕ) (text : List ℕ) (s : Told) → length (flat_map ended remarks ++ (line ++ (10 ∷ body))) < n → told_on n text (record { rest = flat_map ended remarks ++ (line ++ (10 ∷ body)); phase = Opening }) s ≡ Ok (from_form w h rule runs line body text f s.runs)
unfolding with_runs
form_told remarks w h rule runs line body f rs g narrow low inside zero text s less = absurd (omega arith)
form_told [] w h rule runs line body f rs g narrow low inside (suc n) text s less =
    let t = line ++ (10 ∷ body) in
    let head = told_of w h rule line body f in
    let x = header (first_line t) head in
    let q = Body (top_left w h) in
    let e : read_item Opening t ≡ good (record { part = x; phase = q }) body = heading_item_reads w h rule line body f narrow low in
    let other : x ≡ ending → ⊥ = λ z. cc in
    let r : Readable [] w h rule runs t = record { form = record { line = line; body = body; remarked = tt; headed = f; bodied = g; whole = refl }; narrow = narrow; low = low; inside = inside } in
    let read = reads_every [] w h rule runs t r in
    let first = first_part read.1 x q body e other in
    let items : x ∷ first.0 ≡ items_of [] read.2.line read.2.head runs = sym first.2 ∙ read.2.items_are in
    let left : first.0 ≡ run_items runs = cc in
    let spot = spot_before text t in
    let now : Told = record { width = w; height = h; rule = rule; line = spot.line; column = (spot_before text head.named).column; runs = s.runs } in
    step n text s Opening t x q body e ∙ body_told first.1 n text now runs left (omega (arith, shorter Opening t x q body e other, less))
form_told (m ∷ ms) w h rule runs line body f rs g narrow low inside (suc n) text s less =
    let rest = flat_map ended ms ++ (line ++ (10 ∷ body)) in
    let t = (ended m ++ flat_map ended ms) ++ (line ++ (10 ∷ body)) in
    let whole : t ≡ m ++ (10 ∷ rest) = append_assoc (ended m) (flat_map ended ms) (line ++ (10 ∷ body)) ∙ append_assoc m (10 ∷ []) rest in
    let e : read_item Opening t ≡ good (record { part = remark m; phase = Opening }) rest = read_opening t ∙ ap opening_item whole ∙ remark_reads m rest rs.0 in
    let other : remark m ≡ ending → ⊥ = λ z. cc in
    step n text s Opening t (remark m) Opening rest e ∙ form_told ms w h rule runs line body f rs.1 g narrow low inside n text s (omega (arith, shorter Opening t (remark m) Opening rest e other, less))

every_told : (remarks : List (List ℕ)) (w h : ℕ) (rule : Option (List ℕ)) (runs : List Run) (text : List ℕ) → length text ≤ 65536 → (r : Readable remarks w h rule runs text) → told text ≡ Ok (told_form remarks w h rule runs text r)
every_told remarks w h rule runs text short r =
    let f = r.form in
    let rest = f.line ++ (10 ∷ f.body) in
    let all = flat_map ended remarks ++ rest in
    let line = head_spot remarks rest text f.remarked f.whole in
    let column = ap (λ (z : Spot). z.column) (name_spot remarks w h rule f.line f.body text f.headed f.remarked f.whole) in
    let less : length all < length text + 1 = omega (arith, ap length f.whole) in
    opened text short
    ∙ ap (λ z. told_on (length text + 1) text (record { rest = z; phase = Opening }) blank) f.whole
    ∙ form_told remarks w h rule runs f.line f.body f.headed f.remarked f.bodied r.narrow r.low r.inside (length text + 1) text blank less
    ∙ (λ i. Ok (record { width = w; height = h; rule = rule; line = line i; column = column i; runs = runs }))

only_told : (text : List ℕ) (t : Told) → told text ≡ Ok t → (length text ≤ 65536) × ((remarks : List (List ℕ)) × Readable remarks t.width t.height t.rule t.runs text)
only_told text t is =
    elim (cases_lt (length text) 65537) [
      | inl less ↦
          (let short : length text ≤ 65536 = omega arith in
          let f = finishes_told (length text + 1) text Opening text blank t (omega arith) (sym (opened text short) ∙ is) in
          let r = reads_only text f.0 f.1 in
          let all = whole text f.0 r.0 r.1 r.2 r.3 r.4 short f.1 r.6 in
          let both : ◌≡◌ {A = Result Told ReadFault} (Ok all.0) (Ok t) = sym all.1 ∙ is in
          let same : all.0 ≡ t = cc in
          let parts : Parts t r.1 r.2 r.3 r.4 = subst (λ y. Parts y r.1 r.2 r.3 r.4) same all.2 in
          let P : (ℕ × ℕ × Option (List ℕ) × List Run) → Type 0 = λ y. Readable r.0 y.0 y.1 y.2 y.3 text in
          (short, (r.0, subst P (λ i. (sym parts.width i, sym parts.height i, sym parts.named i, sym parts.marked i)) r.5)))
      | inr more ↦ absurd (too_long text t (omega arith) is)
    ]

-- a reader that stands in a phase before the rest of a text comes to this fault, which stands where the bytes from the fault on start
abbrev FaultAt : List ℕ → Phase → List ℕ → ReadFault → Type 0
FaultAt text p t fault = (at : List ℕ) × Stops p t fault.cause at × (fault ≡ fault_at (spot_before text at) fault.cause)

-- what is told as a fault is the first of the items, at its place
part_stops : (n : ℕ) (text : List ℕ) (p : Phase) (t : List ℕ) (s : Told) (fault : ReadFault) → length t < suc n → ((p : Phase) (t : List ℕ) (s : Told) → length t < n → told_on n text (record { rest = t; phase = p }) s ≡ Err fault → FaultAt text p t fault) → (x : Part) (q : Phase) (rest : List ℕ) → read_item p t ≡ good (record { part = x; phase = q }) rest → told_on (suc n) text (record { rest = t; phase = p }) s ≡ Err fault → FaultAt text p t fault
part_stops n text p t s fault h ind ending q rest e is = (let both : ◌≡◌ {A = Result Told ReadFault} (Ok s) (Err fault) = sym (step n text s p t ending q rest e) ∙ is in cc)
part_stops n text p t s fault h ind (remark l) q rest e is =
    let other : remark l ≡ ending → ⊥ = λ z. cc in
    let more = ind q rest s (omega (arith, shorter p t (remark l) q rest e other, h)) (sym (step n text s p t (remark l) q rest e) ∙ is) in
    (more.0, later (remark l) q rest e more.1, more.2)
part_stops n text p t s fault h ind (header l head) q rest e is =
    let other : header l head ≡ ending → ⊥ = λ z. cc in
    let more = ind q rest _ (omega (arith, shorter p t (header l head) q rest e other, h)) (sym (step n text s p t (header l head) q rest e) ∙ is) in
    (more.0, later (header l head) q rest e more.1, more.2)
part_stops n text p t s fault h ind (run m) q rest e is =
    let other : run m ≡ ending → ⊥ = λ z. cc in
    let more = ind q rest _ (omega (arith, shorter p t (run m) q rest e other, h)) (sym (step n text s p t (run m) q rest e) ∙ is) in
    (more.0, later (run m) q rest e more.1, more.2)

scan_stops : (n : ℕ) (text : List ℕ) (p : Phase) (t : List ℕ) (s : Told) (fault : ReadFault) → length t < suc n → ((p : Phase) (t : List ℕ) (s : Told) → length t < n → told_on n text (record { rest = t; phase = p }) s ≡ Err fault → FaultAt text p t fault) → (z : Scan Taken) → read_item p t ≡ z → told_on (suc n) text (record { rest = t; phase = p }) s ≡ Err fault → FaultAt text p t fault
scan_stops n text p t s fault h ind (good taken rest) e is = part_stops n text p t s fault h ind taken.part taken.phase rest e is
scan_stops n text p t s fault h ind (bad cause at) e is =
    let both : ◌≡◌ {A = Result Told ReadFault} (Err (fault_at (spot_before text at) cause)) (Err fault) = sym (step_bad n text s p t cause at e) ∙ is in
    let same : fault_at (spot_before text at) cause ≡ fault = cc in
    let which : cause ≡ fault.cause = ap (λ (f : ReadFault). f.cause) same in
    (at, subst (λ k. Stops p t k at) which (here e), sym same ∙ ap (fault_at (spot_before text at)) which)

stops_told : (n : ℕ) (text : List ℕ) (p : Phase) (t : List ℕ) (s : Told) (fault : ReadFault) → length t < n → told_on n text (record { rest = t; phase = p }) s ≡ Err fault → FaultAt text p t fault
stops_told zero text p t s fault h is = absurd (omega arith)
stops_told (suc n) text p t s fault h is = scan_stops n text p t s fault h (λ p' t' s'. stops_told n text p' t' s' fault) (read_item p t) refl is

-- where a fault stands
abbrev spot_as : ReadFault → Spot
spot_as fault = record { line = fault.line; column = fault.column }

-- a fault of a text that is not too long
short_stops : (text : List ℕ) (fault : ReadFault) → length text ≤ 65536 → told text ≡ Err fault → FaultAt text Opening text fault
short_stops text fault short is = stops_told (length text + 1) text Opening text blank fault (omega arith) (sym (opened text short) ∙ is)

faults_told : (text : List ℕ) (fault : ReadFault) → told text ≡ Err fault → Faulty text fault
faults_told text fault is =
    elim (cases_lt (length text) 65537) [
      | inl less ↦
          (let short : length text ≤ 65536 = omega arith in
          let at = short_stops text fault short is in
          let first = stops_first text fault.cause at.0 short at.1 in
          let spot : spot_before text at.0 ≡ record { line = fault.line; column = fault.column } = ap (λ (z : ReadFault). spot_as z) (sym at.2) in
          inr (short, (at.0, first, subst (Placed text at.0) spot (fault_placed text fault.cause at.0 first.fault))))
      | inr more ↦ inl (omega arith, (let both : ◌≡◌ {A = Result Told ReadFault} (Err (fault_at corner TooLong)) (Err fault) = sym (told_too_long text (omega arith)) ∙ is in cc))
    ]

-- once the end is read it is read again
still_body : (c : Cursor) (t : List ℕ) (q : Phase) (rest : List ℕ) (s : Scan Taken) → BodyView c t s → s ≡ good (record { part = ending; phase = q }) rest → (Body c ≡ q) × (t ≡ rest)
still_body c t q rest s (over v e) f = (took_phase (record { part = ending; phase = Body c }) (record { part = ending; phase = q }) t rest f, cc)
still_body c t q rest s (ran_on n m u v h e g) f = (let same : run (record { count = n; mark = m }) ≡ ending = took_part (ran c n m) (record { part = ending; phase = q }) v rest f in cc)
still_body c t q rest s (misplaced u b r e n v h g) f = cc
still_body c t q rest s (faulty cause v h) f = cc

still : (p : Phase) (t : List ℕ) (q : Phase) (rest : List ℕ) → read_item p t ≡ good (record { part = ending; phase = q }) rest → read_item q rest ≡ good (record { part = ending; phase = q }) rest
unfolding read_item
still Opening t q rest e = ⊎_elim (λ p. cc) (λ p. cc) (is_opened t ending q rest (opening_item t) (open_view t) e)
still (Body c) t q rest e =
    let same = still_body c (past space t) q rest (body_item c (past space t)) (body_view c (past space t)) e in
    ap (λ z. read_item z rest) (sym same.0) ∙ ap (λ z. body_item c (past space z)) (sym same.1) ∙ ap (body_item c) (past_past space t) ∙ e
still (Failed cause) t q rest e = cc

-- so that no fault comes after it
never : {p : Phase} {t : List ℕ} {cause : ReadCause} {at : List ℕ} → Stops p t cause at → read_item p t ≡ good (record { part = ending; phase = p }) t → ⊥
never {p = p} {t = t} {cause = cause} {at = at} (here e) is =
    let both : ◌≡◌ {A = Scan Taken} (bad cause at) (good (record { part = ending; phase = p }) t) = sym e ∙ is in cc
never {p = p} {t = t} (later x q rest e more) is =
    let both : ◌≡◌ {A = Scan Taken} (good (record { part = ending; phase = p }) t) (good (record { part = x; phase = q }) rest) = sym is ∙ e in
    let phase : p ≡ q = took_phase (record { part = ending; phase = p }) (record { part = x; phase = q }) t rest both in
    let left : t ≡ rest = took_rest (record { part = ending; phase = p }) (record { part = x; phase = q }) t rest both in
    let P : Phase → List ℕ → Type 0 = λ z l. read_item z l ≡ good (record { part = ending; phase = z }) l in
    never more (subst (λ z. P z rest) phase (subst (P p) left is))

-- a fault that a reader comes to is told
stops_back : {p : Phase} {t : List ℕ} {cause : ReadCause} {at : List ℕ} → Stops p t cause at → (n : ℕ) (text : List ℕ) (s : Told) → length t < n → told_on n text (record { rest = t; phase = p }) s ≡ Err (fault_at (spot_before text at) cause)
stops_back z zero text s h = absurd (omega arith)
stops_back {p = p} {t = t} {cause = cause} {at = at} (here e) (suc n) text s h = step_bad n text s p t cause at e
stops_back {p = p} {t = t} (later ending q rest e more) (suc n) text s h = absurd (never more (still p t q rest e))
stops_back {p = p} {t = t} (later (remark l) q rest e more) (suc n) text s h =
    let other : remark l ≡ ending → ⊥ = λ z. cc in
    step n text s p t (remark l) q rest e ∙ stops_back {p = q} {t = rest} more n text s (omega (arith, shorter p t (remark l) q rest e other, h))
stops_back {p = p} {t = t} (later (header l head) q rest e more) (suc n) text s h =
    let other : header l head ≡ ending → ⊥ = λ z. cc in
    step n text s p t (header l head) q rest e ∙ stops_back {p = q} {t = rest} more n text _ (omega (arith, shorter p t (header l head) q rest e other, h))
stops_back {p = p} {t = t} (later (run m) q rest e more) (suc n) text s h =
    let other : run m ≡ ending → ⊥ = λ z. cc in
    step n text s p t (run m) q rest e ∙ stops_back {p = q} {t = rest} more n text _ (omega (arith, shorter p t (run m) q rest e other, h))

told_back : (text : List ℕ) (cause : ReadCause) (at : List ℕ) → length text ≤ 65536 → Stops Opening text cause at → told text ≡ Err (fault_at (spot_before text at) cause)
told_back text cause at short s = opened text short ∙ stops_back s (length text + 1) text blank (omega arith)

first_told : (text : List ℕ) (fault : ReadFault) (at : List ℕ) → length text ≤ 65536 → FirstAt text fault.cause at → Placed text at (spot_as fault) → (z : Result Told ReadFault) → told text ≡ z → told text ≡ Err fault
first_told text fault at short first placed (Ok t) is =
    let r = (only_told text t is).1 in
    let form = r.1.form in
    let never : (c : ReadCause) (a : List ℕ) → Stops Opening text c a → ⊥ = λ c a s.
    let both : ◌≡◌ {A = Result Told ReadFault} (Err (fault_at (spot_before text a) c)) (Ok t) = sym (told_back text c a short s) ∙ is in
    cc in
    absurd (read_no_fault text fault.cause at short (r.0, t.width, t.height, t.rule, t.runs, form) never first.fault)
first_told text fault at short first placed (Err other) is =
    let there = short_stops text other short is in
    let s = first_stops text fault.cause other.cause at there.0 short first there.1 in
    told_back text fault.cause at short s ∙ ap (λ z. Err (fault_at z fault.cause)) (placed_spot text at (spot_as fault) placed)

one_fault : (text : List ℕ) (fault : ReadFault) → Faulty text fault → told text ≡ Err fault
one_fault text fault (inl long) = told_too_long text long.0 ∙ ap Err (sym long.1)
one_fault text fault (inr (short, (at, first, placed))) = first_told text fault at short first placed (told text) refl

pub telling_right : TellingLaws
telling_right = record { every = every_told; only = only_told; faulty = faults_told; one_fault = one_fault }
