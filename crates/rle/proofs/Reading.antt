-- Which texts are read to their end: those of the grammar, and they give their parts.
use Rattle.std.proofs.Common.{◌≡◌, ℕ, ◌≤◌, true, ◌⊎◌, List, [], ◌∷◌, ◌++◌, Option, sym, refl, ap, ◌∙◌, subst, inl, inr, ⊎_elim}
use Rattle.std.specs.List.{flat_map}
use Rattle.std.proofs.lemmas.List.{append_assoc}
use Rattle.lines.specs.Lines.{first_line}
use Rattle.rle.specs.declared.mark.Mark.{Mark}
use Rattle.rle.specs.declared.mark.Run.{Run}
use Rattle.rle.specs.declared.phase.Cursor.{Cursor}
use Rattle.rle.specs.declared.phase.Phase.{Phase}
use Rattle.rle.specs.declared.phase.Phase.TheVariants.{Opening, Body}
use Rattle.rle.specs.Forms.{Each, CountForm, BodyForm, HeadForm, RemarkForm, RemarkForms, ended}
use Rattle.rle.specs.Items.{Head, Part, Taken, remark, header, run, ending, Finishes, ends, goes, run_items, top_left, body_item, opening_item, read_item}
use Rattle.rle.specs.Laws.{Readable, Given, ReadsEvery, ReadsOnly}
use Rattle.rle.specs.Runs.{Inside, letter_of}
use Rattle.rle.specs.Scans.{Scan, good, past, space}
use Rattle.rle.proofs.Bodies.{onward, fits, ran, run_reads, body_reads, BodyView, over, ran_on, misplaced, faulty, body_view}
use Rattle.rle.proofs.Openings.{took_remark, took_heading, OpenView, remarked, headed, open_view, remark_reads, head_reads}
use Rattle.rle.proofs.Openings as opens
use Rattle.rle.proofs.Pasts.{past_split, past_over, past_stop}

-- what is read in each phase
pub read_body : (c : Cursor) (t : List ℕ) → read_item (Body c) t ≡ body_item c (past space t)
unfolding read_item
read_body c t = refl

pub read_opening : (t : List ℕ) → read_item Opening t ≡ opening_item t
unfolding read_item
read_opening t = refl

-- what parts runs is passed before a run and before the end
pub past_run : (n : ℕ) (m : Mark) (s u v : List ℕ) → Each space s → CountForm n u → past space (s ++ (u ++ (letter_of m ∷ v))) ≡ u ++ (letter_of m ∷ v)
past_run n m s u v h form =
    let start = (run_reads n u m v form).0 in
    past_over space s (u ++ (letter_of m ∷ v)) h ∙ ap (past space) start.whole ∙ past_stop space start.byte start.rest start.no_space ∙ sym start.whole

pub past_over_end : (s v : List ℕ) → Each space s → past space (s ++ (33 ∷ v)) ≡ 33 ∷ v
past_over_end s v h = past_over space s (33 ∷ v) h ∙ past_stop space 33 v refl

-- the runs of a body are handed out, and then the end
body_every : (runs : List Run) (c : Cursor) (t : List ℕ) → BodyForm runs t → Inside c.width c.height c.column c.row runs → Finishes (Body c) t (run_items runs)
body_every [] c t f h =
    ends (Body c) (33 ∷ f.1) (read_body c t ∙ ap (body_item c) (ap (past space) f.3 ∙ past_over_end f.0 f.1 f.2))
body_every (r ∷ rs) c t f h =
    goes (Body (onward c r.count r.mark)) f.2
    (read_body c t
    ∙ ap (body_item c) (ap (past space) f.6 ∙ past_run r.count r.mark f.0 f.1 f.2 f.3 f.4)
    ∙ body_reads c r.count f.1 r.mark f.2 f.4 h.0)
    (λ z. cc)
    (body_every rs (onward c r.count r.mark) f.2 f.5 h.1)

-- a heading and its body
head_every : (w h : ℕ) (rule : Option (List ℕ)) (runs : List Run) (line body : List ℕ) → HeadForm w h rule line → BodyForm runs body → w ≤ 32 → h ≤ 32 → Inside w h 0 0 runs → (items : List Part) × Finishes Opening (line ++ (10 ∷ body)) items × Given [] w h rule runs items
head_every w h rule runs line body f g narrow low inside =
    let t = line ++ (10 ∷ body) in
    ⊎_elim
    (λ p.
    let head = p.2 in
    let first = first_line t in
    let at : Inside head.width head.height 0 0 runs = subst (λ x. Inside x head.height 0 0 runs) (sym p.4) (subst (λ x. Inside w x 0 0 runs) (sym p.5) inside) in (
      header first head ∷ run_items runs,
      goes (Body (top_left head.width head.height)) body (read_opening t ∙ p.3) (λ z. cc) (body_every runs (top_left head.width head.height) body g at),
      record { line = first; head = head; width = p.4; height = p.5; named = p.6; items_are = refl },
    ))
    (λ p. absurd (p.2 narrow low))
    (head_reads w h rule line body f)

-- remarks before them
text_every : (remarks : List (List ℕ)) (w h : ℕ) (rule : Option (List ℕ)) (runs : List Run) (line body : List ℕ) → RemarkForms remarks → HeadForm w h rule line → BodyForm runs body → w ≤ 32 → h ≤ 32 → Inside w h 0 0 runs → (items : List Part) × Finishes Opening (flat_map ended remarks ++ (line ++ (10 ∷ body))) items × Given remarks w h rule runs items
text_every [] w h rule runs line body rs f g narrow low inside = head_every w h rule runs line body f g narrow low inside
text_every (r ∷ remarks) w h rule runs line body rs f g narrow low inside =
    let rest = flat_map ended remarks ++ (line ++ (10 ∷ body)) in
    let whole : (ended r ++ flat_map ended remarks) ++ (line ++ (10 ∷ body)) ≡ r ++ (10 ∷ rest) = append_assoc (ended r) (flat_map ended remarks) (line ++ (10 ∷ body)) ∙ append_assoc r (10 ∷ []) rest in
    let more = text_every remarks w h rule runs line body rs.1 f g narrow low inside in
    let given = more.2 in (
      remark r ∷ more.0,
      goes Opening rest (read_opening _ ∙ ap opening_item whole ∙ remark_reads r rest rs.0) (λ z. cc) more.1,
      record { line = given.line; head = given.head; width = given.width; height = given.height; named = given.named; items_are = ap (λ x. remark r ∷ x) given.items_are },
    )

pub reads_every : ReadsEvery
reads_every remarks w h rule runs text r =
    let f = r.form in
    let all = text_every remarks w h rule runs f.line f.body f.remarked f.headed f.bodied r.narrow r.low r.inside in (
      all.0,
      subst (λ x. Finishes Opening x all.0) (sym f.whole) all.1,
      all.2,
    )

-- two items that are one have one part, one phase and one rest
pub took_part : (a b : Taken) (v w : List ℕ) → good a v ≡ good b w → a.part ≡ b.part
took_part a b v w e = let same : a ≡ b = cc in ap (λ y. y.part) same

pub took_phase : (a b : Taken) (v w : List ℕ) → good a v ≡ good b w → a.phase ≡ b.phase
took_phase a b v w e = let same : a ≡ b = cc in ap (λ y. y.phase) same

-- an item of the body that is the end, or another
is_over : (c : Cursor) (t : List ℕ) (q : Phase) (rest : List ℕ) (s : Scan Taken) → BodyView c t s → s ≡ good (record { part = ending; phase = q }) rest → (v : List ℕ) × (t ≡ 33 ∷ v)
is_over c t q rest s (over v e) f = (v, e)
is_over c t q rest s (ran_on n m u v h e g) f = let same : run (record { count = n; mark = m }) ≡ ending = took_part (ran c n m) (record { part = ending; phase = q }) v rest f in cc
is_over c t q rest s (misplaced u b r e n v h g) f = cc
is_over c t q rest s (faulty cause v h) f = cc

abbrev RanOn : Cursor → List ℕ → Part → Phase → List ℕ → Type 0
RanOn c t x q rest = (n : ℕ) × (m : Mark) × (u : List ℕ) × CountForm n u × (t ≡ u ++ (letter_of m ∷ rest)) × (fits c n m ≡ true) × (x ≡ run (record { count = n; mark = m })) × (q ≡ Body (onward c n m))

is_run : (c : Cursor) (t : List ℕ) (x : Part) (q : Phase) (rest : List ℕ) (s : Scan Taken) → BodyView c t s → s ≡ good (record { part = x; phase = q }) rest → (x ≡ ending → ⊥) → RanOn c t x q rest
is_run c t x q rest s (over v e) f other = absurd (other (sym (took_part (record { part = ending; phase = Body c }) (record { part = x; phase = q }) t rest f)))
is_run c t x q rest s (ran_on n m u v h e g) f other =
    let left : v ≡ rest = cc in
    let taken : Taken = record { part = x; phase = q } in
    (n, m, u, h, e ∙ ap (λ y. u ++ (letter_of m ∷ y)) left, g, sym (took_part (ran c n m) taken v rest f), sym (took_phase (ran c n m) taken v rest f))
is_run c t x q rest s (misplaced u b r e n v h g) f other = cc
is_run c t x q rest s (faulty cause v h) f other = cc

-- a body that is read to its end is one of runs that lie in the box
body_only : {p : Phase} {t : List ℕ} {xs : List Part} → Finishes p t xs → (c : Cursor) → p ≡ Body c → (runs : List Run) × BodyForm runs t × Inside c.width c.height c.column c.row runs × (xs ≡ run_items runs)
body_only {t = t} (ends q rest e) c is =
    let read : body_item c (past space t) ≡ good (record { part = ending; phase = q }) rest = sym (read_body c t) ∙ subst (λ x. read_item x t ≡ good (record { part = ending; phase = q }) rest) is e in
    let here = is_over c (past space t) q rest (body_item c (past space t)) (body_view c (past space t)) read in
    let split = past_split space t in
    ([], (split.0, here.0, split.1, split.2 ∙ ap (λ x. split.0 ++ x) here.1), tt, refl)
body_only {t = t} (goes {x = x} {xs = xs} q rest e other more) c is =
    let read : body_item c (past space t) ≡ good (record { part = x; phase = q }) rest = sym (read_body c t) ∙ subst (λ y. read_item y t ≡ good (record { part = x; phase = q }) rest) is e in
    let here = is_run c (past space t) x q rest (body_item c (past space t)) (body_view c (past space t)) read other in
    let split = past_split space t in
    let next = body_only more (onward c here.0 here.1) here.7 in (
      record { count = here.0; mark = here.1 } ∷ next.0,
      (split.0, here.2, rest, split.1, here.3, next.1, split.2 ∙ ap (λ y. split.0 ++ y) here.4),
      (here.5, next.2),
      ap (λ y. y ∷ xs) here.6 ∙ ap (λ y. run (record { count = here.0; mark = here.1 }) ∷ y) next.3,
    )

-- an item before the body that is read is a remark or the heading
abbrev Opened : List ℕ → Part → Phase → List ℕ → Type 0
Opened t x q rest =
    ((line : List ℕ) × RemarkForm line × (t ≡ line ++ (10 ∷ rest)) × (x ≡ remark line) × (q ≡ Opening))
    ⊎ ((head : Head) × (line : List ℕ) × HeadForm head.width head.height head.rule line × (t ≡ line ++ (10 ∷ rest)) × (head.width ≤ 32) × (head.height ≤ 32) × (x ≡ header (first_line t) head) × (q ≡ Body (top_left head.width head.height)))

pub is_opened : (t : List ℕ) (x : Part) (q : Phase) (rest : List ℕ) (s : Scan Taken) → OpenView t s → s ≡ good (record { part = x; phase = q }) rest → Opened t x q rest
is_opened t x q rest s (remarked line v h e) f =
    let left : v ≡ rest = cc in
    let taken : Taken = record { part = x; phase = q } in
    inl (line, h, e ∙ ap (λ y. line ++ (10 ∷ y)) left, sym (took_part (took_remark line) taken v rest f), sym (took_phase (took_remark line) taken v rest f))
is_opened t x q rest s (headed head line v h e narrow low) f =
    let left : v ≡ rest = cc in
    let taken : Taken = record { part = x; phase = q } in
    let took = took_heading (first_line t) head in
    inr (head, line, h, e ∙ ap (λ y. line ++ (10 ∷ y)) left, narrow, low, sym (took_part took taken v rest f), sym (took_phase took taken v rest f))
is_opened t x q rest s (opens.misplaced u b r e head v h g) f = cc
is_opened t x q rest s (opens.faulty cause v h) f = cc

abbrev Only : List ℕ → List Part → Type 0
Only t xs = (remarks : List (List ℕ)) × (w : ℕ) × (h : ℕ) × (rule : Option (List ℕ)) × (runs : List Run) × Readable remarks w h rule runs t × Given remarks w h rule runs xs

no_end : (t : List ℕ) (q : Phase) (rest : List ℕ) → Opened t ending q rest → ⊥
no_end t q rest (inl p) = cc
no_end t q rest (inr p) = cc

with_remark : (line t rest : List ℕ) (xs : List Part) → RemarkForm line → t ≡ line ++ (10 ∷ rest) → Only rest xs → Only t (remark line ∷ xs)
with_remark line t rest xs h e o =
    let r = o.5 in
    let f = r.form in
    let g = o.6 in (
      line ∷ o.0,
      o.1,
      o.2,
      o.3,
      o.4,
      record {
        form = record {
          line = f.line;
          body = f.body;
          remarked = (h, f.remarked);
          headed = f.headed;
          bodied = f.bodied;
          whole = e ∙ ap (λ y. line ++ (10 ∷ y)) f.whole ∙ sym (append_assoc line (10 ∷ []) (flat_map ended o.0 ++ (f.line ++ (10 ∷ f.body)))) ∙ sym (append_assoc (ended line) (flat_map ended o.0) (f.line ++ (10 ∷ f.body)));
        };
        narrow = r.narrow;
        low = r.low;
        inside = r.inside;
      },
      record { line = g.line; head = g.head; width = g.width; height = g.height; named = g.named; items_are = ap (λ y. remark line ∷ y) g.items_are },
    )

text_only : {p : Phase} {t : List ℕ} {xs : List Part} → Finishes p t xs → p ≡ Opening → Only t xs
text_only {t = t} (ends q rest e) is =
    let read : opening_item t ≡ good (record { part = ending; phase = q }) rest = sym (read_opening t) ∙ subst (λ x. read_item x t ≡ good (record { part = ending; phase = q }) rest) is e in
    absurd (no_end t q rest (is_opened t ending q rest (opening_item t) (open_view t) read))
text_only {t = t} (goes {x = x} {xs = xs} q rest e other more) is =
    let read : opening_item t ≡ good (record { part = x; phase = q }) rest = sym (read_opening t) ∙ subst (λ y. read_item y t ≡ good (record { part = x; phase = q }) rest) is e in
    ⊎_elim
    (λ p. subst (λ y. Only t (y ∷ xs)) (sym p.3) (with_remark p.0 t rest xs p.1 p.2 (text_only more p.4)))
    (λ p.
    let head = p.0 in
    let body = body_only more (top_left head.width head.height) p.7 in
    subst (λ y. Only t (y ∷ xs)) (sym p.6) (
      [],
      head.width,
      head.height,
      head.rule,
      body.0,
      record {
        form = record { line = p.1; body = rest; remarked = tt; headed = p.2; bodied = body.1; whole = p.3 };
        narrow = p.4;
        low = p.5;
        inside = body.2;
      },
      record { line = first_line t; head = head; width = refl; height = refl; named = refl; items_are = ap (λ y. header (first_line t) head ∷ y) body.3 },
    ))
    (is_opened t x q rest (opening_item t) (open_view t) read)

pub reads_only : ReadsOnly
reads_only text items f = text_only f refl
