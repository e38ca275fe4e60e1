-- A byte out of place is the first that no text of the grammar has there.
use Rattle.std.proofs.Common.{◌≡◌, ℕ, ◌≤◌, true, List, [], ◌∷◌, ◌++◌, Option, sym, refl, ap, ◌∙◌, subst, ⊎_elim}
use Rattle.std.specs.List.{flat_map}
use Rattle.std.proofs.lemmas.List.{append_assoc}
use Rattle.std.proofs.lemmas.Bool.{cases_Bool}
use Rattle.lines.specs.Lines.{first_line}
use Rattle.rle.specs.declared.fault.ReadCause.{ReadCause}
use Rattle.rle.specs.declared.fault.ReadCause.TheVariants.{Byte, Size, Outside}
use Rattle.rle.specs.declared.mark.Mark.{Mark}
use Rattle.rle.specs.declared.mark.Mark.TheVariants.{Off}
use Rattle.rle.specs.declared.mark.Run.{Run}
use Rattle.rle.specs.declared.phase.Cursor.{Cursor}
use Rattle.rle.specs.declared.phase.Phase.{Phase}
use Rattle.rle.specs.declared.phase.Phase.TheVariants.{Opening, Body}
use Rattle.rle.specs.Forms.{CountForm, BodyForm, HeadForm, RemarkForm, TextForm, BareForm, ended}
use Rattle.rle.specs.Items.{Head, Part, Taken, remark, header, run, ending, Stops, here, later, top_left, body_item, opening_item, read_item}
use Rattle.rle.specs.Laws.{FirstFault}
use Rattle.rle.specs.Runs.{letter_of}
use Rattle.rle.specs.Scans.{Scan, good, bad, past, space}
use Rattle.rle.proofs.Bodies.{onward, fits, ran, body_reads, body_leaves, RunFault, BodyView, over, ran_on, misplaced, faulty, body_view}
use Rattle.rle.proofs.Openings.{took_remark, took_heading, OpenFault, OpenView, remarked, headed, open_view, head_begins, with_remark, remark_reads, head_reads}
use Rattle.rle.proofs.Openings as opens
use Rattle.rle.proofs.Pasts.{past_split, past_over, past_stays, past_stop}
use Rattle.rle.proofs.Reading.{read_body, read_opening, past_run, past_over_end, took_part, took_phase}

-- what the first item of a body's form comes to: the end, or a run that is read where it fits and else lies outside
pub data FormView (c : Cursor) (runs : List Run) : Scan Taken → Type 0 where
  form_ends : (v : List ℕ) → FormView c runs (good (record { part = ending; phase = Body c }) (33 ∷ v))
  form_runs : (n : ℕ) (m : Mark) (rs : List Run) (v : List ℕ) → BodyForm rs v → FormView c runs (good (ran c n m) v)
  form_leaves : (x : List ℕ) → FormView c runs (bad Outside x)

pub form_view : (c : Cursor) (runs : List Run) (t : List ℕ) → BodyForm runs t → FormView c runs (body_item c (past space t))
form_view c [] t f =
    let P : List ℕ → Type 0 = λ x. FormView c [] (body_item c x) in
    subst P (sym (ap (past space) f.3 ∙ past_over_end f.0 f.1 f.2)) (form_ends f.1)
form_view c (r ∷ rs) t f =
    let P : List ℕ → Type 0 = λ x. FormView c (r ∷ rs) (body_item c x) in
    let Q : Scan Taken → Type 0 = FormView c (r ∷ rs) in
    subst P (sym (ap (past space) f.6 ∙ past_run r.count r.mark f.0 f.1 f.2 f.3 f.4))
    (⊎_elim
    (λ g. subst Q (sym (body_reads c r.count f.1 r.mark f.2 f.4 g)) (form_runs r.count r.mark rs f.2 f.5))
    (λ g. subst Q (sym (body_leaves c r.count f.1 r.mark f.2 f.4 g)) (form_leaves (f.1 ++ (letter_of r.mark ∷ f.2))))
    (cases_Bool (fits c r.count r.mark)))

-- it is never a byte out of place, and the rest of a run that is read is of the form too
no_byte : (c : Cursor) (runs : List Run) (at : List ℕ) (s : Scan Taken) → FormView c runs s → s ≡ bad Byte at → ⊥
no_byte c runs at s (form_ends v) e = cc
no_byte c runs at s (form_runs n m rs v f) e = cc
no_byte c runs at s (form_leaves x) e = cc

rest_form : (c : Cursor) (runs : List Run) (n : ℕ) (m : Mark) (rest : List ℕ) (s : Scan Taken) → FormView c runs s → s ≡ good (ran c n m) rest → (rs : List Run) × BodyForm rs rest
rest_form c runs n m rest s (form_ends v) e =
    let same : ending ≡ run (record { count = n; mark = m }) = took_part (record { part = ending; phase = Body c }) (ran c n m) (33 ∷ v) rest e in cc
rest_form c runs n m rest s (form_runs k l rs v f) e = let same : v ≡ rest = cc in (rs, subst (BodyForm rs) same f)
rest_form c runs n m rest s (form_leaves x) e = cc

-- the end is read again and again
pub no_stop : {p : Phase} {t : List ℕ} {cause : ReadCause} {at : List ℕ} → Stops p t cause at → (c : Cursor) (v : List ℕ) → p ≡ Body c → past space t ≡ 33 ∷ v → ⊥
no_stop {t = t} {cause = cause} {at = at} (here e) c v is f =
    let read : body_item c (33 ∷ v) ≡ bad cause at = ap (body_item c) (sym f) ∙ sym (read_body c t) ∙ subst (λ x. read_item x t ≡ bad cause at) is e in
    let took : Taken = record { part = ending; phase = Body c } in
    let z : ◌≡◌ {A = Scan Taken} (good took (33 ∷ v)) (bad cause at) = read in
    cc
no_stop {t = t} (later x q rest e more) c v is f =
    let taken : Taken = record { part = x; phase = q } in
    let read : good (record { part = ending; phase = Body c }) (33 ∷ v) ≡ good taken rest = ap (body_item c) (sym f) ∙ sym (read_body c t) ∙ subst (λ y. read_item y t ≡ good taken rest) is e in
    let left : 33 ∷ v ≡ rest = cc in
    no_stop more c v (sym (took_phase (record { part = ending; phase = Body c }) taken (33 ∷ v) rest read)) (ap (past space) (sym left) ∙ past_stop space 33 v refl)

-- a byte out of place in a body
abbrev BodyFault : List ℕ → List ℕ → Type 0
BodyFault t at =
    (before : List ℕ) × (b : ℕ) × (after : List ℕ) × (at ≡ b ∷ after) × (t ≡ before ++ at)
    × ((rest : List ℕ) × (runs : List Run) × BodyForm runs (before ++ rest))
    × ((rest : List ℕ) (runs : List Run) → BodyForm runs (before ++ (b ∷ rest)) → ⊥)

-- at the item that is read now
misplaced_now : (c : Cursor) (t at : List ℕ) (s : Scan Taken) → BodyView c (past space t) s → s ≡ bad Byte at → BodyFault t at
misplaced_now c t at s (over v e) f = cc
misplaced_now c t at s (ran_on n m u rest h e g) f = cc
misplaced_now c t at s (misplaced u b r e n v h g) f =
    let split = past_split space t in
    let there : at ≡ b ∷ r = cc in
    let s₀ = split.0 in (
      s₀ ++ u,
      b,
      r,
      there,
      split.2 ∙ ap (λ x. s₀ ++ x) (e ∙ ap (λ x. u ++ x) (sym there)) ∙ sym (append_assoc s₀ u at),
      (v ++ (98 ∷ (33 ∷ [])), record { count = n; mark = Off } ∷ [], (s₀, u ++ v, 33 ∷ [], split.1, h, ([], [], tt, refl), append_assoc s₀ u (v ++ (98 ∷ (33 ∷ []))) ∙ ap (λ x. s₀ ++ x) (sym (append_assoc u v (98 ∷ (33 ∷ [])))))),
      λ w runs form.
          let left : past space ((s₀ ++ u) ++ (b ∷ w)) ≡ u ++ (b ∷ w) = ap (past space) (append_assoc s₀ u (b ∷ w)) ∙ past_over space s₀ (u ++ (b ∷ w)) split.1 ∙ past_stays space t u b r w e in
          no_byte c runs (b ∷ w) (body_item c (past space ((s₀ ++ u) ++ (b ∷ w)))) (form_view c runs ((s₀ ++ u) ++ (b ∷ w)) form) (ap (body_item c) left ∙ g w),
    )
misplaced_now c t at s (faulty cause rest h) f = let same : cause ≡ Byte = cc in absurd (subst (λ k. RunFault c (past space t) k rest) same h)

-- after a run
misplaced_later : (c : Cursor) (t at rest : List ℕ) (n : ℕ) (m : Mark) (u : List ℕ) → CountForm n u → past space t ≡ u ++ (letter_of m ∷ rest) → fits c n m ≡ true → BodyFault rest at → BodyFault t at
misplaced_later c t at rest n m u h e g f =
    let split = past_split space t in
    let s₀ = split.0 in
    let regroup : (x : List ℕ) → (s₀ ++ (u ++ (letter_of m ∷ f.0))) ++ x ≡ s₀ ++ (u ++ (letter_of m ∷ (f.0 ++ x))) = λ x. append_assoc s₀ (u ++ (letter_of m ∷ f.0)) x ∙ ap (λ y. s₀ ++ y) (append_assoc u (letter_of m ∷ f.0) x) in (
      s₀ ++ (u ++ (letter_of m ∷ f.0)),
      f.1,
      f.2,
      f.3,
      split.2 ∙ ap (λ x. s₀ ++ x) (e ∙ ap (λ x. u ++ (letter_of m ∷ x)) f.4) ∙ sym (regroup at),
      (f.5.0, record { count = n; mark = m } ∷ f.5.1, (s₀, u, f.0 ++ f.5.0, split.1, h, f.5.2, regroup f.5.0)),
      λ w runs form.
          let tail = f.0 ++ (f.1 ∷ w) in
          let whole = (s₀ ++ (u ++ (letter_of m ∷ f.0))) ++ (f.1 ∷ w) in
          let read : body_item c (past space whole) ≡ good (ran c n m) tail = ap (λ x. body_item c (past space x)) (regroup (f.1 ∷ w)) ∙ ap (body_item c) (past_run n m s₀ u tail split.1 h) ∙ body_reads c n u m tail h g in
          let next = rest_form c runs n m tail (body_item c (past space whole)) (form_view c runs whole form) read in
          f.6 w next.0 next.1,
    )

by_item : (c : Cursor) (t at : List ℕ) (x : Part) (q : Phase) (rest : List ℕ) (s : Scan Taken) → BodyView c (past space t) s → s ≡ good (record { part = x; phase = q }) rest → Stops q rest Byte at → ((d : Cursor) → q ≡ Body d → BodyFault rest at) → BodyFault t at
by_item c t at x q rest s (over v e) f more fault =
    let taken : Taken = record { part = x; phase = q } in
    let took : Taken = record { part = ending; phase = Body c } in
    let left : past space t ≡ rest = cc in
    absurd (no_stop more c v (sym (took_phase took taken (past space t) rest f)) (ap (past space) (sym left ∙ e) ∙ past_stop space 33 v refl))
by_item c t at x q rest s (ran_on n m u v h e g) f more fault =
    let taken : Taken = record { part = x; phase = q } in
    let left : v ≡ rest = cc in
    misplaced_later c t at rest n m u h (e ∙ ap (λ y. u ++ (letter_of m ∷ y)) left) g (fault (onward c n m) (sym (took_phase (ran c n m) taken v rest f)))
by_item c t at x q rest s (misplaced u b r e n v h g) f more fault = cc
by_item c t at x q rest s (faulty cause v h) f more fault = cc

body_fault : {p : Phase} {t : List ℕ} {cause : ReadCause} {at : List ℕ} → Stops p t cause at → cause ≡ Byte → (c : Cursor) → p ≡ Body c → BodyFault t at
body_fault {t = t} {cause = cause} {at = at} (here e) byte c is =
    let read : body_item c (past space t) ≡ bad Byte at = sym (read_body c t) ∙ subst (λ x. read_item x t ≡ bad cause at) is e ∙ ap (λ x. bad x at) byte in
    misplaced_now c t at (body_item c (past space t)) (body_view c (past space t)) read
body_fault {t = t} {cause = cause} {at = at} (later x q rest e more) byte c is =
    let taken : Taken = record { part = x; phase = q } in
    let read : body_item c (past space t) ≡ good taken rest = sym (read_body c t) ∙ subst (λ y. read_item y t ≡ good taken rest) is e in
    by_item c t at x q rest (body_item c (past space t)) (body_view c (past space t)) read (subst (λ y. Stops q rest y at) byte more) (λ d same. body_fault more byte d same)

-- what the first item of a text's form comes to: a remark before another text, the heading before the body, or a size that is too large
pub data TextView : Scan Taken → Type 0 where
  text_remark : (line rest : List ℕ) → BareForm rest → TextView (good (took_remark line) rest)
  text_heading : (line : List ℕ) (head : Head) (runs : List Run) (body : List ℕ) → BodyForm runs body → TextView (good (took_heading line head) body)
  text_large : (x : List ℕ) → TextView (bad Size x)

text_view : (remarks : List (List ℕ)) (w h : ℕ) (rule : Option (List ℕ)) (runs : List Run) (t : List ℕ) → TextForm remarks w h rule runs t → TextView (opening_item t)
text_view [] w h rule runs t f =
    let P : List ℕ → Type 0 = λ x. TextView (opening_item x) in
    let text = f.line ++ (10 ∷ f.body) in
    subst P (sym f.whole)
    (⊎_elim
    (λ p. subst TextView (sym p.3) (text_heading (first_line text) p.2 runs f.body f.bodied))
    (λ p. subst TextView (sym p.1) (text_large p.0))
    (head_reads w h rule f.line f.body f.headed))
text_view (r ∷ remarks) w h rule runs t f =
    let P : List ℕ → Type 0 = λ x. TextView (opening_item x) in
    let rest = flat_map ended remarks ++ (f.line ++ (10 ∷ f.body)) in
    let whole : t ≡ r ++ (10 ∷ rest) = f.whole ∙ append_assoc (ended r) (flat_map ended remarks) (f.line ++ (10 ∷ f.body)) ∙ append_assoc r (10 ∷ []) rest in
    subst P (sym whole)
    (subst TextView (sym (remark_reads r rest f.remarked.0))
    (text_remark r rest (remarks, w, h, rule, runs, record { line = f.line; body = f.body; remarked = f.remarked.1; headed = f.headed; bodied = f.bodied; whole = refl })))

pub bare_view : (t : List ℕ) → BareForm t → TextView (opening_item t)
bare_view t f = text_view f.0 f.1 f.2 f.3 f.4 t f.5

never_byte : (at : List ℕ) (s : Scan Taken) → TextView s → s ≡ bad Byte at → ⊥
never_byte at s (text_remark line rest f) e = cc
never_byte at s (text_heading line head runs body f) e = cc
never_byte at s (text_large x) e = cc

after_remark : (line rest : List ℕ) (s : Scan Taken) → TextView s → s ≡ good (took_remark line) rest → BareForm rest
after_remark line rest s (text_remark l v f) e = let same : v ≡ rest = cc in subst BareForm same f
after_remark line rest s (text_heading l head runs body f) e =
    let same : header l head ≡ remark line = took_part (took_heading l head) (took_remark line) body rest e in cc
after_remark line rest s (text_large x) e = cc

after_heading : (line : List ℕ) (head : Head) (rest : List ℕ) (s : Scan Taken) → TextView s → s ≡ good (took_heading line head) rest → (runs : List Run) × BodyForm runs rest
after_heading line head rest s (text_remark l v f) e =
    let same : remark l ≡ header line head = took_part (took_remark l) (took_heading line head) v rest e in cc
after_heading line head rest s (text_heading l g runs body f) e = let same : body ≡ rest = cc in (runs, subst (BodyForm runs) same f)
after_heading line head rest s (text_large x) e = cc

-- a byte out of place in a remark or the heading
first_now : (t at : List ℕ) (s : Scan Taken) → OpenView t s → s ≡ bad Byte at → FirstFault t at
first_now t at s (remarked line rest h e) f = cc
first_now t at s (headed head line rest h e narrow low) f = cc
first_now t at s (opens.misplaced u b r e head v h g) f =
    let there : at ≡ b ∷ r = cc in
    record {
      before = u;
      byte = b;
      after = r;
      stands = there;
      whole = e ∙ ap (λ x. u ++ x) (sym there);
      begins = (v ++ (33 ∷ []), head_begins u head v h);
      none = λ w form. never_byte (b ∷ w) (opening_item (u ++ (b ∷ w))) (bare_view (u ++ (b ∷ w)) form) (g w);
    }
first_now t at s (opens.faulty cause rest h) f = let same : cause ≡ Byte = cc in absurd (subst (λ k. OpenFault t k rest) same h)

-- after a remark
first_after_remark : (t at line rest : List ℕ) → RemarkForm line → t ≡ line ++ (10 ∷ rest) → FirstFault rest at → FirstFault t at
first_after_remark t at line rest h e f =
    let before = line ++ (10 ∷ f.before) in
    record {
      before = before;
      byte = f.byte;
      after = f.after;
      stands = f.stands;
      whole = e ∙ ap (λ x. line ++ (10 ∷ x)) f.whole ∙ sym (append_assoc line (10 ∷ f.before) at);
      begins = (f.begins.0, subst BareForm (sym (append_assoc line (10 ∷ f.before) f.begins.0)) (with_remark line (f.before ++ f.begins.0) h f.begins.1));
      none = λ w all.
          let tail = f.before ++ (f.byte ∷ w) in
          let text = before ++ (f.byte ∷ w) in
          let read : opening_item text ≡ good (took_remark line) tail = ap opening_item (append_assoc line (10 ∷ f.before) (f.byte ∷ w)) ∙ remark_reads line tail h in
          f.none w (after_remark line tail (opening_item text) (bare_view text all) read);
    }

-- after the heading
first_after_heading : (t at line rest : List ℕ) (head : Head) → HeadForm head.width head.height head.rule line → t ≡ line ++ (10 ∷ rest) → head.width ≤ 32 → head.height ≤ 32 → BodyFault rest at → FirstFault t at
first_after_heading t at line rest head h e narrow low f =
    let before = line ++ (10 ∷ f.0) in
    record {
      before = before;
      byte = f.1;
      after = f.2;
      stands = f.3;
      whole = e ∙ ap (λ x. line ++ (10 ∷ x)) f.4 ∙ sym (append_assoc line (10 ∷ f.0) at);
      begins = (
        f.5.0,
        (
          [],
          head.width,
          head.height,
          head.rule,
          f.5.1,
          record {
            line = line;
            body = f.0 ++ f.5.0;
            remarked = tt;
            headed = h;
            bodied = f.5.2;
            whole = append_assoc line (10 ∷ f.0) f.5.0;
          },
        ),
      );
      none = λ w all.
          let tail = f.0 ++ (f.1 ∷ w) in
          let text = before ++ (f.1 ∷ w) in
          let same : text ≡ line ++ (10 ∷ tail) = append_assoc line (10 ∷ f.0) (f.1 ∷ w) in
          ⊎_elim
          (λ p.
          let read : opening_item text ≡ good (took_heading (first_line (line ++ (10 ∷ tail))) p.2) tail = ap opening_item same ∙ p.3 in
          let next = after_heading (first_line (line ++ (10 ∷ tail))) p.2 tail (opening_item text) (bare_view text all) read in
          f.6 w next.0 next.1)
          (λ p. p.2 narrow low)
          (head_reads head.width head.height head.rule line tail h);
    }

by_opening : (t at : List ℕ) (x : Part) (q : Phase) (rest : List ℕ) (s : Scan Taken) → OpenView t s → s ≡ good (record { part = x; phase = q }) rest → Stops q rest Byte at → (q ≡ Opening → FirstFault rest at) → FirstFault t at
by_opening t at x q rest s (remarked line v h e) f more fault =
    let taken : Taken = record { part = x; phase = q } in
    let left : v ≡ rest = cc in
    first_after_remark t at line rest h (e ∙ ap (λ y. line ++ (10 ∷ y)) left) (fault (sym (took_phase (took_remark line) taken v rest f)))
by_opening t at x q rest s (headed head line v h e narrow low) f more fault =
    let taken : Taken = record { part = x; phase = q } in
    let left : v ≡ rest = cc in
    let took = took_heading (first_line t) head in
    first_after_heading t at line rest head h (e ∙ ap (λ y. line ++ (10 ∷ y)) left) narrow low (body_fault more refl (top_left head.width head.height) (sym (took_phase took taken v rest f)))
by_opening t at x q rest s (opens.misplaced u b r e head v h g) f more fault = cc
by_opening t at x q rest s (opens.faulty cause v h) f more fault = cc

first_fault : {p : Phase} {t : List ℕ} {cause : ReadCause} {at : List ℕ} → Stops p t cause at → cause ≡ Byte → p ≡ Opening → FirstFault t at
first_fault {t = t} {cause = cause} {at = at} (here e) byte is =
    let read : opening_item t ≡ bad Byte at = sym (read_opening t) ∙ subst (λ x. read_item x t ≡ bad cause at) is e ∙ ap (λ x. bad x at) byte in
    first_now t at (opening_item t) (open_view t) read
first_fault {t = t} {at = at} (later x q rest e more) byte is =
    let taken : Taken = record { part = x; phase = q } in
    let read : opening_item t ≡ good taken rest = sym (read_opening t) ∙ subst (λ y. read_item y t ≡ good taken rest) is e in
    by_opening t at x q rest (opening_item t) (open_view t) read (subst (λ y. Stops q rest y at) byte more) (λ same. first_fault more byte same)

pub faults_first : (text at : List ℕ) → Stops Opening text Byte at → FirstFault text at
faults_first text at s = first_fault s refl refl
