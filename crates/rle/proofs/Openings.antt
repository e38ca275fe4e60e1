-- Remarks and the heading: what reading an item before the body shows, and that their forms are read.
use Rattle.std.proofs.Common.{◌≡◌, ℕ, ◌≤◌, true, false, eqb, ◌⊎◌, List, [], ◌∷◌, ◌++◌, Option, sym, refl, ap, ◌∙◌, subst, inl, inr, ⊎_elim}
use Rattle.std.specs.List.{flat_map}
use Rattle.std.proofs.lemmas.List.{append_assoc}
use Rattle.std.proofs.lemmas.Bool.{cases_Bool, cond-true, cond-false, eqb-true}
use Rattle.lines.specs.Lines.{first_line}
use Rattle.rle.specs.declared.fault.ReadCause.{ReadCause}
use Rattle.rle.specs.declared.fault.ReadCause.TheVariants.{TooLong, Byte, Size, Outside, Ended}
use Rattle.rle.specs.declared.phase.Phase.TheVariants.{Opening, Body}
use Rattle.rle.specs.Forms.{Each, on_line, HeadForm, RemarkForm, BareForm, ended}
use Rattle.rle.specs.Items.{Head, Taken, remark, header, top_left, line_over, heading, remark_item, heading_item, opening_item}
use Rattle.rle.specs.Laws.{LargeSize}
use Rattle.rle.specs.Scans.{Scan, good, bad, and_then}
use Rattle.rle.proofs.Headings.{Alike, Headed, see_heading, heading_reads, heading_small, heading_large, heading_over, over_starts, default_heading}
use Rattle.rle.proofs.Lines.{first_of, over_of, line_view, first_cons}
use Rattle.rle.proofs.Seen.{Seen, begins_with}

abbrev pub took_remark : List ℕ → Taken
took_remark line = record { part = remark line; phase = Opening }

abbrev pub took_heading : List ℕ → Head → Taken
took_heading line head = record { part = header line head; phase = Body (top_left head.width head.height) }

-- why an item before the body is at fault otherwise than for a byte out of place: a size is over 32, or the text ends too soon
abbrev pub OpenFault : List ℕ → ReadCause → List ℕ → Type 0
OpenFault t TooLong at = ⊥
OpenFault t Byte at = ⊥
OpenFault t Size at = LargeSize t at
OpenFault t Outside at = ⊥
OpenFault t Ended at = (at ≡ []) × ((rest : List ℕ) × BareForm (t ++ rest))

-- what an item before the body comes to: a remark, the heading, a byte out of place, or another fault
pub data OpenView (t : List ℕ) : Scan Taken → Type 0 where
  remarked : (line rest : List ℕ) → RemarkForm line → t ≡ line ++ (10 ∷ rest) → OpenView t (good (took_remark line) rest)
  headed : (head : Head) (line rest : List ℕ) → HeadForm head.width head.height head.rule line → t ≡ line ++ (10 ∷ rest) → head.width ≤ 32 → head.height ≤ 32 → OpenView t (good (took_heading (first_line t) head) rest)
  misplaced : (u : List ℕ) (b : ℕ) (r : List ℕ) → t ≡ u ++ (b ∷ r) → (head : Head) (v : List ℕ) → Headed head (u ++ v) → ((w : List ℕ) → opening_item (u ++ (b ∷ w)) ≡ bad Byte (b ∷ w)) → OpenView t (bad Byte (b ∷ r))
  faulty : (cause : ReadCause) (rest : List ℕ) → OpenFault t cause rest → OpenView t (bad cause rest)

-- a heading's line begins a text of the grammar, with the end after it
pub head_begins : (t : List ℕ) (head : Head) (v : List ℕ) → Headed head (t ++ v) → BareForm (t ++ (v ++ (33 ∷ [])))
head_begins t head v h =
    let line = h.0 in (
      [],
      head.width,
      head.height,
      head.rule,
      [],
      record {
        line = line;
        body = 33 ∷ [];
        remarked = tt;
        headed = h.1;
        bodied = ([], [], tt, refl);
        whole = sym (append_assoc t v (33 ∷ [])) ∙ ap (λ x. x ++ (33 ∷ [])) h.2 ∙ append_assoc line (10 ∷ []) (33 ∷ []);
      },
    )

-- a remark before a text of the grammar
pub with_remark : (line rest : List ℕ) → RemarkForm line → BareForm rest → BareForm (line ++ (10 ∷ rest))
with_remark line rest h bare =
    let form = bare.5 in (
      line ∷ bare.0,
      bare.1,
      bare.2,
      bare.3,
      bare.4,
      record {
        line = form.line;
        body = form.body;
        remarked = (h, form.remarked);
        headed = form.headed;
        bodied = form.bodied;
        whole = ap (λ x. line ++ (10 ∷ x)) form.whole
            ∙ sym (append_assoc line (10 ∷ []) (flat_map ended bare.0 ++ (form.line ++ (10 ∷ form.body))))
            ∙ sym (append_assoc (ended line) (flat_map ended bare.0) (form.line ++ (10 ∷ form.body)));
      },
    )

-- the shortest heading
shortest : (rest : List ℕ) × BareForm rest
shortest = let d = default_heading in (d.1 ++ (33 ∷ []), head_begins [] d.0 d.1 d.2)

pub opens_remark : (b : ℕ) (t : List ℕ) → eqb b 35 ≡ true → opening_item (b ∷ t) ≡ remark_item (b ∷ t)
opens_remark b t e = cond-true (eqb b 35) _ _ e

pub opens_heading : (b : ℕ) (t : List ℕ) → eqb b 35 ≡ false → opening_item (b ∷ t) ≡ heading_item (b ∷ t)
opens_heading b t e = cond-false (eqb b 35) _ _ e

remark_good : (t rest : List ℕ) → line_over t ≡ good tt rest → remark_item t ≡ good (took_remark (first_line t)) rest
remark_good t rest e = ap (λ x. and_then x (λ _ v. good (took_remark (first_line t)) v)) e

-- the line of a remark, from its first byte on
remark_line : (b : ℕ) (t : List ℕ) → b ≡ 35 → Each on_line (first_line (b ∷ t)) → RemarkForm (first_line (b ∷ t))
remark_line b t e h =
    let same : first_line (b ∷ t) ≡ b ∷ first_line t = first_cons b t (subst (λ x. eqb x 10 ≡ false) (sym e) refl) in
    let each : Each on_line (b ∷ first_line t) = subst (Each on_line) same h in
    subst RemarkForm (sym same) (e, each.1)

view_remark : (b : ℕ) (t : List ℕ) → b ≡ 35 → OpenView (b ∷ t) (remark_item (b ∷ t))
view_remark b t e =
    let P : Scan Taken → Type 0 = OpenView (b ∷ t) in
    let view = line_view (b ∷ t) in
    ⊎_elim
    (λ f.
    let line : RemarkForm (b ∷ t) = subst RemarkForm (sym f.1) (remark_line b t e view.0) in
    subst P (sym (ap (λ x. and_then x (λ _ v. good (took_remark (first_line (b ∷ t))) v)) f.0))
    (faulty Ended [] (refl, (10 ∷ shortest.0, with_remark (b ∷ t) shortest.0 line shortest.1))))
    (λ f. subst P (sym (remark_good (b ∷ t) f.0 f.1)) (remarked (first_line (b ∷ t)) f.0 (remark_line b t e view.0) f.2))
    view.1

abbrev pub took_of : List ℕ → Scan Head → Scan Taken
took_of t s = and_then s (λ head rest. good (took_heading (first_line t) head) rest)

view_heading : (b : ℕ) (t : List ℕ) → eqb b 35 ≡ false → (s : Scan Head) → heading (b ∷ t) ≡ s → Seen Alike Headed heading (b ∷ t) s → OpenView (b ∷ t) (took_of (b ∷ t) s)
view_heading b t e (good head rest) f h =
    let small = heading_small (b ∷ t) head rest f in
    let line = h.1.0 in
    headed head line rest h.1.1 (h.2 ∙ ap (λ x. x ++ rest) h.1.2 ∙ append_assoc line (10 ∷ []) rest) small.0 small.1
view_heading b t e (bad TooLong rest) f h = absurd h
view_heading b t e (bad Byte rest) f h =
    let P : List ℕ → Type 0 = λ x. OpenView (b ∷ t) (bad Byte x) in
    let whole : b ∷ t ≡ h.0 ++ (h.1 ∷ h.2) = h.4 ∙ ap (λ x. h.0 ++ x) h.3 in
    subst P (sym h.3)
    (misplaced h.0 h.1 h.2 whole h.5.0 h.5.1 h.5.2
    (λ w.
    let s = begins_with b t h.0 h.1 h.2 w whole in
    ap opening_item s.1 ∙ opens_heading b s.0 e ∙ ap heading_item (sym s.1) ∙ ap (took_of (h.0 ++ (h.1 ∷ w))) (h.6 w)))
view_heading b t e (bad Size rest) f h = faulty Size rest (heading_large (b ∷ t) rest f)
view_heading b t e (bad Outside rest) f h = absurd h
view_heading b t e (bad Ended rest) f h = faulty Ended rest (h.0, (h.1.1 ++ (33 ∷ []), head_begins (b ∷ t) h.1.0 h.1.1 h.1.2))

pub open_view : (t : List ℕ) → OpenView t (opening_item t)
open_view [] = faulty Ended [] (refl, shortest)
open_view (b ∷ t) =
    let P : Scan Taken → Type 0 = OpenView (b ∷ t) in
    ⊎_elim
    (λ e. subst P (sym (opens_remark b t e)) (view_remark b t (eqb-true b 35 e)))
    (λ e. subst P (sym (opens_heading b t e)) (view_heading b t e (heading (b ∷ t)) refl (see_heading (b ∷ t))))
    (cases_Bool (eqb b 35))

remark_on_line : (line : List ℕ) → RemarkForm line → Each on_line line
remark_on_line [] h = absurd h
remark_on_line (b ∷ line) h = (subst (λ x. on_line x ≡ true) (sym h.0) refl, h.1)

opens_by : (line rest : List ℕ) → RemarkForm line → opening_item (line ++ (10 ∷ rest)) ≡ remark_item (line ++ (10 ∷ rest))
opens_by [] rest h = absurd h
opens_by (b ∷ line) rest h = opens_remark b (line ++ (10 ∷ rest)) (subst (λ x. eqb x 35 ≡ true) (sym h.0) refl)

-- a remark is read
pub remark_reads : (line rest : List ℕ) → RemarkForm line → opening_item (line ++ (10 ∷ rest)) ≡ good (took_remark line) rest
remark_reads line rest h =
    let on = remark_on_line line h in
    opens_by line rest h ∙ remark_good (line ++ (10 ∷ rest)) rest (over_of line rest on) ∙ ap (λ x. good (took_remark x) rest) (first_of line rest on)

-- a heading is read, or at fault for a size
pub head_reads : (w h : ℕ) (rule : Option (List ℕ)) (line rest : List ℕ) → HeadForm w h rule line → ((w ≤ 32) × (h ≤ 32) × (head : Head) × (opening_item (line ++ (10 ∷ rest)) ≡ good (took_heading (first_line (line ++ (10 ∷ rest))) head) rest) × (head.width ≡ w) × (head.height ≡ h) × (head.rule ≡ rule)) ⊎ ((x : List ℕ) × (opening_item (line ++ (10 ∷ rest)) ≡ bad Size x) × (w ≤ 32 → h ≤ 32 → ⊥))
head_reads w h rule line rest f =
    let t = line ++ (10 ∷ rest) in
    let begin = f.first_spelled in
    let x-first : t ≡ 120 ∷ (((begin.0 ++ begin.1) ++ (f.width ++ (f.second ++ (f.height ++ f.tail)))) ++ (10 ∷ rest)) =
    ap (λ y. y ++ (10 ∷ rest)) (f.whole ∙ ap (λ y. y ++ (f.width ++ (f.second ++ (f.height ++ f.tail)))) begin.4) in
    let opens : opening_item t ≡ heading_item t = ap opening_item x-first ∙ opens_heading 120 (((begin.0 ++ begin.1) ++ (f.width ++ (f.second ++ (f.height ++ f.tail)))) ++ (10 ∷ rest)) refl ∙ ap heading_item (sym x-first) in
    ⊎_elim
    (λ p. inl (p.0, p.1, p.2.0, opens ∙ ap (took_of t) p.2.1, p.2.2, p.2.3, p.2.4))
    (λ p. inr (p.0, opens ∙ ap (took_of t) p.1, p.2))
    (heading_reads w h rule line rest f)

-- a size over 32 is at fault, after its remarks
pub large_opens : (text at : List ℕ) (l : LargeSize text at) → opening_item (l.before ++ at) ≡ bad Size at
large_opens text at l =
    let t = l.before ++ at in
    let s = over_starts text at l in
    ap opening_item s.1 ∙ opens_heading 120 s.0 refl ∙ ap heading_item (sym s.1) ∙ ap (took_of t) (heading_over text at l)
