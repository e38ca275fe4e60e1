-- The end and a fault are read again where they were read.
use Rattle.std.proofs.Common.{◌≡◌, ℕ, eqb, List, [], ◌∷◌, Some, None, Option, Result, sym, refl, ap, ◌∙◌, subst, ⊎_elim}
use Rattle.std.proofs.lemmas.Bool.{cases_Bool, cond-true, cond-false}
use Rattle.rle.specs.declared.fault.ReadFault.{ReadFault}
use Rattle.rle.specs.declared.mark.Mark.{Mark}
use Rattle.rle.specs.declared.phase.Cursor.{Cursor}
use Rattle.rle.specs.declared.phase.Phase.{Phase}
use Rattle.rle.specs.declared.phase.Phase.TheVariants.{Opening, Body, Failed}
use Rattle.rle.specs.Items.{Head, Part, remark, header, run, ending, Taken, line_over, heading, top_left, opening_item, body_item, laid_run, laid, marked_by, marked, mark_of, counted, item_start, read_item}
use Rattle.rle.specs.Scans.{Scan, good, bad, and_then, past, space}
use Rattle.rle.proofs.Pasts.{past_past}
use Rattle.reader.specs.Again.{Final, Repeats}
use Rattle.reader.specs.Calls.{LocatedShown, Stand, standing, answer_of, stand_after}
use Rattle.reader.specs.Left.{left}
use Rattle.reader.specs.Shown.{over, told_part}

-- neither a remark nor a heading nor a run is the end
no_remark : (l : List ℕ) (x : Scan (Unit {0})) (taken : Taken) (rest : List ℕ) → and_then x (λ _ z. good (record { part = remark l; phase = Opening }) z) ≡ good taken rest → taken.part ≡ ending → ⊥
no_remark l (good u z) taken rest e h = cc
no_remark l (bad cause z) taken rest e h = cc

no_heading : (l : List ℕ) (x : Scan Head) (taken : Taken) (rest : List ℕ) → and_then x (λ head z. good (record { part = header l head; phase = Body (top_left head.width head.height) }) z) ≡ good taken rest → taken.part ≡ ending → ⊥
no_heading l (good head z) taken rest e h = cc
no_heading l (bad cause z) taken rest e h = cc

no_laid : (start : List ℕ) (n : ℕ) (m : Mark) (z : List ℕ) (o : Option Cursor) (taken : Taken) (rest : List ℕ) → laid_run start n m z o ≡ good taken rest → taken.part ≡ ending → ⊥
no_laid start n m z None taken rest e h = cc
no_laid start n m z (Some c) taken rest e h = cc

no_mark : (c : Cursor) (start : List ℕ) (n : ℕ) (here : List ℕ) (o : Option Mark) (z : List ℕ) (taken : Taken) (rest : List ℕ) → marked_by c start n here o z ≡ good taken rest → taken.part ≡ ending → ⊥
no_mark c start n here None z taken rest e h = cc
no_mark c start n here (Some m) z taken rest e h = no_laid start n m z (laid c n m) taken rest e h

no_run : (c : Cursor) (start : List ℕ) (x : Scan ℕ) (taken : Taken) (rest : List ℕ) → and_then x (marked c start) ≡ good taken rest → taken.part ≡ ending → ⊥
no_run c start (good n []) taken rest e h = cc
no_run c start (good n (b ∷ bs)) taken rest e h = no_mark c start n (b ∷ bs) (mark_of b) bs taken rest e h
no_run c start (bad cause z) taken rest e h = cc

no_opening : (t : List ℕ) (taken : Taken) (rest : List ℕ) → opening_item t ≡ good taken rest → taken.part ≡ ending → ⊥
no_opening [] taken rest e h = cc
no_opening (b ∷ bs) taken rest e h =
    ⊎_elim
    (λ is. no_remark _ (line_over (b ∷ bs)) taken rest (sym (cond-true (eqb b 35) _ _ is) ∙ e) h)
    (λ isnt. no_heading _ (heading (b ∷ bs)) taken rest (sym (cond-false (eqb b 35) _ _ isnt) ∙ e) h)
    (cases_Bool (eqb b 35))

-- the end leaves all as it is
ends : (c : Cursor) (u : List ℕ) (taken : Taken) (rest : List ℕ) → body_item c u ≡ good taken rest → taken.part ≡ ending → (taken.phase ≡ Body c) × (rest ≡ u)
ends c [] taken rest e h = cc
ends c (b ∷ bs) taken rest e h =
    ⊎_elim
    (λ is. let same = sym (cond-true (eqb b 33) _ _ is) ∙ e in (cc, cc))
    (λ isnt. absurd (no_run c (b ∷ bs) (counted (b ∷ bs)) taken rest (sym (cond-false (eqb b 33) _ _ isnt) ∙ e) h))
    (cases_Bool (eqb b 33))

pub part_over : (text : List ℕ) (p : Part) → told_part text p ≡ over → p ≡ ending
part_over text (remark l) e = cc
part_over text (header l head) e = cc
part_over text (run r) e = cc
part_over text ending e = refl

abbrev further : Stand → Scan Taken
further z = read_item z.phase z.rest

abbrev answered : List ℕ → Stand → Result LocatedShown ReadFault
answered text z = answer_of text (item_start z.phase z.rest) (further z)

again_told : (text : List ℕ) (phase : Phase) (t : List ℕ) (s : Scan Taken) → read_item phase t ≡ s → Final (answer_of text (item_start phase t) s) → (answered text (stand_after s) ≡ answer_of text (item_start phase t) s) × (stand_after (further (stand_after s)) ≡ stand_after s)
unfolding read_item
again_told text phase t (bad cause rest) e h = (refl, refl)
again_told text Opening t (good taken rest) e h = absurd (no_opening t taken rest e (part_over text taken.part h))
again_told text (Failed cause) t (good taken rest) e h = cc
again_told text (Body c) t (good taken rest) e h =
    let at = ends c (past space t) taken rest e (part_over text taken.part h) in
    let read : read_item taken.phase rest ≡ good taken rest = ap (λ p. read_item p rest) at.0 ∙ ap (λ z. body_item c (past space z)) at.1 ∙ ap (body_item c) (past_past space t) ∙ e in
    let start : item_start taken.phase rest ≡ past space t = ap (λ p. item_start p rest) at.0 ∙ ap (past space) at.1 ∙ past_past space t in
    (ap (λ z. answer_of text z (read_item taken.phase rest)) start ∙ ap (answer_of text (past space t)) read, ap stand_after read)

pub repeats : Repeats
repeats first second third r s one two h =
    let text = first.text.now in
    let again = again_told text first.phase (left first) (read_item first.phase (left first)) refl (subst Final one.answer h) in (
      two.answer ∙ ap (λ z. answered z (standing second)) one.text ∙ ap (answered text) one.stands ∙ again.0 ∙ sym one.answer,
      two.stands ∙ ap (λ (z : Stand). stand_after (further z)) one.stands ∙ again.1 ∙ sym one.stands,
    )
