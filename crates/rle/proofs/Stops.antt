-- Reading stops at a size over 32 and at a run outside, and only once; and it comes to the end or stops.
use Rattle.std.proofs.Common.{◌≡◌, ℕ, zero, suc, ◌<◌, ◌≤◌, ◌⊎◌, ◌≢◌, List, [], ◌∷◌, ◌++◌, length, length-append, arith, inl, inr, sym, refl, ap, ◌∙◌, subst, ⊎_elim}
use Rattle.std.specs.List.{flat_map}
use Rattle.std.proofs.lemmas.List.{append_assoc}
use Rattle.std.proofs.lemmas.Bool.{cases_Bool}
use Rattle.lines.specs.Lines.{first_line}
use Rattle.rle.specs.declared.fault.ReadCause.{ReadCause}
use Rattle.rle.specs.declared.fault.ReadCause.TheVariants.{Size, Outside}
use Rattle.rle.specs.declared.mark.Run.{Run}
use Rattle.rle.specs.declared.phase.Cursor.{Cursor}
use Rattle.rle.specs.declared.phase.Phase.{Phase}
use Rattle.rle.specs.declared.phase.Phase.TheVariants.{Opening, Body, Failed}
use Rattle.rle.specs.Forms.{RunsForm, RemarkForms, ended}
use Rattle.rle.specs.Items.{Part, Taken, remark, header, run, ending, Finishes, ends, goes, Stops, here, later, top_left, body_item, opening_item, read_item}
use Rattle.rle.specs.Laws.{StopsAtLarge, StopsOutside, StopsOnce, EndsOrStops}
use Rattle.rle.specs.Runs.{letter_of, Inside}
use Rattle.rle.specs.Scans.{Scan, good, bad, past, space}
use Rattle.rle.proofs.Bodies.{onward, fits, ran, BodyView, over, ran_on, misplaced, faulty, body_view, body_reads, body_leaves}
use Rattle.rle.proofs.Openings.{open_view, remark_reads, head_reads, large_opens}
use Rattle.rle.proofs.Pasts.{past_over, past_split}
use Rattle.rle.proofs.Patterns.{took_rest}
use Rattle.rle.proofs.Reading.{read_body, read_opening, past_run, took_part, took_phase, is_opened}
use Rattle.rle.proofs.Stopping.{laid_on, InBox, in_box_more, one_remark}

-- a fault after remarks
past_remarks : (remarks : List (List ℕ)) (t : List ℕ) (cause : ReadCause) (at : List ℕ) → RemarkForms remarks → Stops Opening t cause at → Stops Opening (flat_map ended remarks ++ t) cause at
past_remarks [] t cause at h s = s
past_remarks (r ∷ remarks) t cause at h s =
    let rest = flat_map ended remarks ++ t in
    later (remark r) Opening rest (read_opening (flat_map ended (r ∷ remarks) ++ t) ∙ ap opening_item (one_remark r remarks t) ∙ remark_reads r rest h.0) (past_remarks remarks t cause at h.1 s)

-- a fault after runs that lie in the box
past_runs : (c : Cursor) (runs : List Run) (before t : List ℕ) (cause : ReadCause) (at : List ℕ) → RunsForm runs before → InBox c runs → past space t ≡ t → body_item (laid_on c runs) t ≡ bad cause at → Stops (Body c) (before ++ t) cause at
past_runs c [] before t cause at h inside solid e = here (read_body c (before ++ t) ∙ ap (body_item c) (past_over space before t h ∙ solid) ∙ e)
past_runs c (r ∷ rs) before t cause at h inside solid e =
    let regroup : before ++ t ≡ h.0 ++ (h.1 ++ (letter_of r.mark ∷ (h.2 ++ t))) =
    ap (λ x. x ++ t) h.6 ∙ append_assoc h.0 (h.1 ++ (letter_of r.mark ∷ h.2)) t ∙ ap (λ x. h.0 ++ x) (append_assoc h.1 (letter_of r.mark ∷ h.2) t) in
    later (run r) (Body (onward c r.count r.mark)) (h.2 ++ t)
    (read_body c (before ++ t)
    ∙ ap (λ x. body_item c (past space x)) regroup
    ∙ ap (body_item c) (past_run r.count r.mark h.0 h.1 (h.2 ++ t) h.3 h.4)
    ∙ body_reads c r.count h.1 r.mark (h.2 ++ t) h.4 inside.0)
    (past_runs (onward c r.count r.mark) rs h.2 t cause at h.5 inside.1 solid e)

pub stops_at_large : StopsAtLarge
stops_at_large text at l =
    subst (λ x. Stops Opening x Size at) (sym l.whole) (past_remarks l.remarks (l.before ++ at) Size at l.remarked (here (read_opening (l.before ++ at) ∙ large_opens text at l)))

pub stops_outside : StopsOutside
stops_outside text at o =
    let body = o.before ++ at in
    let t = o.line ++ (10 ∷ body) in
    let n = o.run.count in
    let m = o.run.mark in
    subst (λ x. Stops Opening x Outside at) (sym o.whole)
    (past_remarks o.remarks t Outside at o.remarked
    (⊎_elim
    (λ p.
    let head = p.2 in
    let c = top_left head.width head.height in
    let inside : InBox c o.runs = subst (λ x. Inside x head.height 0 0 o.runs) (sym p.4) (subst (λ x. Inside o.w x 0 0 o.runs) (sym p.5) o.inside) in
    let never : InBox c (o.runs ++ (o.run ∷ [])) → ⊥ = λ h. o.outside (subst (λ x. Inside o.w x 0 0 (o.runs ++ (o.run ∷ []))) p.5 (subst (λ x. Inside x head.height 0 0 (o.runs ++ (o.run ∷ []))) p.4 h)) in
    let solid : past space at ≡ at = ap (past space) o.stands ∙ past_run n m [] o.count o.after tt o.counted ∙ sym o.stands in
    let stop : body_item (laid_on c o.runs) at ≡ bad Outside at =
    ⊎_elim
    (λ e. absurd (never (in_box_more c o.runs o.run inside e)))
    (λ e. ap (body_item (laid_on c o.runs)) o.stands ∙ body_leaves (laid_on c o.runs) n o.count m o.after o.counted e ∙ ap (bad Outside) (sym o.stands))
    (cases_Bool (fits (laid_on c o.runs) n m)) in
    later (header (first_line t) head) (Body c) body (read_opening t ∙ p.3) (past_runs c o.runs o.before at Outside at o.spelled inside solid stop))
    (λ p. absurd (p.2 o.narrow o.low))
    (head_reads o.w o.h o.rule o.line body o.headed)))

-- a reader comes to one fault
stops_same : {p : Phase} {t : List ℕ} {cause₁ cause₂ : ReadCause} {at₁ at₂ : List ℕ} → Stops p t cause₁ at₁ → Stops p t cause₂ at₂ → (cause₁ ≡ cause₂) × (at₁ ≡ at₂)
stops_same {t = t} {cause₁ = cause₁} {cause₂ = cause₂} {at₁ = at₁} {at₂ = at₂} (here e) (here f) = let same : ◌≡◌ {A = Scan Taken} (bad cause₁ at₁) (bad cause₂ at₂) = sym e ∙ f in (cc, cc)
stops_same {cause₁ = cause₁} {at₁ = at₁} (here e) (later x q rest f more) = let z : ◌≡◌ {A = Scan Taken} (bad cause₁ at₁) (good (record { part = x; phase = q }) rest) = sym e ∙ f in cc
stops_same {cause₂ = cause₂} {at₂ = at₂} (later x q rest e more) (here f) = let z : ◌≡◌ {A = Scan Taken} (bad cause₂ at₂) (good (record { part = x; phase = q }) rest) = sym f ∙ e in cc
stops_same {cause₂ = cause₂} {at₂ = at₂} (later x q rest e more) (later x₁ q₁ rest₁ f more₁) =
    let a : Taken = record { part = x; phase = q } in
    let b : Taken = record { part = x₁; phase = q₁ } in
    let same : good a rest ≡ good b rest₁ = sym e ∙ f in
    stops_same more (subst (λ z. Stops z rest cause₂ at₂) (sym (took_phase a b rest rest₁ same)) (subst (λ z. Stops q₁ z cause₂ at₂) (sym (took_rest a b rest rest₁ same)) more₁))

pub stops_once : StopsOnce
stops_once text cause₁ cause₂ at₁ at₂ s r = stops_same s r

-- an item is the end, or leaves fewer bytes
abbrev Shortens : List ℕ → Part → List ℕ → Type 0
Shortens t x rest = (x ≡ ending) ⊎ ((x ≢ ending) × (length rest < length t))

fewer : (t u : List ℕ) (b : ℕ) (rest : List ℕ) → t ≡ u ++ (b ∷ rest) → length rest < length t
fewer t u b rest e = omega (arith, ap length e, length-append u (b ∷ rest))

body_shortens : (c : Cursor) (t : List ℕ) (x : Part) (q : Phase) (rest : List ℕ) (s : Scan Taken) → BodyView c (past space t) s → s ≡ good (record { part = x; phase = q }) rest → Shortens t x rest
body_shortens c t x q rest s (over v e) f = inl (sym (took_part (record { part = ending; phase = Body c }) (record { part = x; phase = q }) (past space t) rest f))
body_shortens c t x q rest s (ran_on n m u v h e g) f =
    let taken : Taken = record { part = x; phase = q } in
    let part : run (record { count = n; mark = m }) ≡ x = took_part (ran c n m) taken v rest f in
    let left : v ≡ rest = cc in
    let split = past_split space t in
    let whole : t ≡ (split.0 ++ u) ++ (letter_of m ∷ rest) = split.2 ∙ ap (λ y. split.0 ++ y) (e ∙ ap (λ y. u ++ (letter_of m ∷ y)) left) ∙ sym (append_assoc split.0 u (letter_of m ∷ rest)) in
    inr ((λ z. let other : run (record { count = n; mark = m }) ≡ ending = part ∙ z in cc), fewer t (split.0 ++ u) (letter_of m) rest whole)
body_shortens c t x q rest s (misplaced u b r e n v h g) f = cc
body_shortens c t x q rest s (faulty k v h) f = cc

shortens : (p : Phase) (t : List ℕ) (x : Part) (q : Phase) (rest : List ℕ) → read_item p t ≡ good (record { part = x; phase = q }) rest → Shortens t x rest
unfolding read_item
shortens Opening t x q rest e =
    ⊎_elim
    (λ p. inr ((λ z. let other : remark p.0 ≡ ending = sym p.3 ∙ z in cc), fewer t p.0 10 rest p.2))
    (λ p. inr ((λ z. let other : header (first_line t) p.0 ≡ ending = sym p.6 ∙ z in cc), fewer t p.1 10 rest p.3))
    (is_opened t x q rest (opening_item t) (open_view t) e)
shortens (Body c) t x q rest e = body_shortens c t x q rest (body_item c (past space t)) (body_view c (past space t)) e
shortens (Failed cause) t x q rest e = cc

-- so reading comes to the end or to a fault
abbrev Comes : Phase → List ℕ → Type 0
Comes p t = ((items : List Part) × Finishes p t items) ⊎ ((cause : ReadCause) × (at : List ℕ) × Stops p t cause at)

comes_by : (n : ℕ) (p : Phase) (t : List ℕ) (s : Scan Taken) → read_item p t ≡ s → length t ≤ n → ((q : Phase) (rest : List ℕ) → length rest < n → Comes q rest) → Comes p t
comes_by n p t (bad cause at) e few next = inr (cause, at, here e)
comes_by n p t (good taken rest) e few next =
    ⊎_elim
    (λ z. inl (ending ∷ [], ends taken.phase rest (e ∙ ap (λ x. good (record { part = x; phase = taken.phase }) rest) z)))
    (λ h.
    ⊎_elim
    (λ f. inl (taken.part ∷ f.0, goes taken.phase rest e h.0 f.1))
    (λ f. inr (f.0, f.1, later taken.part taken.phase rest e f.2))
    (next taken.phase rest (omega (arith, h.1))))
    (shortens p t taken.part taken.phase rest e)

comes : (n : ℕ) (p : Phase) (t : List ℕ) → length t ≤ n → Comes p t
comes zero p t few = comes_by zero p t (read_item p t) refl few (λ q rest h. absurd (omega arith))
comes (suc n) p t few = comes_by (suc n) p t (read_item p t) refl few (λ q rest h. comes n q rest (omega arith))

pub ends_or_stops : EndsOrStops
ends_or_stops text = comes (length text) Opening text (omega arith)
