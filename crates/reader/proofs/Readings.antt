-- What calls one after another answer is what the definition of reading finishes with, or stops at.
use Rattle.std.proofs.Common.{◌≡◌, ℕ, ◌+◌, ◌-◌, true, false, leb, List, [], ◌∷◌, length, sym, refl, ap, ◌∙◌, subst, inl, inr, ⊎_elim, arith}
use Rattle.std.proofs.lemmas.Bool.{cases_Bool, cond-true, cond-false, leb-true, le-leb}
use Rattle.std.proofs.lemmas.Bool.Decides.{nat_tests}
use Rattle.rle.specs.declared.fault.ReadCause.{ReadCause}
use Rattle.rle.specs.declared.fault.ReadCause.TheVariants.{TooLong, Size, Outside}
use Rattle.rle.specs.declared.fault.ReadFault.{ReadFault}
use Rattle.rle.specs.declared.phase.Phase.{Phase}
use Rattle.rle.specs.declared.phase.Phase.TheVariants.{Opening, Failed}
use Rattle.rle.specs.Items.{Part, ending, Taken, item_start, read_item, Finishes, ends, goes, Stops, here, later}
use Rattle.rle.specs.Scans.{Scan, good, bad}
use Rattle.rle.specs.Laws.{AtFault, Placed}
use Rattle.rle.specs.Spots.{corner, spot_past, spot_at, spot_before}
use Rattle.rle.proofs.Places.{fault_placed}
use Rattle.rle.proofs.Patterns.{shows_one, took_rest}
use Rattle.rle.proofs.Reading.{reads_every, took_part, took_phase}
use Rattle.rle.proofs.Stopping.{stops_at_fault}
use Rattle.rle.proofs.Stops.{stops_at_large, stops_outside, stops_once}
use Rattle.reader.specs.declared.reader.Reader.{Reader}
use Rattle.reader.specs.Calls.{Stand, readable, fault_at, answer_of, stand_after, Opened}
use Rattle.reader.specs.Left.{left}
use Rattle.reader.specs.Readings.{Answer, Calls, none, call, Whole, Tells, Meets, ReadsAll, ReadsNoOther, spot_of, FaultsStand, TellsFault, RefusesLong, OpensAlike}
use Rattle.reader.specs.Shown.{told_part}
use Rattle.reader.proofs.Again.{part_over}

-- a text at fault, as reading an item says it
abbrev fault : ReadCause → List ℕ → Scan Taken
fault cause t = bad cause t

-- an item that is answered, with the items that the calls after it answer
ended_by : (text start : List ℕ) (p : Phase) (t : List ℕ) (sc : Scan Taken) (more : List Answer) → read_item p t ≡ sc → Whole (answer_of text start sc ∷ more) → ((q : Phase) (rest : List ℕ) → stand_after sc ≡ record { rest = rest; phase = q } → Whole more → (xs : List Part) × Finishes q rest xs × Tells text more xs) → (xs : List Part) × Finishes p t xs × Tells text (answer_of text start sc ∷ more) xs
ended_by text start p t (bad cause rest) more e w f = absurd w
ended_by text start p t (good taken rest) more e (inl both) f =
    let is = part_over text taken.part both.0 in (
      ending ∷ [],
      ends taken.phase rest (e ∙ ap (λ x. good (record { part = x; phase = taken.phase }) rest) is),
      (both.0, subst (λ z. Tells text z []) (sym both.1) tt),
    )
ended_by text start p t (good taken rest) more e (inr both) f =
    let next = f taken.phase rest refl both.1 in (
      taken.part ∷ next.0,
      goes taken.phase rest e (λ is. both.0 (ap (told_part text) is)) next.1,
      (refl, next.2),
    )

-- calls that come to the end finish the text
finished : {r s : Reader} {answers : List Answer} → Calls r answers s → Whole answers → (xs : List Part) × Finishes r.phase (left r) xs × Tells r.text.now answers xs
finished (none r) w = absurd w
finished (call r s t a more one rest) w =
    let text = r.text.now in
    let all =
    ended_by text (item_start r.phase (left r)) r.phase (left r) (read_item r.phase (left r)) more refl (subst (λ z. Whole (z ∷ more)) one.answer w)
    (λ q u is on.
    let next = finished rest on in
    (next.0, subst (λ (z : Stand). Finishes z.phase z.rest next.0) (one.stands ∙ is) next.1, subst (λ z. Tells z more next.0) one.text next.2)) in
    (all.0, all.1, subst (λ z. Tells text (z ∷ more) all.0) (sym one.answer) all.2)

-- an item that is read, with those after it
told_by : (text start : List ℕ) (p : Phase) (t : List ℕ) (sc : Scan Taken) (more : List Answer) (xs : List Part) → Finishes p t xs → read_item p t ≡ sc → length more + 1 ≡ length xs → ((q : Phase) (rest : List ℕ) (ys : List Part) → stand_after sc ≡ record { rest = rest; phase = q } → Finishes q rest ys → length more ≡ length ys → Whole more × Tells text more ys) → Whole (answer_of text start sc ∷ more) × Tells text (answer_of text start sc ∷ more) xs
told_by text start p t (bad cause u) more xs (ends q rest f) e n next = let z : fault cause u ≡ good (record { part = ending; phase = q }) rest = sym e ∙ f in cc
told_by text start p t (bad cause u) more xs (goes {x = x} q rest f other on) e n next = let z : fault cause u ≡ good (record { part = x; phase = q }) rest = sym e ∙ f in cc
told_by text start p t (good taken u) [] xs (ends q rest f) e n next =
    let is = ap (told_part text) (took_part taken (record { part = ending; phase = q }) u rest (sym e ∙ f)) in
    (inl (is, refl), (is, tt))
told_by text start p t (good taken u) (a ∷ more) xs (ends q rest f) e n next = absurd (omega arith)
told_by text start p t (good taken u) more xs (goes {x = x} {xs = ys} q rest f other on) e n next =
    let there : Taken = record { part = x; phase = q } in
    let same : good taken u ≡ good there rest = sym e ∙ f in
    let part = took_part taken there u rest same in
    let stand : stand_after (good taken u) ≡ stand_after (good there rest) =
    ap (λ z. record { rest = z; phase = taken.phase }) (took_rest taken there u rest same) ∙ ap (λ z. record { rest = rest; phase = z }) (took_phase taken there u rest same) in
    let after = next q rest ys stand on (omega arith) in
    (inr ((λ is. other (sym part ∙ part_over text taken.part is)), after.0), (ap (told_part text) part, after.1))

none_short : {p : Phase} {t : List ℕ} {xs : List Part} → Finishes p t xs → 0 ≡ length xs → ⊥
none_short (ends q rest e) n = omega arith
none_short (goes q rest e other more) n = omega arith

-- calls as many as the items tell these
told : {r s : Reader} {answers : List Answer} → Calls r answers s → (xs : List Part) → Finishes r.phase (left r) xs → length answers ≡ length xs → Whole answers × Tells r.text.now answers xs
told (none r) xs f n = absurd (none_short f n)
told (call r s t a more one rest) xs f n =
    let text = r.text.now in
    let all =
    told_by text (item_start r.phase (left r)) r.phase (left r) (read_item r.phase (left r)) more xs f refl (omega arith)
    (λ q u ys is g m.
    let next = told rest ys (subst (λ (z : Stand). Finishes z.phase z.rest ys) (sym (one.stands ∙ is)) g) m in
    (next.0, subst (λ z. Tells z more ys) one.text next.1)) in
    (subst (λ z. Whole (z ∷ more)) (sym one.answer) all.0, subst (λ z. Tells text (z ∷ more) xs) (sym one.answer) all.1)

-- the first fault that is answered is where reading stops
abbrev StopsAt : List ℕ → Phase → List ℕ → ReadFault → Type 0
StopsAt text p t fault = (at : List ℕ) × Stops p t fault.cause at × (fault ≡ fault_at (spot_before text at) fault.cause)

stopped_by : (text start : List ℕ) (p : Phase) (t : List ℕ) (sc : Scan Taken) (more : List Answer) (fault : ReadFault) → read_item p t ≡ sc → Meets fault (answer_of text start sc ∷ more) → ((q : Phase) (rest : List ℕ) → stand_after sc ≡ record { rest = rest; phase = q } → Meets fault more → StopsAt text q rest fault) → StopsAt text p t fault
stopped_by text start p t (good taken rest) more fault e m f =
    let next = f taken.phase rest refl m in (next.0, later taken.part taken.phase rest e next.1, next.2)
stopped_by text start p t (bad cause rest) more fault e m f =
    let is : cause ≡ fault.cause = ap (λ z. z.cause) m in
    (rest, here (e ∙ ap (λ z. bad z rest) is), sym m ∙ ap (fault_at (spot_before text rest)) is)

stopped : {r s : Reader} {answers : List Answer} → Calls r answers s → (fault : ReadFault) → Meets fault answers → StopsAt r.text.now r.phase (left r) fault
stopped (none r) fault m = absurd m
stopped (call r s t a more one rest) fault m =
    let text = r.text.now in
    stopped_by text (item_start r.phase (left r)) r.phase (left r) (read_item r.phase (left r)) more fault refl (subst (λ z. Meets fault (z ∷ more)) one.answer m)
    (λ q u is on.
    let next = stopped rest fault on in
    (next.0, subst (λ (z : Stand). Stops z.phase z.rest fault.cause next.0) (one.stands ∙ is) next.1, subst (λ z. fault ≡ fault_at (spot_before z next.0) fault.cause) one.text next.2))

-- how a reader stands at first
abbrev pub Starts : List ℕ → Reader → Type 0
Starts text r = (r.text.now ≡ text) × (r.phase ≡ Opening) × (left r ≡ text)

abbrev pub Fails : Reader → Type 0
Fails r = (r.text.now ≡ []) × (r.phase ≡ Failed TooLong) × (left r ≡ [])

pub starts : (text : List ℕ) (r : Reader) → Opened text r → leb (length text) 65536 ≡ true → Starts text r
starts text r o e =
    let all : readable text ≡ text = cond-true (leb (length text) 65536) text [] e in (
      o.whole ∙ all,
      ap (λ (z : Stand). z.phase) o.stands ∙ cond-true (leb (length text) 65536) Opening (Failed TooLong) e,
      ap (λ (z : Stand). z.rest) o.stands ∙ all,
    )

pub fails : (text : List ℕ) (r : Reader) → Opened text r → leb (length text) 65536 ≡ false → Fails r
fails text r o e =
    let none : readable text ≡ [] = cond-false (leb (length text) 65536) text [] e in (
      o.whole ∙ none,
      ap (λ (z : Stand). z.phase) o.stands ∙ cond-false (leb (length text) 65536) Opening (Failed TooLong) e,
      ap (λ (z : Stand). z.rest) o.stands ∙ none,
    )

-- a reader that stands at a fault reads no item and stops at no other fault
never_ends : {p : Phase} {t : List ℕ} {xs : List Part} → Finishes p t xs → (cause : ReadCause) → p ≡ Failed cause → ⊥
unfolding read_item
never_ends {t = t} (ends q rest e) cause is = let z : fault cause t ≡ good (record { part = ending; phase = q }) rest = ap (λ p. read_item p t) (sym is) ∙ e in cc
never_ends {t = t} (goes {x = x} q rest e other more) cause is = let z : fault cause t ≡ good (record { part = x; phase = q }) rest = ap (λ p. read_item p t) (sym is) ∙ e in cc

stays_fault : {p : Phase} {t : List ℕ} {cause : ReadCause} {at : List ℕ} → Stops p t cause at → (first : ReadCause) → p ≡ Failed first → cause ≡ first
unfolding read_item
stays_fault {t = t} {cause = cause} {at = at} (here e) first is = let z : fault first t ≡ bad cause at = ap (λ p. read_item p t) (sym is) ∙ e in cc
stays_fault {t = t} (later x q rest e more) first is = let z : fault first t ≡ good (record { part = x; phase = q }) rest = ap (λ p. read_item p t) (sym is) ∙ e in cc

pub reads_all : ReadsAll
reads_all remarks w h rule runs pattern text shows short =
    let all = reads_every remarks w h rule runs text shows.readable in (
      all.0,
      all.2,
      λ first last answers o calls n.
          let s = starts text first o (le-leb (length text) 65536 short) in
          let done = told calls all.0 (subst (λ z. Finishes z (left first) all.0) (sym s.1) (subst (λ z. Finishes Opening z all.0) (sym s.2) all.1)) n in
          (done.0, subst (λ z. Tells z answers all.0) s.0 done.1),
    )

pub reads_no_other : ReadsNoOther
reads_no_other text first last answers o calls w =
    let all = finished calls w in
    ⊎_elim
    (λ e.
    let s = starts text first o e in
    let f : Finishes Opening text all.0 = subst (λ z. Finishes z text all.0) s.1 (subst (λ z. Finishes first.phase z all.0) s.2 all.1) in
    let one = shows_one text all.0 f in
    (leb-true (length text) 65536 e, (one.0, one.1, one.2, one.3, one.4, one.5, all.0, one.6, one.7, subst (λ z. Tells z answers all.0) s.0 all.2)))
    (λ e. absurd (never_ends all.1 TooLong (fails text first o e).1))
    (cases_Bool (leb (length text) 65536))

-- where a reader of a text that is not too long meets a fault
short_stop : (text : List ℕ) (first : Reader) (fault : ReadFault) → Starts text first → StopsAt first.text.now first.phase (left first) fault → StopsAt text Opening text fault
short_stop text first fault s all = (
  all.0,
  subst (λ z. Stops z text fault.cause all.0) s.1 (subst (λ z. Stops first.phase z fault.cause all.0) s.2 all.1),
  all.2 ∙ ap (λ z. fault_at (spot_before z all.0) fault.cause) s.0,
)

-- the first byte of a text stands in the corner
first_spot : (text : List ℕ) → spot_before text text ≡ corner
unfolding spot_past
first_spot text = let none : length text - length text ≡ 0 = omega arith in ap (spot_at text) none

no_spot : (at : List ℕ) → spot_before [] at ≡ corner
unfolding spot_past
no_spot at = let none : 0 - length at ≡ 0 = omega arith in ap (spot_at []) none

abbrev Faulty : List ℕ → ReadFault → Type 0
Faulty text fault = (at : List ℕ) × AtFault text fault.cause at × Placed text at (spot_of fault) × (fault ≡ fault_at (spot_before text at) fault.cause)

placed_fault : (text at : List ℕ) (fault : ReadFault) → AtFault text fault.cause at → fault ≡ fault_at (spot_before text at) fault.cause → Faulty text fault
placed_fault text at fault h e = (at, h, subst (Placed text at) (sym (ap spot_of e)) (fault_placed text fault.cause at h), e)

pub faults_stand : FaultsStand
faults_stand text first last answers fault o calls m =
    let all = stopped calls fault m in
    ⊎_elim
    (λ e.
    let stop = short_stop text first fault (starts text first o e) all in
    placed_fault text stop.0 fault (stops_at_fault text fault.cause stop.0 stop.1) stop.2)
    (λ e.
    let s = fails text first o e in
    let long : fault.cause ≡ TooLong = stays_fault all.1 TooLong s.1 in
    let whole : AtFault text TooLong text = (grind (arith, nat_tests), refl) in
    placed_fault text text fault (subst (λ k. AtFault text k text) (sym long) whole)
    (all.2 ∙ ap (λ z. fault_at z fault.cause) (ap (λ z. spot_before z all.0) s.0 ∙ no_spot all.0 ∙ sym (first_spot text))))
    (cases_Bool (leb (length text) 65536))

-- a text stops nowhere else
tells_fault : (cause : ReadCause) → ((text at : List ℕ) → AtFault text cause at → Stops Opening text cause at) → TellsFault cause
tells_fault cause stops text at first last answers fault short h o calls m =
    let stop = short_stop text first fault (starts text first o (le-leb (length text) 65536 short)) (stopped calls fault m) in
    let same = stops_once text fault.cause cause stop.0 at stop.1 (stops text at h) in
    stop.2 ∙ ap (λ z. fault_at (spot_before text z) fault.cause) same.1 ∙ ap (fault_at (spot_before text at)) same.0

pub tells_large : TellsFault Size
tells_large = tells_fault Size stops_at_large

pub tells_outside : TellsFault Outside
tells_outside = tells_fault Outside stops_outside

pub refuses_long : RefusesLong
unfolding read_item spot_past
refuses_long text first second r o long a =
    let s = fails text first o (grind (arith, nat_tests)) in
    a.answer
    ∙ ap (λ z. answer_of z (item_start first.phase (left first)) (read_item first.phase (left first))) s.0
    ∙ ap (λ p. answer_of [] (item_start p (left first)) (read_item p (left first))) s.1
    ∙ ap (λ z. answer_of [] z (bad TooLong z)) s.2

pub opens_alike : OpensAlike
opens_alike text first b =
    let e = le-leb (length text) 65536 b.0 in
    let all : readable text ≡ text = cond-true (leb (length text) 65536) text [] e in
    record {
      whole = b.1 ∙ sym all;
      stands = b.2 ∙ ap (λ z. record { rest = z; phase = Opening }) (sym all) ∙ ap (λ p. record { rest = readable text; phase = p }) (sym (cond-true (leb (length text) 65536) Opening (Failed TooLong) e));
    }
