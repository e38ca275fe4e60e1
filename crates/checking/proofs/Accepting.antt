-- What is accepted is what begins a member of the roll.
use Rattle.std.proofs.Common.{◌≡◌, ℕ, ◌+◌, ◌*◌, ◌/◌, ◌%◌, ◌<◌, ◌≤◌, Bool, true, false, cond, ◌||◌, List, [], length, take, Some, None, Ok, Err, Option, Result, nat_lt, sym, refl, ap, ◌∙◌, subst, mul_comm, arith}
use Rattle.std.proofs.Math.Nat.{le-mul_of_pos_right}
use Rattle.std.proofs.lemmas.Bool.{both_ways, cond-true, cond-false, and_parts, and_from, eq-eqb, eqb-true, le-ltb, ltb-true, ltb-false}
use Rattle.std.proofs.lemmas.List.{ext_get_or, get_or-take, length-take-le}
use Rattle.std.proofs.lemmas.List.FromFn.{get_or-map-range_with_len, length-range_with_len}
use Rattle.std.proofs.lemmas.Nat.{mod_below, div_below, div-add-mod'}
use lib.ListN.{length-map}
use Rattle.std.specs.List.{range_with_len}
use Rattle.frames.specs.declared.frame.Frame.{Frame}
use Rattle.frames.specs.Frames.{cells}
use Rattle.rle.specs.declared.fault.ReadFault.{ReadFault}
use Rattle.rules.specs.declared.fault.RuleFault.{RuleFault}
use Rattle.rules.specs.declared.rule.Rule.{Rule}
use Rattle.rules.specs.Forms.{Sets, parsed, written}
use Rattle.rules.proofs.Forms.{forms_stand}
use Rattle.rle.specs.declared.mark.Run.{Run}
use Rattle.rle.specs.Runs.{covers}
use Rattle.rle.specs.Texts.{pattern_text}
use Rattle.rle.proofs.Written.{round_trip}
use Rattle.rolls.specs.Rolls.{Surface, Keeps, Lawful, Roll, at}
use Rattle.keeping.specs.Worked.{worked_out}
use Rattle.keeping.specs.declared.places.InstanceAt.{InstanceAt}
use Rattle.keeping.specs.declared.places.TieAt.{TieAt}
use Rattle.keeping.proofs.Broken.{asking_right}
use Rattle.keeping.proofs.Following.{working_right}
use Rattle.patterns.specs.Laws.{Faulty}
use Rattle.patterns.specs.Laid.{laid}
use Rattle.patterns.specs.Told.{Told, told}
use Rattle.patterns.proofs.Whole.{telling_right, whole}
use Rattle.checking.specs.Checked.{AsksCells, checked, judged, ruled, ruled_by, sized, kept, held, after, are_of, rule_text}
use Rattle.checking.specs.Laws.{FirstOf, Suits, AcceptingLaws, RefusingLaws, RollLaws}
use Rattle.checking.specs.declared.fault.CheckFault.{CheckFault}
use Rattle.checking.specs.declared.fault.CheckFault.TheVariants.{Rows, Read, Rule as RuleFaulty, OtherRule, Size, Instance, Tie, Memory}

-- a named rule is this one exactly when its text is this one's
pub named_is : (r : Rule) (text : List ℕ) (n : Sets) → parsed text ≡ Ok n → are_of r n ≡ true → text ≡ written r.births r.survivals
named_is r text n e is =
    let parts = and_parts _ _ is in
    let same : text ≡ written n.births n.survivals = (forms_stand.2 text n.births n.survivals e).3 in
    same ∙ (λ i. written (eqb-true n.births r.births parts.0 i) (eqb-true n.survivals r.survivals parts.1 i))

pub is_named : (r : Rule) (text : List ℕ) → text ≡ written r.births r.survivals → parsed text ≡ Ok (record { births = r.births; survivals = r.survivals })
is_named r text e = ap parsed e ∙ forms_stand.0 r.births r.survivals r.few_births r.few_survivals r.quiet

pub own_rule : (r : Rule) → are_of r (record { births = r.births; survivals = r.survivals }) ≡ true
own_rule r = and_from _ _ (eq-eqb r.births r.births refl) (eq-eqb r.survivals r.survivals refl)

-- a text that suits comes to its cells
pub to_cells : (s : Surface) (r : Rule) (text : List ℕ) (t : Told) → Suits s r text t → checked s r text ≡ kept s r (laid s.frame t.runs)
to_cells s r text t u =
    let few : nat_lt 8 s.rows ≡ false = le-ltb 8 s.rows u.few in
    let named = is_named r (rule_text t.rule) u.named in
    let ok : ruled r t ≡ Ok tt = ap (ruled_by r t) named ∙ cond-true _ _ _ (own_rule r) in
    let small : sized s.frame t ≡ Ok tt = cond-false _ _ _ ((λ i. le-ltb s.frame.width t.width u.narrow i || le-ltb s.frame.height t.height u.low i)) in
    cond-false (nat_lt 8 s.rows) (Err Rows) (judged s r (told text)) few
    ∙ ap (judged s r) u.tells
    ∙ ap (λ x. after x (after (sized s.frame t) (kept s r (laid s.frame t.runs)))) ok
    ∙ ap (λ x. after x (kept s r (laid s.frame t.runs))) small

-- neither of two holds
pub neither : (a b : Bool) → (a || b) ≡ false → (a ≡ false) × (b ≡ false)
neither true b e = absurd (both_ways true e refl)
neither false b e = (refl, e)

-- such an answer is not the refusal of a question before
past_rows : (b : Bool) (next x : Result (List Bool) CheckFault) → cond b (Err Rows) next ≡ x → AsksCells x → (b ≡ false) × (next ≡ x)
past_rows true next x e c = absurd (subst AsksCells (sym e) c)
past_rows false next x e c = (refl, e)

past_size : (b : Bool) (next x : Result (List Bool) CheckFault) → after (cond b (Err Size) (Ok tt)) next ≡ x → AsksCells x → (b ≡ false) × (next ≡ x)
past_size true next x e c = absurd (subst AsksCells (sym e) c)
past_size false next x e c = (refl, e)

past_other : (b : Bool) (next x : Result (List Bool) CheckFault) → after (cond b (Ok tt) (Err OtherRule)) next ≡ x → AsksCells x → (b ≡ true) × (next ≡ x)
past_other true next x e c = (refl, e)
past_other false next x e c = absurd (subst AsksCells (sym e) c)

past_rule : (r : Rule) (t : Told) (n : Result Sets RuleFault) (next x : Result (List Bool) CheckFault) → after (ruled_by r t n) next ≡ x → AsksCells x → (named : Sets) × (n ≡ Ok named) × (are_of r named ≡ true) × (next ≡ x)
past_rule r t (Err cause) next x e c = absurd (subst AsksCells (sym e) c)
past_rule r t (Ok named) next x e c = let w = past_other (are_of r named) next x e c in (named, refl, w.0, w.1)

past_reading : (s : Surface) (r : Rule) (z : Result Told ReadFault) (x : Result (List Bool) CheckFault) → judged s r z ≡ x → AsksCells x → (t : Told) × (z ≡ Ok t) × (judged s r (Ok t) ≡ x)
past_reading s r (Err fault) x e c = absurd (subst AsksCells (sym e) c)
past_reading s r (Ok t) x e c = (t, refl, e)

-- so the text suits, and its cells are asked
pub from_cells : (s : Surface) (r : Rule) (text : List ℕ) (x : Result (List Bool) CheckFault) → checked s r text ≡ x → AsksCells x → (t : Told) × Suits s r text t × (kept s r (laid s.frame t.runs) ≡ x)
from_cells s r text x e c =
    let few = past_rows (nat_lt 8 s.rows) (judged s r (told text)) x e c in
    let read = past_reading s r (told text) x few.1 c in
    let t = read.0 in
    let cells_of = kept s r (laid s.frame t.runs) in
    let rule = past_rule r t (parsed (rule_text t.rule)) (after (sized s.frame t) cells_of) x read.2 c in
    let size = past_size (nat_lt s.frame.width t.width || nat_lt s.frame.height t.height) cells_of x rule.3 c in
    let small = neither _ _ size.0 in (
      t,
      record { few = ltb-false 8 s.rows few.0; tells = read.1; named = named_is r (rule_text t.rule) rule.0 rule.1 rule.2; narrow = ltb-false s.frame.width t.width small.0; low = ltb-false s.frame.height t.height small.1 },
      size.1,
    )

-- no question after the reading answers a fault of the text, or of the space
NoRead : Result (List Bool) CheckFault → Type 0
NoRead (Ok first) = Unit {0}
NoRead (Err Rows) = ⊥
NoRead (Err (Read fault)) = ⊥
NoRead (Err (RuleFaulty fault)) = Unit {0}
NoRead (Err OtherRule) = Unit {0}
NoRead (Err Size) = Unit {0}
NoRead (Err (Instance at)) = Unit {0}
NoRead (Err (Tie at)) = Unit {0}
NoRead (Err (Memory e)) = Unit {0}

held_later : (first : List Bool) (o : Option TieAt) (i : Option InstanceAt) → NoRead (held first o i)
unfolding NoRead
held_later first None None = tt
held_later first (Some at) None = tt
held_later first o (Some at) = tt

size_later : (b : Bool) (next : Result (List Bool) CheckFault) → NoRead next → NoRead (after (cond b (Err Size) (Ok tt)) next)
unfolding NoRead
size_later true next h = tt
size_later false next h = h

other_later : (b : Bool) (next : Result (List Bool) CheckFault) → NoRead next → NoRead (after (cond b (Ok tt) (Err OtherRule)) next)
unfolding NoRead
other_later true next h = h
other_later false next h = tt

rule_later : (r : Rule) (t : Told) (n : Result Sets RuleFault) (next : Result (List Bool) CheckFault) → NoRead next → NoRead (after (ruled_by r t n) next)
unfolding NoRead
rule_later r t (Err cause) next h = tt
rule_later r t (Ok named) next h = other_later (are_of r named) next h

judged_later : (s : Surface) (r : Rule) (t : Told) → NoRead (judged s r (Ok t))
judged_later s r t =
    rule_later r t (parsed (rule_text t.rule)) _
    (size_later (nat_lt s.frame.width t.width || nat_lt s.frame.height t.height) (kept s r (laid s.frame t.runs)) (held_later (laid s.frame t.runs) _ _))

judged_rows : (s : Surface) (r : Rule) (z : Result Told ReadFault) → judged s r z ≡ Err Rows → ⊥
unfolding NoRead
judged_rows s r (Err fault) e = cc
judged_rows s r (Ok t) e = subst NoRead e (judged_later s r t)

judged_read : (s : Surface) (r : Rule) (fault : ReadFault) (z : Result Told ReadFault) → judged s r z ≡ Err (Read fault) → z ≡ Err fault
unfolding NoRead
judged_read s r fault (Err other) e = cc
judged_read s r fault (Ok t) e = absurd (subst NoRead e (judged_later s r t))

rows_told : (s : Surface) (r : Rule) (text : List ℕ) (b : Bool) → nat_lt 8 s.rows ≡ b → cond b (Err Rows) (judged s r (told text)) ≡ Err Rows → 8 < s.rows
rows_told s r text true few e = ltb-true 8 s.rows few
rows_told s r text false few e = absurd (judged_rows s r (told text) e)

reading_told : (s : Surface) (r : Rule) (text : List ℕ) (fault : ReadFault) (b : Bool) → nat_lt 8 s.rows ≡ b → cond b (Err Rows) (judged s r (told text)) ≡ Err (Read fault) → (s.rows ≤ 8) × Faulty text fault
reading_told s r text fault true few e = cc
reading_told s r text fault false few e = (ltb-false 8 s.rows few, telling_right.faulty text fault (judged_read s r fault (told text) e))

-- what the answer about the cells says
held_ok : (first f : List Bool) (o : Option TieAt) (i : Option InstanceAt) → held first o i ≡ Ok f → (first ≡ f) × (o ≡ None) × (i ≡ None)
held_ok first f None None e = (cc, refl, refl)
held_ok first f (Some at) None e = cc
held_ok first f o (Some at) e = cc

held_instance : (first : List Bool) (b : InstanceAt) (o : Option TieAt) (i : Option InstanceAt) → held first o i ≡ Err (Instance b) → i ≡ Some b
held_instance first b None None e = cc
held_instance first b (Some at) None e = cc
held_instance first b o (Some at) e = cc

held_tie : (first : List Bool) (b : TieAt) (o : Option TieAt) (i : Option InstanceAt) → held first o i ≡ Err (Tie b) → (o ≡ Some b) × (i ≡ None)
held_tie first b None None e = cc
held_tie first b (Some at) None e = (cc, refl)
held_tie first b o (Some at) e = cc

pub laid_long : (f : Frame) (runs : List Run) → length (laid f runs) ≡ f.width * f.height
laid_long f runs = length-map (range_with_len 0 (f.width * f.height)) _ ∙ length-range_with_len 0 (f.width * f.height)

-- the first generation is kept exactly when what is worked out of it keeps ties and rule
kept_keeps : (s : Surface) (r : Rule) (first f : List Bool) → length first ≡ s.frame.width * s.frame.height → kept s r first ≡ Ok f → Keeps s r (worked_out s r first)
kept_keeps s r first f long e =
    let w = held_ok first f _ _ e in
    asking_right.kept s r (worked_out s r first) (working_right.long s r first long) w.2 w.1

pub keeps_kept : (s : Surface) (r : Rule) (first : List Bool) → Keeps s r (worked_out s r first) → kept s r first ≡ Ok first
keeps_kept s r first k = let w = asking_right.unbroken s r (worked_out s r first) k in (λ i. held first (w.1 i) (w.0 i))

begins_member : (s : Surface) (r : Rule) (first : List Bool) → length first ≡ s.frame.width * s.frame.height → Keeps s r (worked_out s r first) → FirstOf s r first
begins_member s r first long k = (worked_out s r first, k, working_right.begins s r first long)

member_keeps : (s : Surface) (r : Rule) (first : List Bool) → Lawful s → FirstOf s r first → Keeps s r (worked_out s r first)
member_keeps s r first law m = subst (Keeps s r) (working_right.only s r m.0 law m.1 ∙ ap (worked_out s r) m.2) m.1

pub accepting_right : AcceptingLaws
accepting_right = record {
  accepted = λ s r text t u. (λ e. kept_keeps s r (laid s.frame t.runs) _ (laid_long s.frame t.runs) (sym (to_cells s r text t u) ∙ e), λ k. to_cells s r text t u ∙ keeps_kept s r (laid s.frame t.runs) k);
  member = λ s r first law long. (begins_member s r first long, member_keeps s r first law);
  only = λ s r text first e. let w = from_cells s r text (Ok first) e tt in let t = w.0 in (t, w.1, sym (held_ok (laid s.frame t.runs) first _ _ w.2).0);
}

pub refusing_right : RefusingLaws
refusing_right = record {
  rows = λ s r text e. rows_told s r text (nat_lt 8 s.rows) refl e;
  reading = λ s r text fault e. reading_told s r text fault (nat_lt 8 s.rows) refl e;
  instance = λ s r text b e.
      let w = from_cells s r text (Err (Instance b)) e tt in
      let t = w.0 in
      (t, w.1, asking_right.instance_first s r _ b (held_instance (laid s.frame t.runs) b _ _ w.2));
  tie = λ s r text b e.
      let w = from_cells s r text (Err (Tie b)) e tt in
      let t = w.0 in
      let h = held_tie (laid s.frame t.runs) b _ _ w.2 in
      (t, w.1, h.1, asking_right.tie_first s _ b h.0);
}

-- what is computed of cells is about cells
held_asks : (first : List Bool) (o : Option TieAt) (i : Option InstanceAt) → AsksCells (held first o i)
held_asks first None None = tt
held_asks first (Some at) None = tt
held_asks first o (Some at) = tt

pub kept_asks : (s : Surface) (r : Rule) (first : List Bool) → AsksCells (kept s r first)
kept_asks s r first = held_asks first _ _

-- the runs that are written of a filling cover its first generation
laid_first : (f : Frame) (g : List Bool) (runs : List Run) → length g ≡ cells f → ((x y : ℕ) → x < f.width → y < f.height → covers 0 0 runs x y ≡ at g (y * f.width + x)) → laid f runs ≡ take (f.width * f.height) g
laid_first f g runs long shows =
    let n = f.width * f.height in
    let most : n ≤ n * f.period = le-mul_of_pos_right n f.lasting in
    let fits : n ≤ length g = omega (arith, long, most) in
    ext_get_or false (laid f runs) (take n g) (laid_long f runs ∙ sym (length-take-le n g fits)) (λ c less.
    let inside : c < n = omega (arith, laid_long f runs, less) in
    get_or-map-range_with_len (λ k. covers 0 0 runs (k % f.width) (k / f.width)) 0 n c c false inside (omega arith)
    ∙ shows (c % f.width) (c / f.width) (mod_below c f.width f.wide) (div_below c f.width f.height f.wide (omega (arith, inside, mul_comm f.width f.height)))
    ∙ ap (at g) (div-add-mod' c f.width)
    ∙ sym (get_or-take n g c false inside))

text_of : (s : Surface) (r : Rule) (f : List Bool) → Lawful s → s.rows ≤ 8 → Roll s r f → checked s r (pattern_text s.frame.width s.frame.height (written r.births r.survivals) f) ≡ Ok (take (s.frame.width * s.frame.height) f)
text_of s r f law few k =
    let w = s.frame.width in
    let h = s.frame.height in
    let name = written r.births r.survivals in
    let text = pattern_text w h name f in
    let back = round_trip w h r.births r.survivals f s.frame.wide s.frame.narrow s.frame.tall s.frame.low in
    let all = whole text back.items [] w h (Some name) back.runs back.short back.finishes back.given in
    let t = all.0 in
    let parts = all.2 in
    let u : Suits s r text t = record { few = few; tells = all.1; named = ap rule_text parts.named; narrow = omega (arith, parts.width); low = omega (arith, parts.height) } in
    let same : laid s.frame t.runs ≡ take (w * h) f = ap (laid s.frame) parts.marked ∙ laid_first s.frame f back.runs k.long back.shows in
    let first : FirstOf s r (laid s.frame t.runs) = (f, k, sym same) in
    to_cells s r text t u ∙ keeps_kept s r (laid s.frame t.runs) (member_keeps s r (laid s.frame t.runs) law first) ∙ ap Ok same

pub roll_right : RollLaws
roll_right = record {
  back = text_of;
  exactly = λ s r first law few. (
    λ m. (pattern_text s.frame.width s.frame.height (written r.births r.survivals) m.0, text_of s r m.0 law few m.1 ∙ ap Ok m.2),
    λ p.
        let w = accepting_right.only s r p.0 first p.1 in
        let t = w.0 in
        let e : checked s r p.0 ≡ Ok (laid s.frame t.runs) = p.1 ∙ ap Ok w.2 in
        let k = (accepting_right.accepted s r p.0 t w.1).0 e in
        subst (FirstOf s r) (sym w.2) (begins_member s r (laid s.frame t.runs) (laid_long s.frame t.runs) k),
  );
}
