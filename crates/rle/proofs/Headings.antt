-- Headings: what reading one shows, and that the forms of headings are read.
use Rattle.std.proofs.Common.{◌≡◌, ℕ, ◌<◌, ◌≤◌, true, false, eqb, leb, ◌⊎◌, List, [], ◌∷◌, ◌++◌, drop, Some, None, Option, sym, refl, ap, ◌∙◌, subst, inl, inr, ⊎_elim, arith}
use Rattle.std.proofs.lemmas.List.{append_assoc, append-nil}
use Rattle.std.proofs.lemmas.Bool.{cases_Bool, cond-true, cond-false, eqb-true, leb-true, leb-false}
use Rattle.std.proofs.lemmas.Bool.Decides.{nat_tests}
use Rattle.lines.specs.Lines.{blank, line_length, first_line, trimmed}
use Rattle.rle.specs.declared.fault.ReadCause.TheVariants.{Byte, Size}
use Rattle.rle.specs.Forms.{Each, on_line, Spells, Numeral, NoDigit, RuleForm, HeadForm}
use Rattle.rle.specs.Items.{Head, before_width, before_height, before_rule, line_over, ruled, unruled, tailed, heading}
use Rattle.rle.specs.Laws.{BeforeSize, LargeSize}
use Rattle.rle.specs.Scans.{Scan, good, bad, and_then, this_byte, past, digit, in_turn, size, judged}
use Rattle.rle.proofs.Lines.{first_of, over_of, line_view, trimmed_split, trimmed_over, trimmed_twice, each_front, each_both, blanks_on_line, solid_line, solid_front}
use Rattle.rle.proofs.Numerals.{numeral_solid, one_numeral, see_size, size_judged, size_reads, size_small}
use Rattle.rle.proofs.Pasts.{past_split, past_over, past_stop, past_first, past_end}
use Rattle.rle.proofs.Seen.{Seen, Same, Both, seen_then, seen_as, begins_with}
use Rattle.rle.proofs.Sizes.{NoSize, no_size, then_no_size, if_no_size, byte_no_size, turn_no_size, then_bad, large_number}
use Rattle.rle.proofs.Turns.{Spelled, plain, spells_plain, see_turn, turn_reads, turn_past}

-- two headings of one size
abbrev pub Alike : Head → Head → Type 0
Alike a b = (b.width ≡ a.width) × (b.height ≡ a.height)

-- a rule and the line's end
abbrev Ruled : ℕ → ℕ → Head → List ℕ → Type 0
Ruled w h head u =
    (head.width ≡ w) × (head.height ≡ h) × (r : List ℕ) × (bs : List ℕ) × (head.rule ≡ Some r) × Each blank bs × Each on_line r × (past blank (r ++ bs) ≡ r ++ bs) × (trimmed r ≡ r) × (u ≡ (r ++ bs) ++ (10 ∷ []))

-- what follows a height, with the line's end
abbrev Tail : ℕ → ℕ → Head → List ℕ → Type 0
Tail w h head u = (head.width ≡ w) × (head.height ≡ h) × (tail : List ℕ) × RuleForm head.rule tail × (u ≡ tail ++ (10 ∷ []))

abbrev named : ℕ → ℕ → List ℕ → Head
named w h t = record { width = w; height = h; rule = Some (trimmed (first_line t)); named = t }

abbrev nameless : ℕ → ℕ → List ℕ → Head
nameless w h t = record { width = w; height = h; rule = None; named = t }

ruled_good : (w h : ℕ) (t r : List ℕ) → line_over t ≡ good tt r → ruled w h t ≡ good (named w h t) r
ruled_good w h t r e = ap (λ x. and_then x (λ _ rest. good (named w h t) rest)) e

end_line : (l : List ℕ) (b : ℕ) (v : List ℕ) → (l ++ (10 ∷ [])) ++ (b ∷ v) ≡ l ++ (10 ∷ (b ∷ v))
end_line l b v = append_assoc l (10 ∷ []) (b ∷ v)

see_ruled : (w h : ℕ) (t : List ℕ) → past blank t ≡ t → Seen Alike (Ruled w h) (ruled w h) t (ruled w h t)
see_ruled w h t solid =
    let P : Scan Head → Type 0 = Seen Alike (Ruled w h) (ruled w h) t in
    let view = line_view t in
    ⊎_elim
    (λ e.
    let split = trimmed_split t in
    let on : Each on_line t = subst (Each on_line) (sym e.1) view.0 in
    subst P (sym (ap (λ x. and_then x (λ _ rest. good (named w h t) rest)) e.0)) (
      refl,
      (
        named w h t,
        10 ∷ [],
        (
          refl,
          refl,
          trimmed t,
          split.0,
          ap (λ x. Some (trimmed x)) (sym e.1),
          split.1,
          each_front on_line (trimmed t) split.0 (subst (Each on_line) split.2 on),
          subst (λ x. past blank x ≡ x) split.2 solid,
          trimmed_twice t,
          ap (λ x. x ++ (10 ∷ [])) split.2,
        ),
      ),
    ))
    (λ over.
    let line = first_line t in
    let split = trimmed_split line in
    let solid' : past blank line ≡ line = solid_front line over.0 (subst (λ x. past blank x ≡ x) over.2 solid) in
    subst P (sym (ruled_good w h t over.0 over.1)) (
      line ++ (10 ∷ []),
      (
        refl,
        refl,
        trimmed line,
        split.0,
        refl,
        split.1,
        each_front on_line (trimmed line) split.0 (subst (Each on_line) split.2 view.0),
        subst (λ x. past blank x ≡ x) split.2 solid',
        trimmed_twice line,
        ap (λ x. x ++ (10 ∷ [])) split.2,
      ),
      over.2 ∙ sym (append_assoc line (10 ∷ []) over.0),
      λ b r v e.
          let text = (line ++ (10 ∷ [])) ++ (b ∷ v) in
          (named w h text, ruled_good w h text (b ∷ v) (ap line_over (end_line line b v) ∙ over_of line (b ∷ v) view.0), (refl, refl)),
    ))
    view.1

none_past : past blank [] ≡ []
none_past = past_end blank

none_trimmed : trimmed [] ≡ []
unfolding trimmed
none_trimmed = refl

tail_ruled : (w h b : ℕ) (t : List ℕ) → eqb b 44 ≡ true → tailed w h (b ∷ t) ≡ and_then (in_turn before_rule (b ∷ t)) (λ _ rest. ruled w h rest)
tail_ruled w h b t e = cond-true (eqb b 44) _ _ e

tail_unruled : (w h b : ℕ) (t : List ℕ) → eqb b 44 ≡ false → tailed w h (b ∷ t) ≡ unruled w h (past blank (b ∷ t))
tail_unruled w h b t e = cond-false (eqb b 44) _ _ e

is_tail : (w h : ℕ) (head : Head) (u : List ℕ) → Both (Spelled before_rule) (λ _. Ruled w h) head u → Tail w h head u
is_tail w h head u p =
    let q = p.4 in (
      q.0,
      q.1,
      p.1 ++ (q.2 ++ q.3),
      subst (λ x. RuleForm x (p.1 ++ (q.2 ++ q.3))) (sym q.4) (p.1, q.3, p.3, q.5, q.6, q.7, q.8, refl),
      p.5 ∙ ap (λ x. p.1 ++ x) q.9 ∙ sym (append_assoc p.1 (q.2 ++ q.3) (10 ∷ [])),
    )

see_tail_ruled : (w h b : ℕ) (t : List ℕ) → eqb b 44 ≡ true → Seen Alike (Tail w h) (tailed w h) (b ∷ t) (tailed w h (b ∷ t))
see_tail_ruled w h b t e =
    let P : Scan Head → Type 0 = Seen Alike (Tail w h) (tailed w h) (b ∷ t) in
    let f : List ℕ → Scan Head = λ x. and_then (in_turn before_rule x) (λ _ rest. ruled w h rest) in
    let all =
    seen_then Alike (Spelled before_rule) (λ _. Ruled w h) (in_turn before_rule) (λ _ rest. ruled w h rest)
    (λ x. past blank x ≡ x)
    (see_turn before_rule)
    (λ x a rest g. turn_past before_rule refl x rest g)
    (λ a x solid. see_ruled w h x solid)
    (λ a. (record { width = w; height = h; rule = Some []; named = [] }, 10 ∷ [], (refl, refl, [], [], refl, tt, tt, none_past, none_trimmed, refl)))
    (b ∷ t) in
    subst P (sym (tail_ruled w h b t e))
    (seen_as Alike (Both (Spelled before_rule) (λ _. Ruled w h)) (Tail w h) f (tailed w h) (b ∷ t) (is_tail w h)
    (λ u c r v g. let s = begins_with b t u c r v g in ap (tailed w h) s.1 ∙ tail_ruled w h b s.0 e ∙ ap f (sym s.1))
    (f (b ∷ t)) all)

-- a blank is no comma
blank_no_comma : (b : ℕ) → blank b ≡ true → eqb b 44 ≡ false
blank_no_comma b h =
    ⊎_elim
    (λ e. let z : blank 44 ≡ true = subst (λ x. blank x ≡ true) (eqb-true b 44 e) h in cc)
    (λ e. e)
    (cases_Bool (eqb b 44))

-- after blanks and a byte that is no comma comes no rule
tail_past : (w h : ℕ) (bs : List ℕ) (c : ℕ) (v : List ℕ) → Each blank bs → eqb c 44 ≡ false → tailed w h (bs ++ (c ∷ v)) ≡ unruled w h (past blank (c ∷ v))
tail_past w h [] c v h₂ e = tail_unruled w h c v e
tail_past w h (b ∷ bs) c v h₂ e = tail_unruled w h b (bs ++ (c ∷ v)) (blank_no_comma b h₂.0) ∙ ap (unruled w h) (past_over blank (b ∷ bs) (c ∷ v) h₂)

unruled_good : (w h c : ℕ) (v : List ℕ) → eqb c 10 ≡ true → unruled w h (c ∷ v) ≡ good (nameless w h (c ∷ v)) v
unruled_good w h c v e = ap (λ x. and_then x (λ _ rest. good (nameless w h (c ∷ v)) rest)) (cond-true (eqb c 10) _ _ e)

unruled_bad : (w h c : ℕ) (v : List ℕ) → eqb c 10 ≡ false → unruled w h (c ∷ v) ≡ bad Byte (c ∷ v)
unruled_bad w h c v e = ap (λ x. and_then x (λ _ rest. good (nameless w h (c ∷ v)) rest)) (cond-false (eqb c 10) _ _ e)

-- the first byte after blanks is no comma where the text begins with none
no_comma_past : (b : ℕ) (t bs : List ℕ) (c : ℕ) (cs : List ℕ) → eqb b 44 ≡ false → Each blank bs → b ∷ t ≡ bs ++ (c ∷ cs) → blank c ≡ false → (bs ≡ [] → ⊥) ⊎ (eqb c 44 ≡ false)
no_comma_past b t [] c cs e h g s = let same : b ≡ c = cc in inr (subst (λ x. eqb x 44 ≡ false) same e)
no_comma_past b t (d ∷ bs) c cs e h g s = inl (λ z. cc)

tail_stops : (w h : ℕ) (bs : List ℕ) (c : ℕ) (v : List ℕ) → Each blank bs → ((bs ≡ [] → ⊥) ⊎ (eqb c 44 ≡ false)) → blank c ≡ false → tailed w h (bs ++ (c ∷ v)) ≡ unruled w h (c ∷ v)
tail_stops w h [] c v h₂ e s = ⊎_elim (λ z. absurd (z refl)) (λ z. tail_unruled w h c v z ∙ ap (unruled w h) (past_stop blank c v s)) e
tail_stops w h (b ∷ bs) c v h₂ e s =
    tail_unruled w h b (bs ++ (c ∷ v)) (blank_no_comma b h₂.0) ∙ ap (unruled w h) (past_over blank (b ∷ bs) (c ∷ v) h₂ ∙ past_stop blank c v s)

unruled_seen : (w h b : ℕ) (t bs p : List ℕ) → eqb b 44 ≡ false → Each blank bs → b ∷ t ≡ bs ++ p → past blank (b ∷ t) ≡ p → Seen Alike (Tail w h) (tailed w h) (b ∷ t) (unruled w h p)
unruled_seen w h b t bs [] e g s q = (refl, (nameless w h [], 10 ∷ [], (refl, refl, bs, g, ap (λ x. x ++ (10 ∷ [])) (s ∙ append-nil bs))))
unruled_seen w h b t bs (c ∷ cs) e g s q =
    let P : Scan Head → Type 0 = Seen Alike (Tail w h) (tailed w h) (b ∷ t) in
    let solid = past_first blank (b ∷ t) c cs q in
    let other = no_comma_past b t bs c cs e g s solid in
    ⊎_elim
    (λ f.
    let newline : c ≡ 10 = eqb-true c 10 f in
    subst P (sym (unruled_good w h c cs f)) (
      bs ++ (10 ∷ []),
      (refl, refl, bs, g, refl),
      s ∙ ap (λ x. bs ++ (x ∷ cs)) newline ∙ sym (append_assoc bs (10 ∷ []) cs),
      λ d r v i. (
        nameless w h (10 ∷ (d ∷ v)),
        ap (tailed w h) (end_line bs d v) ∙ tail_past w h bs 10 (d ∷ v) g refl ∙ ap (unruled w h) (past_stop blank 10 (d ∷ v) refl) ∙ unruled_good w h 10 (d ∷ v) refl,
        (refl, refl),
      ),
    ))
    (λ f.
    subst P (sym (unruled_bad w h c cs f)) (
      bs,
      c,
      cs,
      refl,
      s,
      (nameless w h [], 10 ∷ [], (refl, refl, bs, g, refl)),
      λ v. tail_stops w h bs c v g other solid ∙ unruled_bad w h c v f,
    ))
    (cases_Bool (eqb c 10))

see_tail : (w h : ℕ) (t : List ℕ) → Seen Alike (Tail w h) (tailed w h) t (tailed w h t)
see_tail w h [] = (refl, (nameless w h [], 10 ∷ [], (refl, refl, [], tt, refl)))
see_tail w h (b ∷ t) =
    let P : Scan Head → Type 0 = Seen Alike (Tail w h) (tailed w h) (b ∷ t) in
    ⊎_elim
    (see_tail_ruled w h b t)
    (λ e. let s = past_split blank (b ∷ t) in subst P (sym (tail_unruled w h b t e)) (unruled_seen w h b t s.0 (past blank (b ∷ t)) e s.1 s.2 refl))
    (cases_Bool (eqb b 44))

-- a heading's line with its newline
abbrev pub Headed : Head → List ℕ → Type 0
Headed head u = (line : List ℕ) × HeadForm head.width head.height head.rule line × (u ≡ line ++ (10 ∷ []))

abbrev AfterHeight : ℕ → Head → List ℕ → Type 0
AfterHeight w = Both Numeral (λ h. Tail w h)

abbrev AfterWidth : ℕ → Head → List ℕ → Type 0
AfterWidth w = Both (Spelled before_height) (λ _. AfterHeight w)

-- what stands for the rest of a heading that is cut off
default_tail : (w h : ℕ) → (head : Head) × (v : List ℕ) × Tail w h head v
default_tail w h = (nameless w h [], 10 ∷ [], (refl, refl, [], tt, refl))

default_height : (w : ℕ) → (head : Head) × (v : List ℕ) × AfterHeight w head v
default_height w = let d = default_tail w 1 in (d.0, (49 ∷ []) ++ d.1, (1, 49 ∷ [], d.1, one_numeral, d.2, refl))

default_width : (w : ℕ) → (head : Head) × (v : List ℕ) × AfterWidth w head v
default_width w = let d = default_height w in (d.0, plain before_height ++ d.1, (tt, plain before_height, d.1, spells_plain before_height, d.2, refl))

default_sizes : (head : Head) × (v : List ℕ) × Both Numeral AfterWidth head v
default_sizes = let d = default_width 1 in (d.0, (49 ∷ []) ++ d.1, (1, 49 ∷ [], d.1, one_numeral, d.2, refl))

-- forms that follow one another are that of a heading
is_headed : (head : Head) (u : List ℕ) → Both (Spelled before_width) (λ _. Both Numeral AfterWidth) head u → Headed head u
is_headed head u p =
    let q = p.4 in
    let r = q.4 in
    let s = r.4 in
    let t = s.4 in
    let line = p.1 ++ (q.1 ++ (r.1 ++ (s.1 ++ t.2))) in (
      line,
      record {
        first = p.1;
        width = q.1;
        second = r.1;
        height = s.1;
        tail = t.2;
        first_spelled = p.3;
        is_width = subst (λ x. Numeral x q.1) (sym t.0) q.3;
        second_spelled = r.3;
        is_height = subst (λ x. Numeral x s.1) (sym t.1) s.3;
        ruled = t.3;
        whole = refl;
      },
      p.5 ∙ ap (λ x. p.1 ++ x) (q.5 ∙ ap (λ x. q.1 ++ x) (r.5 ∙ ap (λ x. r.1 ++ x) (s.5 ∙ ap (λ x. s.1 ++ x) t.4))) ∙ simp append_assoc,
    )

see_height : (w : ℕ) (t : List ℕ) → Seen Alike (AfterHeight w) (λ x. and_then (size x) (λ h d. tailed w h d)) t (and_then (size t) (λ h d. tailed w h d))
see_height w = seen_then Alike Numeral (λ h. Tail w h) size (λ h d. tailed w h d) (λ x. Unit {0}) see_size (λ x a rest g. tt) (λ h x g. see_tail w h x) (default_tail w)

see_width : (w : ℕ) (t : List ℕ) → Seen Alike (AfterWidth w) (λ x. and_then (in_turn before_height x) (λ _ c. and_then (size c) (λ h d. tailed w h d))) t (and_then (in_turn before_height t) (λ _ c. and_then (size c) (λ h d. tailed w h d)))
see_width w =
    seen_then Alike (Spelled before_height) (λ _. AfterHeight w) (in_turn before_height) (λ _ c. and_then (size c) (λ h d. tailed w h d)) (λ x. Unit {0}) (see_turn before_height) (λ x a rest g. tt) (λ a x g. see_height w x) (λ a. default_height w)

abbrev pub from_width : ℕ → List ℕ → Scan Head
from_width w b = and_then (in_turn before_height b) (λ _ c. and_then (size c) (λ h d. tailed w h d))

see_sizes : (t : List ℕ) → Seen Alike (Both Numeral AfterWidth) (λ x. and_then (size x) from_width) t (and_then (size t) from_width)
see_sizes = seen_then Alike Numeral AfterWidth size from_width (λ x. Unit {0}) see_size (λ x a rest g. tt) (λ w x g. see_width w x) default_width

pub see_heading : (t : List ℕ) → Seen Alike Headed heading t (heading t)
unfolding heading
see_heading t =
    let f : List ℕ → Scan Head = λ x. and_then (in_turn before_width x) (λ _ a. and_then (size a) from_width) in
    seen_as Alike (Both (Spelled before_width) (λ _. Both Numeral AfterWidth)) Headed f heading t is_headed (λ u b r v g. refl) (f t)
    (seen_then Alike (Spelled before_width) (λ _. Both Numeral AfterWidth) (in_turn before_width) (λ _ a. and_then (size a) from_width) (λ x. Unit {0}) (see_turn before_width) (λ x a rest g. tt) (λ a x g. see_sizes x) (λ a. default_sizes) t)

-- what follows a height is read: without a rule, and with one
abbrev Read : ℕ → ℕ → Option (List ℕ) → List ℕ → Scan Head → Type 0
Read w h rule v s = (head : Head) × (s ≡ good head v) × (head.width ≡ w) × (head.height ≡ h) × (head.rule ≡ rule)

rule_reads : (w h : ℕ) (key r bs v : List ℕ) → Spells before_rule key → Each blank bs → Each on_line r → past blank (r ++ bs) ≡ r ++ bs → trimmed r ≡ r → Read w h (Some r) v (tailed w h (key ++ ((r ++ bs) ++ (10 ∷ v))))
rule_reads w h key r bs v spelled blanks line solid whole =
    let y = (r ++ bs) ++ (10 ∷ v) in
    let on : Each on_line (r ++ bs) = each_both on_line r bs line (blanks_on_line bs blanks) in
    let turn : in_turn before_rule (key ++ y) ≡ good tt y = turn_reads before_rule key y (refl, (refl, (refl, (refl, (refl, (refl, tt)))))) spelled (solid_line (r ++ bs) v solid) in
    let text : key ++ y ≡ 44 ∷ ((spelled.0 ++ spelled.1) ++ y) = ap (λ x. x ++ y) spelled.4 in (
      named w h y,
      ap (tailed w h) text
          ∙ tail_ruled w h 44 ((spelled.0 ++ spelled.1) ++ y) refl
          ∙ ap (λ x. and_then (in_turn before_rule x) (λ _ rest. ruled w h rest)) (sym text)
          ∙ ap (λ x. and_then x (λ _ rest. ruled w h rest)) turn
          ∙ ruled_good w h y v (over_of (r ++ bs) v on),
      refl,
      refl,
      ap Some (ap trimmed (first_of (r ++ bs) v on) ∙ trimmed_over r bs blanks ∙ whole),
    )

tail_reads : (w h : ℕ) (rule : Option (List ℕ)) (tail v : List ℕ) → RuleForm rule tail → Read w h rule v (tailed w h (tail ++ (10 ∷ v)))
tail_reads w h None tail v form =
    (nameless w h (10 ∷ v), tail_past w h tail 10 v form refl ∙ ap (unruled w h) (past_stop blank 10 v refl) ∙ unruled_good w h 10 v refl, refl, refl, refl)
tail_reads w h (Some r) tail v form =
    let text : tail ++ (10 ∷ v) ≡ form.0 ++ ((r ++ form.1) ++ (10 ∷ v)) = ap (λ x. x ++ (10 ∷ v)) form.7 ∙ append_assoc form.0 (r ++ form.1) (10 ∷ v) in
    subst (λ x. Read w h (Some r) v (tailed w h x)) (sym text) (rule_reads w h form.0 r form.1 v form.2 form.3 form.4 form.5 form.6)

-- no digit follows a height
blank_no_digit : (b : ℕ) → blank b ≡ true → digit b ≡ false
blank_no_digit b h = grind (arith, nat_tests)

tail_no_digit : (rule : Option (List ℕ)) (tail v : List ℕ) → RuleForm rule tail → NoDigit (tail ++ (10 ∷ v))
tail_no_digit None [] v form = refl
tail_no_digit None (b ∷ tail) v form = blank_no_digit b form.0
tail_no_digit (Some r) tail v form = subst (λ x. NoDigit (x ++ (10 ∷ v))) (sym (form.7 ∙ ap (λ x. x ++ (r ++ form.1)) form.2.4)) refl

-- a heading is read where both sizes are at most 32, and else it is at fault for a size
abbrev pub HeadRead : ℕ → ℕ → Option (List ℕ) → List ℕ → Scan Head → Type 0
HeadRead w h rule v s = ((w ≤ 32) × (h ≤ 32) × Read w h rule v s) ⊎ ((x : List ℕ) × (s ≡ bad Size x) × (w ≤ 32 → h ≤ 32 → ⊥))

by_height : (w h : ℕ) (rule : Option (List ℕ)) (tail start v : List ℕ) → w ≤ 32 → RuleForm rule tail → HeadRead w h rule v (and_then (judged start h (tail ++ (10 ∷ v))) (λ n d. tailed w n d))
by_height w h rule tail start v few form =
    let P : Scan ℕ → Type 0 = λ x. HeadRead w h rule v (and_then x (λ n d. tailed w n d)) in
    ⊎_elim
    (λ e. subst P (sym (cond-true (leb h 32) (good h (tail ++ (10 ∷ v))) (bad Size start) e)) (inl (few, leb-true h 32 e, tail_reads w h rule tail v form)))
    (λ e. subst P (sym (cond-false (leb h 32) (good h (tail ++ (10 ∷ v))) (bad Size start) e)) (inr (start, refl, λ a b. omega (arith, leb-false h 32 e))))
    (cases_Bool (leb h 32))

by_width : (w h : ℕ) (rule : Option (List ℕ)) (start second height tail v : List ℕ) → Spells before_height second → Numeral h height → RuleForm rule tail → HeadRead w h rule v (and_then (judged start w (second ++ (height ++ (tail ++ (10 ∷ v))))) from_width)
by_width w h rule start second height tail v spelled is form =
    let rest = height ++ (tail ++ (10 ∷ v)) in
    let P : Scan ℕ → Type 0 = λ x. HeadRead w h rule v (and_then x from_width) in
    let Q : Scan Head → Type 0 = HeadRead w h rule v in
    ⊎_elim
    (λ e.
    let turn : in_turn before_height (second ++ rest) ≡ good tt rest = turn_reads before_height second rest (refl, (refl, (refl, tt))) spelled (numeral_solid h height (tail ++ (10 ∷ v)) is) in
    let sized : size rest ≡ judged rest h (tail ++ (10 ∷ v)) = size_reads h height (tail ++ (10 ∷ v)) is (tail_no_digit rule tail v form) in
    subst P (sym (cond-true (leb w 32) (good w (second ++ rest)) (bad Size start) e))
    (subst Q (sym (ap (λ x. and_then x (λ _ c. and_then (size c) (λ n d. tailed w n d))) turn ∙ ap (λ x. and_then x (λ n d. tailed w n d)) sized)) (by_height w h rule tail rest v (leb-true w 32 e) form)))
    (λ e. subst P (sym (cond-false (leb w 32) (good w (second ++ rest)) (bad Size start) e)) (inr (start, refl, λ a b. omega (arith, leb-false w 32 e))))
    (cases_Bool (leb w 32))

pub heading_reads : (w h : ℕ) (rule : Option (List ℕ)) (line v : List ℕ) → HeadForm w h rule line → HeadRead w h rule v (heading (line ++ (10 ∷ v)))
unfolding heading
heading_reads w h rule line v f =
    let end = f.tail ++ (10 ∷ v) in
    let rest = f.second ++ (f.height ++ end) in
    let text : line ++ (10 ∷ v) ≡ f.first ++ (f.width ++ rest) = ap (λ x. x ++ (10 ∷ v)) f.whole ∙ simp append_assoc in
    let turn : in_turn before_width (f.first ++ (f.width ++ rest)) ≡ good tt (f.width ++ rest) = turn_reads before_width f.first (f.width ++ rest) (refl, (refl, tt)) f.first_spelled (numeral_solid w f.width rest f.is_width) in
    let comma : NoDigit rest = subst (λ x. NoDigit (x ++ (f.height ++ end))) (sym f.second_spelled.4) refl in
    let sized : size (f.width ++ rest) ≡ judged (f.width ++ rest) w rest = size_reads w f.width rest f.is_width comma in
    let Q : Scan Head → Type 0 = HeadRead w h rule v in
    subst Q (sym (ap heading text ∙ ap (λ x. and_then x (λ _ a. and_then (size a) from_width)) turn ∙ ap (λ x. and_then x from_width) sized))
    (by_width w h rule (f.width ++ rest) f.second f.height f.tail v f.second_spelled f.is_height f.ruled)

-- one part after another is read where both are
pub then_good : {A B : Type 0} (s : Scan A) (k : A → List ℕ → Scan B) (b : B) (rest : List ℕ) → and_then s k ≡ good b rest → (a : A) × (v : List ℕ) × (s ≡ good a v) × (k a v ≡ good b rest)
then_good (good a v) k b rest e = (a, v, refl, e)
then_good (bad c v) k b rest e = cc

tail_sizes : (w h : ℕ) (t : List ℕ) (head : Head) (rest : List ℕ) → tailed w h t ≡ good head rest → (head.width ≡ w) × (head.height ≡ h)
tail_sizes w h t head rest e =
    let P : Scan Head → Type 0 = Seen Alike (Tail w h) (tailed w h) t in
    let s = subst P e (see_tail w h t) in
    (s.1.0, s.1.1)

-- a heading that is read has sizes of at most 32
pub heading_small : (t : List ℕ) (head : Head) (rest : List ℕ) → heading t ≡ good head rest → (head.width ≤ 32) × (head.height ≤ 32)
unfolding heading
heading_small t head rest e =
    let a = then_good (in_turn before_width t) (λ _ x. and_then (size x) from_width) head rest e in
    let b = then_good (size a.1) from_width head rest a.3 in
    let c = then_good (in_turn before_height b.1) (λ _ x. and_then (size x) (λ h d. tailed b.0 h d)) head rest b.3 in
    let d = then_good (size c.1) (λ h x. tailed b.0 h x) head rest c.3 in
    let sizes = tail_sizes b.0 d.0 d.1 head rest d.3 in
    (subst (λ x. x ≤ 32) (sym sizes.0) (size_small a.1 b.0 b.1 b.2), subst (λ x. x ≤ 32) (sym sizes.1) (size_small c.1 d.0 d.1 d.2))

-- what follows a height is at no fault for a size
ruled_no_size : (w h : ℕ) (t : List ℕ) → NoSize (ruled w h t)
ruled_no_size w h t = then_no_size (line_over t) (λ _ rest. good (named w h t) rest) (byte_no_size 10 (drop (line_length t) t)) (λ a v. tt)

unruled_no_size : (w h : ℕ) (t : List ℕ) → NoSize (unruled w h t)
unruled_no_size w h t = then_no_size (this_byte 10 t) (λ _ rest. good (nameless w h t) rest) (byte_no_size 10 t) (λ a v. tt)

tail_no_size : (w h : ℕ) (t : List ℕ) → NoSize (tailed w h t)
tail_no_size w h [] = tt
tail_no_size w h (b ∷ t) =
    if_no_size (eqb b 44) (and_then (in_turn before_rule (b ∷ t)) (λ _ rest. ruled w h rest)) (unruled w h (past blank (b ∷ t)))
    (then_no_size (in_turn before_rule (b ∷ t)) (λ _ rest. ruled w h rest) (turn_no_size before_rule (b ∷ t)) (λ a v. ruled_no_size w h v))
    (unruled_no_size w h (past blank (b ∷ t)))

at_size : (t rest at u : List ℕ) → t ≡ u ++ rest → BeforeSize u → size rest ≡ bad Size at → LargeSize t at
at_size t rest at u e leads f =
    let l = large_number rest at f in
    record {
      remarks = [];
      before = u;
      number = l.0;
      digits = l.1;
      after = l.2;
      remarked = tt;
      leads = leads;
      numeral = l.3;
      over = l.4;
      large = l.5;
      stands = l.6;
      whole = e ∙ ap (λ x. u ++ x) l.7;
    }

large_height : (t at first width rest : List ℕ) (w : ℕ) → Spells before_width first → Numeral w width → w ≤ 32 → t ≡ first ++ (width ++ rest) → from_width w rest ≡ bad Size at → LargeSize t at
large_height t at first width rest w spelled is few e f =
    let P : Scan (Unit {0}) → Type 0 = Seen Same (Spelled before_height) (in_turn before_height) rest in
    ⊎_elim
    (λ g. absurd (no_size (in_turn before_height rest) at (turn_no_size before_height rest) g))
    (λ a.
    let s = subst P a.2 (see_turn before_height rest) in
    let whole : t ≡ (first ++ (width ++ s.0)) ++ a.1 = e ∙ ap (λ x. first ++ (width ++ x)) s.2 ∙ simp append_assoc in
    ⊎_elim
    (λ g. at_size t a.1 at (first ++ (width ++ s.0)) whole (inr (first, w, width, s.0, spelled, is, few, s.1, refl)) g)
    (λ b. absurd (no_size (tailed w b.0 b.1) at (tail_no_size w b.0 b.1) b.3))
    (then_bad (size a.1) (λ h d. tailed w h d) Size at a.3))
    (then_bad (in_turn before_height rest) (λ _ c. and_then (size c) (λ h d. tailed w h d)) Size at f)

-- a heading that is at fault for a size has one over 32
pub heading_large : (t at : List ℕ) → heading t ≡ bad Size at → LargeSize t at
unfolding heading
heading_large t at e =
    let P : Scan (Unit {0}) → Type 0 = Seen Same (Spelled before_width) (in_turn before_width) t in
    ⊎_elim
    (λ f. absurd (no_size (in_turn before_width t) at (turn_no_size before_width t) f))
    (λ a.
    let s = subst P a.2 (see_turn before_width t) in
    let Q : Scan ℕ → Type 0 = Seen Same Numeral size a.1 in
    ⊎_elim
    (λ f. at_size t a.1 at s.0 s.2 (inl s.1) f)
    (λ b.
    let n = subst Q b.2 (see_size a.1) in
    large_height t at s.0 n.0 b.1 b.0 s.1 n.1 (size_small a.1 b.0 b.1 b.2) (s.2 ∙ ap (λ x. s.0 ++ x) n.2) b.3)
    (then_bad (size a.1) from_width Size at a.3))
    (then_bad (in_turn before_width t) (λ _ a. and_then (size a) from_width) Size at e)

-- the shortest heading
pub default_heading : (head : Head) × (v : List ℕ) × Headed head v
default_heading = let d = default_sizes in (d.0, plain before_width ++ d.1, is_headed d.0 (plain before_width ++ d.1) (tt, plain before_width, d.1, spells_plain before_width, d.2, refl))

-- a size over 32 is at fault where it starts
size_over : (n : ℕ) (u v : List ℕ) → Numeral n u → NoDigit v → 32 < n → size (u ++ v) ≡ bad Size (u ++ v)
size_over n u v is over large = size_reads n u v is over ∙ cond-false (leb n 32) (good n v) (bad Size (u ++ v)) (grind (arith, nat_tests))

width_over : (text at before : List ℕ) (l : LargeSize text at) → Spells before_width before → heading (before ++ at) ≡ bad Size at
unfolding heading
width_over text at before l spelled =
    let solid : past blank at ≡ at = ap (past blank) l.stands ∙ numeral_solid l.number l.digits l.after l.numeral ∙ sym l.stands in
    let turn : in_turn before_width (before ++ at) ≡ good tt at = turn_reads before_width before at (refl, (refl, tt)) spelled solid in
    let sized : size at ≡ bad Size at = ap size l.stands ∙ size_over l.number l.digits l.after l.numeral l.over l.large ∙ ap (bad Size) (sym l.stands) in
    ap (λ x. and_then x (λ _ a. and_then (size a) from_width)) turn ∙ ap (λ x. and_then x from_width) sized

height_over : (text at first width second : List ℕ) (w : ℕ) (l : LargeSize text at) → Spells before_width first → Numeral w width → w ≤ 32 → Spells before_height second → heading ((first ++ (width ++ second)) ++ at) ≡ bad Size at
unfolding heading
height_over text at first width second w l spelled is few comma =
    let rest = second ++ at in
    let whole : (first ++ (width ++ second)) ++ at ≡ first ++ (width ++ rest) = simp append_assoc in
    let solid : past blank at ≡ at = ap (past blank) l.stands ∙ numeral_solid l.number l.digits l.after l.numeral ∙ sym l.stands in
    let turn : in_turn before_width (first ++ (width ++ rest)) ≡ good tt (width ++ rest) = turn_reads before_width first (width ++ rest) (refl, (refl, tt)) spelled (numeral_solid w width rest is) in
    let over : NoDigit rest = subst (λ x. NoDigit (x ++ at)) (sym comma.4) refl in
    let sized : size (width ++ rest) ≡ good w rest = size_reads w width rest is over ∙ size_judged w (width ++ rest) rest few in
    let turned : in_turn before_height rest ≡ good tt at = turn_reads before_height second at (refl, (refl, (refl, tt))) comma solid in
    let large : size at ≡ bad Size at = ap size l.stands ∙ size_over l.number l.digits l.after l.numeral l.over l.large ∙ ap (bad Size) (sym l.stands) in
    ap heading whole
    ∙ ap (λ x. and_then x (λ _ a. and_then (size a) from_width)) turn
    ∙ ap (λ x. and_then x from_width) sized
    ∙ ap (λ x. and_then x (λ _ c. and_then (size c) (λ h d. tailed w h d))) turned
    ∙ ap (λ x. and_then x (λ h d. tailed w h d)) large

pub heading_over : (text at : List ℕ) (l : LargeSize text at) → heading (l.before ++ at) ≡ bad Size at
heading_over text at l =
    ⊎_elim
    (λ s. width_over text at l.before l s)
    (λ p. ap (λ x. heading (x ++ at)) p.8 ∙ height_over text at p.0 p.2 p.3 p.1 l p.4 p.5 p.6 p.7)
    l.leads

-- and its line begins with x
pub over_starts : (text at : List ℕ) (l : LargeSize text at) → (rest : List ℕ) × (l.before ++ at ≡ 120 ∷ rest)
over_starts text at l =
    ⊎_elim
    (λ s. ((s.0 ++ s.1) ++ at, ap (λ x. x ++ at) s.4))
    (λ p. let s = p.4 in (((s.0 ++ s.1) ++ (p.2 ++ p.3)) ++ at, ap (λ x. x ++ at) (p.8 ∙ ap (λ x. x ++ (p.2 ++ p.3)) s.4)))
    l.leads
