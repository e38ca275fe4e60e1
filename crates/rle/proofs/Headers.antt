-- The line of a heading, and where its rule starts in it or would start.
use Rattle.std.proofs.Common.{◌≡◌, ℕ, ◌^◌, ◌<◌, Bool, true, false, eqb, List, [], ◌∷◌, ◌++◌, Some, None, decimal, Option, sym, refl, ap, ◌∙◌, subst, ⊎_elim, arith}
use Rattle.std.proofs.lemmas.List.{append_assoc}
use Rattle.std.proofs.lemmas.Bool.{cases_Bool, cond-true, cond-false, eqb-true}
use Rattle.std.proofs.lemmas.Bool.Decides.{nat_tests}
use Rattle.lines.specs.Lines.{blank, first_line, trimmed}
use Rattle.rle.specs.declared.fault.ReadCause.TheVariants.{Byte, Ended}
use Rattle.rle.specs.declared.phase.Step.{Step}
use Rattle.rle.specs.Forms.{Each, on_line, Gap, Spells, Numeral, RuleForm, HeadForm, RuleStarts}
use Rattle.rle.specs.Items.{Head, remark, header, before_width, before_height, before_rule, line_over, ruled, unruled, tailed, heading, opening_item}
use Rattle.rle.specs.Scans.{Scan, good, bad, and_then, past, byte_of, is_loose, digit, in_turn, size}
use Rattle.rle.proofs.Headings.{from_width, then_good}
use Rattle.rle.proofs.Lines.{line_view, trimmed_split, each_both, blanks_on_line}
use Rattle.rle.proofs.Numerals.{spelt, see_size}
use Rattle.rle.proofs.Openings.{took_remark, took_heading, took_of, opens_remark, opens_heading}
use Rattle.rle.proofs.Pasts.{past_split}
use Rattle.rle.proofs.Reading.{took_part}
use Rattle.rle.proofs.Seen.{Seen, Same}
use Rattle.rle.proofs.Turns.{Spelled, see_turn}

-- a heading has no newline in its line
gap_on_line : (loose : Bool) (bs : List ℕ) → Gap loose bs → Each on_line bs
gap_on_line true bs h = blanks_on_line bs h
gap_on_line false bs h = subst (Each on_line) (sym h) tt

abbrev OnLine : List Step → Type 0
OnLine [] = Unit {0}
OnLine (s ∷ ss) = (on_line (byte_of s) ≡ true) × OnLine ss

spells_on_line : (ss : List Step) (u : List ℕ) → OnLine ss → Spells ss u → Each on_line u
spells_on_line [] u on h = subst (Each on_line) (sym h) tt
spells_on_line (s ∷ ss) u on h = subst (Each on_line) (sym h.4) (on.0, each_both on_line h.0 h.1 (gap_on_line (is_loose s) h.0 h.2) (spells_on_line ss h.1 on.1 h.3))

digits_on_line : (ds : List ℕ) → Each digit ds → Each on_line ds
digits_on_line [] h = tt
digits_on_line (d ∷ ds) h = let e : digit d ≡ true = h.0 in (grind (arith, nat_tests), digits_on_line ds h.1)

numeral_on_line : (n : ℕ) (u : List ℕ) → Numeral n u → Each on_line u
numeral_on_line n u h = let few : n < 2 ^ 64 = omega arith in subst (Each on_line) (sym h.2) (digits_on_line (decimal n) (spelt n few).1)

rule_on_line : (rule : Option (List ℕ)) (tail : List ℕ) → RuleForm rule tail → Each on_line tail
rule_on_line None tail h = blanks_on_line tail h
rule_on_line (Some r) tail h =
    subst (Each on_line) (sym h.7)
    (each_both on_line h.0 (r ++ h.1) (spells_on_line before_rule h.0 (refl, (refl, (refl, (refl, (refl, (refl, tt)))))) h.2) (each_both on_line r h.1 h.4 (blanks_on_line h.1 h.3)))

pub head_on_line : (w h : ℕ) (rule : Option (List ℕ)) (line : List ℕ) → HeadForm w h rule line → Each on_line line
head_on_line w h rule line f =
    subst (Each on_line) (sym f.whole)
    (each_both on_line f.first (f.width ++ (f.second ++ (f.height ++ f.tail))) (spells_on_line before_width f.first (refl, (refl, tt)) f.first_spelled)
    (each_both on_line f.width (f.second ++ (f.height ++ f.tail)) (numeral_on_line w f.width f.is_width)
    (each_both on_line f.second (f.height ++ f.tail) (spells_on_line before_height f.second (refl, (refl, (refl, tt))) f.second_spelled)
    (each_both on_line f.height f.tail (numeral_on_line h f.height f.is_height) (rule_on_line rule f.tail f.ruled)))))

-- what stands before the place of a rule, and what the line has from there on
abbrev pub RulePlace : List ℕ → Head → List ℕ → Type 0
RulePlace t head rest = (front : List ℕ) × (own : List ℕ) × (t ≡ front ++ head.named) × (head.named ≡ own ++ (10 ∷ rest)) × RuleStarts head.rule own

after : (u t : List ℕ) (head : Head) (rest x : List ℕ) → x ≡ u ++ t → RulePlace t head rest → RulePlace x head rest
after u t head rest x e p = (u ++ p.0, p.1, e ∙ ap (λ y. u ++ y) p.2 ∙ sym (append_assoc u p.0 head.named), p.3, p.4)

ruled_place : (w h : ℕ) (t : List ℕ) (head : Head) (rest : List ℕ) → ruled w h t ≡ good head rest → RulePlace t head rest
ruled_place w h t head rest e =
    let named : Head = record { width = w; height = h; rule = Some (trimmed (first_line t)); named = t } in
    ⊎_elim
    (λ f. let z : ◌≡◌ {A = Scan Head} (bad Ended []) (good head rest) = sym (ap (λ x. and_then x (λ _ v. good named v)) f.0) ∙ e in cc)
    (λ f.
    let read : good named f.0 ≡ good head rest = sym (ap (λ x. and_then x (λ _ v. good named v)) f.1) ∙ e in
    let same : named ≡ head = cc in
    let left : f.0 ≡ rest = cc in
    let split = trimmed_split (first_line t) in
    let here : RulePlace t named rest = ([], first_line t, refl, f.2 ∙ ap (λ x. first_line t ++ (10 ∷ x)) left, (split.0, split.1, split.2)) in
    subst (λ x. RulePlace t x rest) same here)
    (line_view t).1

unruled_place : (w h : ℕ) (t : List ℕ) (head : Head) (rest : List ℕ) → unruled w h t ≡ good head rest → RulePlace t head rest
unruled_place w h [] head rest e = cc
unruled_place w h (b ∷ t) head rest e =
    let nameless : Head = record { width = w; height = h; rule = None; named = b ∷ t } in
    ⊎_elim
    (λ f.
    let read : good nameless t ≡ good head rest = sym (ap (λ x. and_then x (λ _ v. good nameless v)) (cond-true (eqb b 10) (good tt t) (bad Byte (b ∷ t)) f)) ∙ e in
    let same : nameless ≡ head = cc in
    let left : t ≡ rest = cc in
    let here : RulePlace (b ∷ t) nameless rest = ([], [], refl, ap (λ x. x ∷ t) (eqb-true b 10 f) ∙ ap (λ x. 10 ∷ x) left, refl) in
    subst (λ x. RulePlace (b ∷ t) x rest) same here)
    (λ f. let z : ◌≡◌ {A = Scan Head} (bad Byte (b ∷ t)) (good head rest) = sym (ap (λ x. and_then x (λ _ v. good nameless v)) (cond-false (eqb b 10) (good tt t) (bad Byte (b ∷ t)) f)) ∙ e in cc)
    (cases_Bool (eqb b 10))

tail_place : (w h : ℕ) (t : List ℕ) (head : Head) (rest : List ℕ) → tailed w h t ≡ good head rest → RulePlace t head rest
tail_place w h [] head rest e = cc
tail_place w h (b ∷ t) head rest e =
    let turned = in_turn before_rule (b ∷ t) in
    let with_rule = and_then turned (λ _ v. ruled w h v) in
    let without = unruled w h (past blank (b ∷ t)) in
    ⊎_elim
    (λ f.
    let P : Scan (Unit {0}) → Type 0 = Seen Same (Spelled before_rule) (in_turn before_rule) (b ∷ t) in
    let a = then_good turned (λ _ v. ruled w h v) head rest (sym (cond-true (eqb b 44) with_rule without f) ∙ e) in
    let s = subst P a.2 (see_turn before_rule (b ∷ t)) in
    after s.0 a.1 head rest (b ∷ t) s.2 (ruled_place w h a.1 head rest a.3))
    (λ f.
    let s = past_split blank (b ∷ t) in
    after s.0 (past blank (b ∷ t)) head rest (b ∷ t) s.2 (unruled_place w h (past blank (b ∷ t)) head rest (sym (cond-false (eqb b 44) with_rule without f) ∙ e)))
    (cases_Bool (eqb b 44))

pub rule_place : (t : List ℕ) (head : Head) (rest : List ℕ) → heading t ≡ good head rest → RulePlace t head rest
unfolding heading
rule_place t head rest e =
    let a = then_good (in_turn before_width t) (λ _ x. and_then (size x) from_width) head rest e in
    let b = then_good (size a.1) from_width head rest a.3 in
    let c = then_good (in_turn before_height b.1) (λ _ x. and_then (size x) (λ h d. tailed b.0 h d)) head rest b.3 in
    let d = then_good (size c.1) (λ h x. tailed b.0 h x) head rest c.3 in
    let turn : (ss : List Step) (x v : List ℕ) → in_turn ss x ≡ good tt v → (u : List ℕ) × (x ≡ u ++ v) = λ ss x v f. let s = subst (λ y. Seen Same (Spelled ss) (in_turn ss) x y) f (see_turn ss x) in (s.0, s.2) in
    let sized : (x v : List ℕ) (n : ℕ) → size x ≡ good n v → (u : List ℕ) × (x ≡ u ++ v) = λ x v n f. let s = subst (λ y. Seen Same Numeral size x y) f (see_size x) in (s.0, s.2) in
    let u₁ = turn before_width t a.1 a.2 in
    let u₂ = sized a.1 b.1 b.0 b.2 in
    let u₃ = turn before_height b.1 c.1 c.2 in
    let u₄ = sized c.1 d.1 d.0 d.2 in
    after u₁.0 a.1 head rest t u₁.1 (after u₂.0 b.1 head rest a.1 u₂.1 (after u₃.0 c.1 head rest b.1 u₃.1 (after u₄.0 d.1 head rest c.1 u₄.1 (tail_place b.0 d.0 d.1 head rest d.3))))

-- an item that is a heading was read as one
heading_by : (t line : List ℕ) (head : Head) (rest : List ℕ) (s : Scan Head) → took_of t s ≡ good (took_heading line head) rest → s ≡ good head rest
heading_by t line head rest (good g v) e =
    let part : header (first_line t) g ≡ header line head = took_part (took_heading (first_line t) g) (took_heading line head) v rest e in
    let same : g ≡ head = cc in
    let left : v ≡ rest = cc in
    ap (λ x. good x v) same ∙ ap (good head) left
heading_by t line head rest (bad cause v) e = cc

no_remark : (t line : List ℕ) (head : Head) (rest : List ℕ) (s : Scan (Unit {0})) → and_then s (λ _ v. good (took_remark (first_line t)) v) ≡ good (took_heading line head) rest → ⊥
no_remark t line head rest (good a v) e = let part : remark (first_line t) ≡ header line head = took_part (took_remark (first_line t)) (took_heading line head) v rest e in cc
no_remark t line head rest (bad cause v) e = cc

pub heading_read : (t line : List ℕ) (head : Head) (rest : List ℕ) → opening_item t ≡ good (took_heading line head) rest → heading t ≡ good head rest
heading_read [] line head rest e = cc
heading_read (b ∷ t) line head rest e =
    ⊎_elim
    (λ f. absurd (no_remark (b ∷ t) line head rest (line_over (b ∷ t)) (sym (opens_remark b t f) ∙ e)))
    (λ f. heading_by (b ∷ t) line head rest (heading (b ∷ t)) (sym (opens_heading b t f) ∙ e))
    (cases_Bool (eqb b 35))
