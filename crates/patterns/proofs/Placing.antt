-- Where the rule of a text of the grammar starts, byte by byte.
use Rattle.std.proofs.Common.{◌≡◌, ℕ, ◌+◌, ◌-◌, ◌<◌, ◌≤◌, ◌^◌, Bool, true, false, eqb, List, [], ◌∷◌, ◌++◌, length, take, decimal, Some, None, Option, sym, refl, ap, ◌∙◌, subst, add-zero, arith, append-nil, length-append}
use Rattle.std.proofs.Math.Seq.{take-append_seam}
use Rattle.std.specs.List.{flat_map}
use Rattle.std.proofs.lemmas.List.{append_assoc}
use Rattle.std.proofs.lemmas.Bool.{cond-false, not-true}
use Rattle.std.proofs.lemmas.Bool.Decides.{nat_tests}
use Rattle.lines.specs.Lines.{blank, first_line, trimmed}
use Rattle.rle.specs.declared.phase.Step.{Step}
use Rattle.rle.specs.declared.phase.Phase.TheVariants.{Opening}
use Rattle.rle.specs.Laws.{OnLines, Placed}
use Rattle.rle.specs.Forms.{Each, NoDigit, on_line, Gap, Spells, Numeral, RuleForm, HeadForm, RemarkForm, RemarkForms, ended}
use Rattle.rle.specs.Items.{Head, Taken, before_width, before_height, before_rule, ruled, unruled, tailed, heading, opening_item, read_item}
use Rattle.rle.specs.Scans.{Scan, good, and_then, past, byte_of, is_loose, digit, in_turn, size}
use Rattle.rle.specs.Spots.{Spot, corner, next_spot, spot_past, spot_before}
use Rattle.rle.proofs.Lines.{first_of, over_of, each_both, blanks_on_line, trimmed_over, solid_line}
use Rattle.rle.proofs.Numerals.{spelt, numeral_solid, size_reads, size_judged}
use Rattle.rle.proofs.Openings.{took_heading}
use Rattle.rle.proofs.Pasts.{past_over, past_stop}
use Rattle.rle.proofs.Reading.{read_opening}
use Rattle.rle.proofs.Turns.{turn_reads}
use Rattle.rle.proofs.Places.{spot_append}
use Rattle.patterns.specs.Places.{before_name, after_name, lead, name_place}

-- no byte of a step is a newline
abbrev OnLine : List Step → Type 0
OnLine [] = Unit {0}
OnLine (s ∷ ss) = (on_line (byte_of s) ≡ true) × OnLine ss

gap_on_line : (loose : Bool) (bs : List ℕ) → Gap loose bs → Each on_line bs
gap_on_line true bs h = blanks_on_line bs h
gap_on_line false bs h = subst (Each on_line) (sym h) tt

spells_on_line : (ss : List Step) (u : List ℕ) → OnLine ss → Spells ss u → Each on_line u
spells_on_line [] u on h = subst (Each on_line) (sym h) tt
spells_on_line (s ∷ ss) u on h = subst (Each on_line) (sym h.4) (on.0, each_both on_line h.0 h.1 (gap_on_line (is_loose s) h.0 h.2) (spells_on_line ss h.1 on.1 h.3))

digit_on_line : (b : ℕ) → digit b ≡ true → on_line b ≡ true
digit_on_line b h = grind (arith, nat_tests)

digits_on_line : (ds : List ℕ) → Each digit ds → Each on_line ds
digits_on_line [] h = tt
digits_on_line (d ∷ ds) h = (digit_on_line d h.0, digits_on_line ds h.1)

numeral_on_line : (n : ℕ) (u : List ℕ) → Numeral n u → Each on_line u
numeral_on_line n u h = let few : n < 2 ^ 64 = omega (arith, h.1) in subst (Each on_line) (sym h.2) (digits_on_line (decimal n) (spelt n few).1)

name_on_line : (rule : Option (List ℕ)) (tail : List ℕ) (form : RuleForm rule tail) → Each on_line (before_name rule tail form)
name_on_line None tail form = blanks_on_line tail form
name_on_line (Some name) tail form = spells_on_line before_rule form.0 (refl, (refl, (refl, (refl, (refl, (refl, tt)))))) form.2

-- what stands before a rule is all on the heading's line
pub lead_on_line : (w h : ℕ) (rule : Option (List ℕ)) (line : List ℕ) (f : HeadForm w h rule line) → Each on_line (lead w h rule line f)
lead_on_line w h rule line f =
    let key = before_name rule f.tail f.ruled in
    each_both on_line f.first (f.width ++ (f.second ++ (f.height ++ key))) (spells_on_line before_width f.first (refl, (refl, tt)) f.first_spelled)
    (each_both on_line f.width (f.second ++ (f.height ++ key)) (numeral_on_line w f.width f.is_width)
    (each_both on_line f.second (f.height ++ key) (spells_on_line before_height f.second (refl, (refl, (refl, tt))) f.second_spelled)
    (each_both on_line f.height key (numeral_on_line h f.height f.is_height) (name_on_line rule f.tail f.ruled))))

abbrev at : ℕ → ℕ → Spot
at line column = record { line = line; column = column }

-- on one line only the column goes on
pub spot_on : (line column : ℕ) (l : List ℕ) → Each on_line l → spot_past (at line column) l ≡ at line (column + length l)
unfolding spot_past
spot_on line column [] h = ap (at line) (sym (add-zero column))
spot_on line column (b ∷ bs) h =
    let next : next_spot (at line column) b ≡ at line (column + 1) = cond-false (eqb b 10) _ _ (not-true (eqb b 10) h.0) in
    let sum : column + 1 + length bs ≡ column + length (b ∷ bs) = omega arith in
    ap (λ z. spot_past z bs) next ∙ spot_on line (column + 1) bs h.1 ∙ ap (at line) sum

newline : (line column : ℕ) → spot_past (at line column) (10 ∷ []) ≡ at (line + 1) 1
unfolding spot_past
newline line column = refl

remark_on_line : (line : List ℕ) → RemarkForm line → Each on_line line
remark_on_line [] h = absurd h
remark_on_line (b ∷ line) h = (subst (λ x. on_line x ≡ true) (sym h.0) refl, h.1)

none_past : (s : Spot) → spot_past s [] ≡ s
unfolding spot_past
none_past s = refl

-- whole lines
spot_lines : (line : ℕ) (lines : List (List ℕ)) → OnLines lines → spot_past (at line 1) (flat_map ended lines) ≡ at (line + length lines) 1
spot_lines line [] h = none_past (at line 1) ∙ ap (λ n. at n 1) (sym (add-zero line))
spot_lines line (r ∷ rs) h =
    let sum : line + 1 + length rs ≡ line + length (r ∷ rs) = omega arith in
    spot_append (at line 1) (ended r) (flat_map ended rs)
    ∙ ap (λ z. spot_past z (flat_map ended rs)) (spot_append (at line 1) r (10 ∷ []) ∙ ap (λ z. spot_past z (10 ∷ [])) (spot_on line 1 r h.0) ∙ newline line (1 + length r))
    ∙ spot_lines (line + 1) rs h.1
    ∙ ap (λ n. at n 1) sum

-- each remark is a line
remark_lines : (remarks : List (List ℕ)) → RemarkForms remarks → OnLines remarks
remark_lines [] h = tt
remark_lines (r ∷ rs) h = (remark_on_line r h.0, remark_lines rs h.1)

spot_remarks : (line : ℕ) (remarks : List (List ℕ)) → RemarkForms remarks → spot_past (at line 1) (flat_map ended remarks) ≡ at (line + length remarks) 1
spot_remarks line remarks h = spot_lines line remarks (remark_lines remarks h)

-- what stands before the last bytes of a text leads to them
pub spot_of : (text before rest : List ℕ) → text ≡ before ++ rest → spot_before text rest ≡ spot_past corner before
spot_of text before rest e =
    let count : length text - length rest ≡ length before = omega (arith, ap length e, length-append before rest) in
    ap (λ n. spot_past corner (take n text)) count ∙ ap (λ z. spot_past corner (take (length before) z)) e ∙ ap (spot_past corner) (take-append_seam before rest)

-- the last bytes of a text start at one line and column
pub placed_spot : (text rest : List ℕ) (spot : Spot) → Placed text rest spot → spot_before text rest ≡ spot
placed_spot text rest spot p =
    let lines = flat_map ended p.lines in
    let line : 1 + length p.lines ≡ spot.line = omega (arith, p.line) in
    let column : 1 + length p.part ≡ spot.column = omega (arith, p.column) in
    spot_of text (lines ++ p.part) rest (p.whole ∙ sym (append_assoc lines p.part rest))
    ∙ spot_append corner lines p.part
    ∙ ap (λ z. spot_past z p.part) (spot_lines 1 p.lines p.lined)
    ∙ spot_on (1 + length p.lines) 1 p.part p.parted
    ∙ (λ i. at (line i) (column i))

-- what follows a height, split where the rule starts
pub tail_split : (rule : Option (List ℕ)) (tail : List ℕ) (form : RuleForm rule tail) → tail ≡ before_name rule tail form ++ after_name rule tail form
tail_split None tail form = sym (append-nil tail)
tail_split (Some name) tail form = form.7

blank_no_comma : (b : ℕ) → blank b ≡ true → eqb b 44 ≡ false
blank_no_comma b h = grind (arith, nat_tests)

blank_no_digit : (b : ℕ) → blank b ≡ true → digit b ≡ false
blank_no_digit b h = grind (arith, nat_tests)

tail_no_digit : (rule : Option (List ℕ)) (tail v : List ℕ) → RuleForm rule tail → NoDigit (tail ++ (10 ∷ v))
tail_no_digit None [] v form = refl
tail_no_digit None (b ∷ tail) v form = blank_no_digit b form.0
tail_no_digit (Some r) tail v form = subst (λ x. NoDigit (x ++ (10 ∷ v))) (sym (form.7 ∙ ap (λ x. x ++ (r ++ form.1)) form.2.4)) refl

-- what a heading tells, with the bytes from its rule on
abbrev pub told_of : (w h : ℕ) (rule : Option (List ℕ)) (line v : List ℕ) → HeadForm w h rule line → Head
told_of w h rule line v f = record { width = w; height = h; rule = rule; named = after_name rule f.tail f.ruled ++ (10 ∷ v) }

unruled_here : (w h : ℕ) (v : List ℕ) → unruled w h (past blank (10 ∷ v)) ≡ good (record { width = w; height = h; rule = None; named = 10 ∷ v }) v
unruled_here w h v = ap (unruled w h) (past_stop blank 10 v refl)

tail_reads : (w h : ℕ) (rule : Option (List ℕ)) (tail v : List ℕ) (form : RuleForm rule tail) → tailed w h (tail ++ (10 ∷ v)) ≡ good (record { width = w; height = h; rule = rule; named = after_name rule tail form ++ (10 ∷ v) }) v
tail_reads w h None [] v form = unruled_here w h v
tail_reads w h None (b ∷ bs) v form =
    cond-false (eqb b 44) _ _ (blank_no_comma b form.0) ∙ ap (unruled w h) (past_over blank (b ∷ bs) (10 ∷ v) form) ∙ unruled_here w h v
tail_reads w h (Some r) tail v form =
    let key = form.0 in
    let bs = form.1 in
    let y = (r ++ bs) ++ (10 ∷ v) in
    let on : Each on_line (r ++ bs) = each_both on_line r bs form.4 (blanks_on_line bs form.3) in
    let turn : in_turn before_rule (key ++ y) ≡ good tt y = turn_reads before_rule key y (refl, (refl, (refl, (refl, (refl, (refl, tt)))))) form.2 (solid_line (r ++ bs) v form.5) in
    let text : tail ++ (10 ∷ v) ≡ key ++ y = ap (λ x. x ++ (10 ∷ v)) form.7 ∙ append_assoc key (r ++ bs) (10 ∷ v) in
    let comma : key ++ y ≡ 44 ∷ ((form.2.0 ++ form.2.1) ++ y) = ap (λ x. x ++ y) form.2.4 in
    let name : trimmed (first_line y) ≡ r = ap trimmed (first_of (r ++ bs) v on) ∙ trimmed_over r bs form.3 ∙ form.6 in
    ap (tailed w h) (text ∙ comma)
    ∙ ap (λ x. and_then (in_turn before_rule x) (λ _ rest. ruled w h rest)) (sym comma)
    ∙ ap (λ x. and_then x (λ _ rest. ruled w h rest)) turn
    ∙ ap (λ x. and_then x (λ _ rest. good (record { width = w; height = h; rule = Some (trimmed (first_line y)); named = y }) rest)) (over_of (r ++ bs) v on)
    ∙ ap (λ n. good (record { width = w; height = h; rule = Some n; named = y }) v) name

-- a heading whose sizes are at most 32 is read, and tells where its rule starts
head_reads : (w h : ℕ) (rule : Option (List ℕ)) (line v : List ℕ) (f : HeadForm w h rule line) → w ≤ 32 → h ≤ 32 → heading (line ++ (10 ∷ v)) ≡ good (told_of w h rule line v f) v
unfolding heading
head_reads w h rule line v f narrow low =
    let end = f.tail ++ (10 ∷ v) in
    let rest = f.second ++ (f.height ++ end) in
    let from_height : Scan ℕ → Scan Head = λ x. and_then x (λ n d. tailed w n d) in
    let from_second : Scan (Unit {0}) → Scan Head = λ x. and_then x (λ _ c. from_height (size c)) in
    let from_width : Scan ℕ → Scan Head = λ x. and_then x (λ m b. and_then (in_turn before_height b) (λ _ c. and_then (size c) (λ n d. tailed m n d))) in
    let from_first : Scan (Unit {0}) → Scan Head = λ x. and_then x (λ _ a. from_width (size a)) in
    let text : line ++ (10 ∷ v) ≡ f.first ++ (f.width ++ rest) = ap (λ x. x ++ (10 ∷ v)) f.whole ∙ simp append_assoc in
    let first : in_turn before_width (f.first ++ (f.width ++ rest)) ≡ good tt (f.width ++ rest) = turn_reads before_width f.first (f.width ++ rest) (refl, (refl, tt)) f.first_spelled (numeral_solid w f.width rest f.is_width) in
    let comma : NoDigit rest = subst (λ x. NoDigit (x ++ (f.height ++ end))) (sym f.second_spelled.4) refl in
    let width : size (f.width ++ rest) ≡ good w rest = size_reads w f.width rest f.is_width comma ∙ size_judged w (f.width ++ rest) rest narrow in
    let second : in_turn before_height rest ≡ good tt (f.height ++ end) = turn_reads before_height f.second (f.height ++ end) (refl, (refl, (refl, tt))) f.second_spelled (numeral_solid h f.height end f.is_height) in
    let height : size (f.height ++ end) ≡ good h end = size_reads h f.height end f.is_height (tail_no_digit rule f.tail v f.ruled) ∙ size_judged h (f.height ++ end) end low in
    ap heading text ∙ ap from_first first ∙ ap from_width width ∙ ap from_second second ∙ ap from_height height ∙ tail_reads w h rule f.tail v f.ruled

-- the item of a heading
abbrev took_of : List ℕ → Scan Head → Scan Taken
took_of t s = and_then s (λ head rest. good (took_heading (first_line t) head) rest)

-- so it is the next item of a text
pub heading_item_reads : (w h : ℕ) (rule : Option (List ℕ)) (line v : List ℕ) (f : HeadForm w h rule line) → w ≤ 32 → h ≤ 32 → read_item Opening (line ++ (10 ∷ v)) ≡ good (took_heading (first_line (line ++ (10 ∷ v))) (told_of w h rule line v f)) v
heading_item_reads w h rule line v f narrow low =
    let t = line ++ (10 ∷ v) in
    let begin = f.first_spelled in
    let more = ((begin.0 ++ begin.1) ++ (f.width ++ (f.second ++ (f.height ++ f.tail)))) ++ (10 ∷ v) in
    let x-first : t ≡ 120 ∷ more = ap (λ y. y ++ (10 ∷ v)) (f.whole ∙ ap (λ y. y ++ (f.width ++ (f.second ++ (f.height ++ f.tail)))) begin.4) in
    let opens : opening_item t ≡ took_of t (heading t) = ap opening_item x-first ∙ ap (λ x. took_of x (heading x)) (sym x-first) in
    read_opening t ∙ opens ∙ ap (took_of t) (head_reads w h rule line v f narrow low)

-- the rule stands after what leads to it
pub name_spot : (remarks : List (List ℕ)) (w h : ℕ) (rule : Option (List ℕ)) (line v text : List ℕ) (f : HeadForm w h rule line) → RemarkForms remarks → text ≡ flat_map ended remarks ++ (line ++ (10 ∷ v)) → spot_before text (told_of w h rule line v f).named ≡ name_place remarks w h rule line f
name_spot remarks w h rule line v text f rs e =
    let l = lead w h rule line f in
    let a = after_name rule f.tail f.ruled in
    let split : line ≡ l ++ a = f.whole ∙ ap (λ x. f.first ++ (f.width ++ (f.second ++ (f.height ++ x)))) (tail_split rule f.tail f.ruled) ∙ simp append_assoc in
    let all : text ≡ (flat_map ended remarks ++ l) ++ (a ++ (10 ∷ v)) = e ∙ ap (λ x. flat_map ended remarks ++ (x ++ (10 ∷ v))) split ∙ simp append_assoc in
    let lines : 1 + length remarks ≡ length remarks + 1 = omega arith in
    let bytes : 1 + length l ≡ length l + 1 = omega arith in
    spot_of text (flat_map ended remarks ++ l) (a ++ (10 ∷ v)) all
    ∙ spot_append corner (flat_map ended remarks) l
    ∙ ap (λ z. spot_past z l) (spot_remarks 1 remarks rs)
    ∙ spot_on (1 + length remarks) 1 l (lead_on_line w h rule line f)
    ∙ (λ i. at (lines i) (bytes i))

-- and the heading's line after the remarks
pub head_spot : (remarks : List (List ℕ)) (rest text : List ℕ) → RemarkForms remarks → text ≡ flat_map ended remarks ++ rest → (spot_before text rest).line ≡ length remarks + 1
head_spot remarks rest text rs e =
    let lines : 1 + length remarks ≡ length remarks + 1 = omega arith in
    ap (λ (z : Spot). z.line) (spot_of text (flat_map ended remarks) rest e ∙ spot_remarks 1 remarks rs) ∙ lines
