-- The text of a pattern is of the grammar, and so reads as that pattern.
use Rattle.std.proofs.Common.{◌≡◌, ℕ, zero, suc, ◌+◌, ◌*◌, ◌≤◌, Bool, true, false, not, eqb, leb, List, [], ◌∷◌, ◌++◌, length, take, Some, codes, decimal, sym, refl, ap, ◌∙◌, inl, inr, ⊎_elim, mul-le-mul, mul_comm, suc-mul, arith}
use Rattle.std.specs.List.{range_with_len, flat_map}
use Rattle.std.proofs.lemmas.Fmt.{length-decimal-le}
use Rattle.std.proofs.lemmas.List.{append_assoc, append-nil, length-append, length-take}
use Rattle.std.proofs.lemmas.Bool.{cases_eq, cases_lt, cond-true, cond-false, cond_both, eq-eqb, ne_eqb, leb-true}
use Rattle.std.proofs.lemmas.Bool.Decides.{nat_tests}
use Rattle.rules.specs.Answers.{holds}
use Rattle.rules.specs.Forms.{digit_in, digits_below, written}
use Rattle.lines.specs.Lines.{blank, kept_before, trimmed}
use Rattle.rle.specs.declared.mark.Mark.{Mark}
use Rattle.rle.specs.declared.mark.Mark.TheVariants.{Off, On, NextRow}
use Rattle.rle.specs.declared.mark.Run.{Run}
use Rattle.rle.specs.Back.{RoundTrip}
use Rattle.rle.specs.Forms.{Each, on_line, HeadForm, CountForm, BodyForm}
use Rattle.rle.specs.Marks.{cell_mark, step_down, marks_from, pattern_marks, same_mark, join_mark, grouped}
use Rattle.rle.specs.Runs.{letter_of}
use Rattle.rle.specs.Scans.{past, space}
use Rattle.rle.specs.Texts.{count_text, run_text, body_text, heading_text, pattern_text}
use Rattle.rle.proofs.Laying.{pattern_inside, pattern_covers}
use Rattle.rle.proofs.Lines.{each_both}
use Rattle.rle.proofs.Pasts.{past_stop, past_end}
use Rattle.rle.proofs.Reading.{reads_every}

-- neither a blank nor a newline
abbrev solid : ℕ → Bool
solid b = not (space b)

solid_on_line : (b : ℕ) → solid b ≡ true → on_line b ≡ true
solid_on_line b e = grind (arith, nat_tests)

solid_no_blank : (b : ℕ) → solid b ≡ true → blank b ≡ false
solid_no_blank b e = grind (arith, nat_tests)

each_so : (p q : ℕ → Bool) → ((b : ℕ) → p b ≡ true → q b ≡ true) → (bs : List ℕ) → Each p bs → Each q bs
each_so p q f [] h = tt
each_so p q f (b ∷ bs) h = (f b h.0, each_so p q f bs h.1)

solid_past : (bs : List ℕ) → Each solid bs → past blank bs ≡ bs
solid_past [] h = past_end blank
solid_past (b ∷ bs) h = past_stop blank b bs (solid_no_blank b h.0)

kept_solid : (b : ℕ) (bs : List ℕ) → blank b ≡ false → kept_before b bs ≡ b ∷ bs
kept_solid b [] e = cond-false (blank b) [] (b ∷ []) e
kept_solid b (c ∷ bs) e = refl

solid_trimmed : (bs : List ℕ) → Each solid bs → trimmed bs ≡ bs
unfolding trimmed
solid_trimmed [] h = refl
solid_trimmed (b ∷ bs) h = ap (kept_before b) (solid_trimmed bs h.1) ∙ kept_solid b bs (solid_no_blank b h.0)

-- the digits of a rule, and how many there may be
digit_solid : (set d : ℕ) → leb d 8 ≡ true → Each solid (digit_in set d) × (length (digit_in set d) ≤ 1)
digit_solid set d e =
    cond_both (holds set d) ((48 + d) ∷ []) [] (λ x. Each solid x × (length x ≤ 1))
    (λ f. ((let l = leb-true d 8 e in grind (arith, nat_tests), tt), omega arith))
    (λ f. (tt, omega arith))

digits_solid : (set : ℕ) (ds : List ℕ) → Each (λ d. leb d 8) ds → Each solid (flat_map (digit_in set) ds) × (length (flat_map (digit_in set) ds) ≤ length ds)
digits_solid set [] h = (tt, omega arith)
digits_solid set (d ∷ ds) h =
    let one = digit_solid set d h.0 in
    let more = digits_solid set ds h.1 in
    (each_both solid (digit_in set d) (flat_map (digit_in set) ds) one.0 more.0, omega (arith, length-append (digit_in set d) (flat_map (digit_in set) ds), one.1, more.1))

below_nine : (set : ℕ) → Each solid (digits_below 9 set) × (length (digits_below 9 set) ≤ 9)
unfolding digits_below
below_nine set = digits_solid set (range_with_len 0 9) (refl, (refl, (refl, (refl, (refl, (refl, (refl, (refl, (refl, tt)))))))))

written_solid : (births survivals : ℕ) → Each solid (written births survivals) × (length (written births survivals) ≤ 21)
unfolding written
written_solid births survivals =
    let one = below_nine births in
    let two = below_nine survivals in (
      (refl, each_both solid (digits_below 9 births) (47 ∷ 83 ∷ digits_below 9 survivals) one.0 (refl, (refl, two.0))),
      omega (arith, length-append (digits_below 9 births) (47 ∷ 83 ∷ digits_below 9 survivals), one.1, two.1),
    )

-- the heading's line
head_line : ℕ → ℕ → List ℕ → List ℕ
head_line w h name = codes "x = " ++ (decimal w ++ (codes ", y = " ++ (decimal h ++ (codes ", rule = " ++ name))))

is_heading : (w h : ℕ) (name : List ℕ) → 1 ≤ w → w ≤ 32 → 1 ≤ h → h ≤ 32 → Each solid name → HeadForm w h (Some name) (head_line w h name)
unfolding head_line
is_heading w h name a b c d e =
    record {
      first = codes "x = ";
      width = decimal w;
      second = codes ", y = ";
      height = decimal h;
      tail = codes ", rule = " ++ name;
      first_spelled = (32 ∷ [], 61 ∷ 32 ∷ [], (refl, tt), (32 ∷ [], [], (refl, tt), refl, refl), refl);
      is_width = (a, omega arith, refl);
      second_spelled = (32 ∷ [], 121 ∷ 32 ∷ 61 ∷ 32 ∷ [], (refl, tt), (32 ∷ [], 61 ∷ 32 ∷ [], (refl, tt), (32 ∷ [], [], (refl, tt), refl, refl), refl), refl);
      is_height = (c, omega arith, refl);
      ruled = (
        codes ", rule = ",
        [],
        (32 ∷ [], codes "rule = ", (refl, tt), ([], codes "ule = ", refl, ([], codes "le = ", refl, ([], codes "e = ", refl, (32 ∷ [], 61 ∷ 32 ∷ [], (refl, tt), (32 ∷ [], [], (refl, tt), refl, refl), refl), refl), refl), refl), refl),
        tt,
        each_so solid on_line solid_on_line name e,
        ap (past blank) (append-nil name) ∙ solid_past name e ∙ sym (append-nil name),
        solid_trimmed name e,
        ap (λ x. codes ", rule = " ++ x) (sym (append-nil name)),
      );
      whole = refl;
    }

heading_whole : (w h : ℕ) (name body : List ℕ) → heading_text w h name ++ body ≡ head_line w h name ++ (10 ∷ body)
unfolding head_line
heading_whole w h name body = simp append_assoc

-- how many marks runs have, and that each has some
abbrev total : List Run → ℕ
total [] = 0
total (r ∷ rs) = r.count + total rs

abbrev Positive : List Run → Type 0
Positive [] = Unit {0}
Positive (r ∷ rs) = (1 ≤ r.count) × Positive rs

join_total : (m : Mark) (rs : List Run) → Positive rs → (total (join_mark m rs) ≡ suc (total rs)) × Positive (join_mark m rs)
join_total m [] p = (refl, (omega arith, tt))
join_total m (r ∷ rs) p =
    cond_both (same_mark m r.mark) _ _ (λ x. (total x ≡ suc (r.count + total rs)) × Positive x)
    (λ e. (omega arith, (omega arith, p.1)))
    (λ e. (omega arith, (omega arith, p)))

grouped_total : (ms : List Mark) → (total (grouped ms) ≡ length ms) × Positive (grouped ms)
grouped_total [] = (refl, tt)
grouped_total (m ∷ ms) =
    let more = grouped_total ms in
    let here = join_total m (grouped ms) more.1 in
    (here.0 ∙ ap suc more.0, here.1)

-- a count as it is written
is_count : (n : ℕ) → 1 ≤ n → n ≤ 9999 → CountForm n (count_text n)
is_count n some few =
    ⊎_elim
    (λ e. inl (e, cond-true (eqb n 1) [] (decimal n) (eq-eqb n 1 e)))
    (λ e. inr (some, few, cond-false (eqb n 1) [] (decimal n) (ne_eqb n 1 e)))
    (cases_eq n 1)

-- the body
is_body : (rs : List Run) → Positive rs → total rs ≤ 9999 → BodyForm rs (flat_map run_text rs ++ (33 ∷ 10 ∷ []))
is_body [] p few = ([], 10 ∷ [], tt, refl)
is_body (r ∷ rs) p few = (
  [],
  count_text r.count,
  flat_map run_text rs ++ (33 ∷ 10 ∷ []),
  tt,
  is_count r.count p.0 (omega arith),
  is_body rs p.1 (omega arith),
  simp append_assoc,
)

-- a run's text is no longer than its cells or steps
run_short : (n : ℕ) → 1 ≤ n → n ≤ 9999 → length (count_text n) + 1 ≤ n
run_short n some few =
    ⊎_elim
    (λ one. omega (arith, ap length (cond-true (eqb n 1) [] (decimal n) (eq-eqb n 1 one))))
    (λ more.
    let is = ap length (cond-false (eqb n 1) [] (decimal n) (ne_eqb n 1 more)) in
    ⊎_elim
    (λ low. omega (arith, is, length-decimal-le 1 n (omega arith) (omega arith) (omega arith)))
    (λ high. omega (arith, is, length-decimal-le 4 n (omega arith) (omega arith) (omega arith)))
    (cases_lt n 9))
    (cases_eq n 1)

body_short : (rs : List Run) → Positive rs → total rs ≤ 9999 → length (flat_map run_text rs) ≤ total rs
body_short [] p few = omega arith
body_short (r ∷ rs) p few =
    omega (arith, length-append (run_text r) (flat_map run_text rs), length-append (count_text r.count) (letter_of r.mark ∷ []), run_short r.count p.0 (omega arith), body_short rs p.1 (omega arith))

-- a cell makes one mark at most, and one step down comes before each row but the first
cell_marks : (b : Bool) (ms : List Mark) → length (cell_mark b ms) ≤ length ms + 1
cell_marks true ms = omega arith
cell_marks false [] = omega arith
cell_marks false (NextRow ∷ ms) = omega arith
cell_marks false (Off ∷ ms) = omega arith
cell_marks false (On ∷ ms) = omega arith

step_marks : (ms : List Mark) → length (step_down ms) ≤ length ms + 1
step_marks [] = omega arith
step_marks (m ∷ ms) = omega arith

-- cells in rows of w, where this row has k cells more and at most r rows follow
few_marks : (w k r : ℕ) (bs : List Bool) → length bs ≤ k + r * w → length (marks_from w k bs) ≤ length bs + r
few_marks w k r [] h = omega arith
few_marks w zero zero (b ∷ bs) h = absurd (omega arith)
few_marks zero zero (suc r) (b ∷ bs) h = absurd (omega arith)
few_marks (suc v) zero (suc r) (b ∷ bs) h =
    let ms = marks_from (suc v) v bs in
    omega (arith, step_marks (cell_mark b ms), cell_marks b ms, few_marks (suc v) v r bs (omega (arith, suc-mul r (suc v))))
few_marks w (suc k) r (b ∷ bs) h = omega (arith, cell_marks b (marks_from w k bs), few_marks w k r bs (omega arith))

pattern_few : (w h : ℕ) (cells : List Bool) → w ≤ 32 → h ≤ 32 → length (pattern_marks w h cells) ≤ 1055
pattern_few w zero cells a b =
    let long = length-take (w * 0) cells in
    omega (arith, few_marks w w 0 (take (w * 0) cells) (omega (arith, long)), long)
pattern_few w (suc g) cells a b =
    let long = length-take (w * suc g) cells in
    let whole : w * suc g ≡ g * w + w = mul_comm w (suc g) ∙ suc-mul g w in
    omega (arith, few_marks w w g (take (w * suc g) cells) (omega (arith, long, whole)), long, mul-le-mul a b)

line_short : (w h : ℕ) (name : List ℕ) → w ≤ 32 → h ≤ 32 → length (head_line w h name) ≤ 23 + length name
unfolding head_line
line_short w h name a b =
    let d = length-decimal-le 2 w (omega arith) (omega arith) (omega arith) in
    let e = length-decimal-le 2 h (omega arith) (omega arith) (omega arith) in
    simp length-append (omega arith)

-- how long the text of a pattern is at most: 24 bytes of heading beside the rule's, a mark for each of 1,024 cells, 31 steps down, and the end
pub named_short : (w h : ℕ) (name : List ℕ) (cells : List Bool) → w ≤ 32 → h ≤ 32 → length (pattern_text w h name cells) ≤ 24 + length name + 1055 + 2
named_short w h name cells a b =
    let ms = pattern_marks w h cells in
    let runs = grouped ms in
    let line = head_line w h name in
    let counts = grouped_total ms in
    let few = pattern_few w h cells a b in
    let one = line_short w h name a b in
    let two = body_short runs counts.1 (omega (arith, counts.0)) in
    omega (arith, ap length (heading_whole w h name (body_text ms)), length-append line (10 ∷ body_text ms), length-append (flat_map run_text runs) (33 ∷ 10 ∷ []), one, two, counts.0)

-- and the rule's are at most 21
pub text_short : (w h births survivals : ℕ) (cells : List Bool) → w ≤ 32 → h ≤ 32 → length (pattern_text w h (written births survivals) cells) ≤ 45 + 1055 + 2
text_short w h births survivals cells a b =
    omega (arith, named_short w h (written births survivals) cells a b, (written_solid births survivals).1)

pub round_trip : RoundTrip
round_trip w h births survivals cells a b c d =
    let name = written births survivals in
    let solid-name = written_solid births survivals in
    let ms = pattern_marks w h cells in
    let runs = grouped ms in
    let body = body_text ms in
    let line = head_line w h name in
    let whole : pattern_text w h name cells ≡ line ++ (10 ∷ body) = heading_whole w h name body in
    let counts = grouped_total ms in
    let few : length ms ≤ 1055 = pattern_few w h cells b d in
    let some : total runs ≤ 9999 = omega (arith, counts.0) in
    let reads =
    reads_every [] w h (Some name) runs (pattern_text w h name cells) (record {
      form = record { line = line; body = body; remarked = tt; headed = is_heading w h name a b c d solid-name.0; bodied = is_body runs counts.1 some; whole = whole };
      narrow = b;
      low = d;
      inside = pattern_inside w h cells a;
    }) in
    record {
      short = omega (arith, text_short w h births survivals cells b d);
      runs = runs;
      items = reads.0;
      finishes = reads.1;
      given = reads.2;
      shows = λ x y f g. pattern_covers w h cells x y a f g;
    }
