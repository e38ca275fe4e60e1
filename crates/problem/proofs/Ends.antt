-- How lines stand in a text: the lines that are cut from it do, and no others.
use Rattle.std.proofs.Common.{◌≡◌, ℕ, ◌<◌, Bool, true, eqb, ◌⊎◌, List, [], ◌∷◌, ◌++◌, length, map, sym, refl, ap, ◌∙◌, subst, inl, inr, ⊎_elim, arith}
use Rattle.std.specs.List.{onto_first}
use Rattle.std.proofs.lemmas.Bool.{cases_Bool, cond-false, cond-true, eqb-true, not-true, not_from_false}
use Rattle.std.proofs.lemmas.List.{append_assoc}
use Rattle.lines.specs.Lines.{blank, kept_before, trimmed}
use Rattle.problem.specs.Lines.{Bare, Each, Stand, cut_lines, lines_in, on_line}

-- a line is what is left of it, and blanks
kept_split : (b : ℕ) (k bs : List ℕ) → Each blank bs → (cs : List ℕ) × Each blank cs × (b ∷ (k ++ bs) ≡ kept_before b k ++ cs)
kept_split b [] bs h =
    ⊎_elim
    (λ e. (b ∷ bs, (e, h), rw (cond-true (blank b) [] (b ∷ []) e) refl))
    (λ e. (bs, h, rw (cond-false (blank b) [] (b ∷ []) e) refl))
    (cases_Bool (blank b))
kept_split b (c ∷ cs) bs h = (bs, h, refl)

trimmed_split : (l : List ℕ) → (bs : List ℕ) × Each blank bs × (l ≡ trimmed l ++ bs)
unfolding trimmed
trimmed_split [] = ([], tt, refl)
trimmed_split (b ∷ l) =
    let more = trimmed_split l in
    let here = kept_split b (trimmed l) more.0 more.1 in
    (here.0, here.1, ap (λ x. b ∷ x) more.2 ∙ here.2)

-- blanks at the end do not matter
trimmed_over : (l bs : List ℕ) → Each blank bs → trimmed (l ++ bs) ≡ trimmed l
unfolding trimmed
trimmed_over [] [] h = refl
trimmed_over [] (b ∷ bs) h = ap (kept_before b) (trimmed_over [] bs h.1) ∙ cond-true (blank b) [] (b ∷ []) h.0
trimmed_over (b ∷ l) bs h = ap (kept_before b) (trimmed_over l bs h)

trimmed_twice : (l : List ℕ) → trimmed (trimmed l) ≡ trimmed l
trimmed_twice l = let s = trimmed_split l in sym (ap trimmed s.2 ∙ trimmed_over (trimmed l) s.0 s.1)

-- bytes that pass a test, in two parts
front : (test : ℕ → Bool) (l v : List ℕ) → Each test (l ++ v) → Each test l
front test [] v h = tt
front test (b ∷ l) v h = (h.0, front test l v h.1)

both : (test : ℕ → Bool) (l v : List ℕ) → Each test l → Each test v → Each test (l ++ v)
both test [] v h g = g
both test (b ∷ l) v h g = (h.0, both test l v h.1 g)

no_newline : (b : ℕ) → blank b ≡ true → on_line b ≡ true
no_newline b h =
    ⊎_elim
    (λ e. let z : blank 10 ≡ true = subst (λ x. blank x ≡ true) (eqb-true b 10 e) h in cc)
    (λ e. not_from_false (eqb b 10) e)
    (cases_Bool (eqb b 10))

blanks_on_line : (bs : List ℕ) → Each blank bs → Each on_line bs
blanks_on_line [] h = tt
blanks_on_line (b ∷ bs) h = (no_newline b h.0, blanks_on_line bs h.1)

-- a line that a newline ends, and one that the text ends
cut_on : (l v : List ℕ) → Each on_line l → cut_lines (l ++ (10 ∷ v)) ≡ l ∷ cut_lines v
unfolding cut_lines
cut_on [] v h = refl
cut_on (b ∷ l) v h = cond-false (eqb b 10) ([] ∷ cut_lines (l ++ (10 ∷ v))) _ (not-true (eqb b 10) h.0) ∙ ap (onto_first b) (cut_on l v h.1)

cut_last : (b : ℕ) (l : List ℕ) → Each on_line (b ∷ l) → cut_lines (b ∷ l) ≡ (b ∷ l) ∷ []
unfolding cut_lines
cut_last b [] h = cond-false (eqb b 10) ([] ∷ []) _ (not-true (eqb b 10) h.0)
cut_last b (c ∷ cs) h = cond-false (eqb b 10) ([] ∷ cut_lines (c ∷ cs)) _ (not-true (eqb b 10) h.0) ∙ ap (onto_first b) (cut_last c cs h.1)

cut_some : (t : List ℕ) → 0 < length t → Each on_line t → cut_lines t ≡ t ∷ []
cut_some [] some h = absurd (omega arith)
cut_some (b ∷ l) some h = cut_last b l h

pub lines_only : (text : List ℕ) (ls : List (List ℕ)) → Stand ls text → lines_in text ≡ ls
unfolding cut_lines
lines_only text [] e = ap lines_in e
lines_only text (l ∷ ls) (bare, gap, blanks, inl (rest, e, s)) =
    ap lines_in (e ∙ sym (append_assoc l gap (10 ∷ rest)))
    ∙ ap (map trimmed) (cut_on (l ++ gap) rest (both on_line l gap bare.one (blanks_on_line gap blanks)))
    ∙ ap (λ x. x ∷ lines_in rest) (trimmed_over l gap blanks ∙ bare.solid)
    ∙ ap (λ x. l ∷ x) (lines_only rest ls s)
lines_only text (l ∷ ls) (bare, gap, blanks, inr (e, some, none)) =
    ap lines_in e
    ∙ ap (map trimmed) (cut_some (l ++ gap) (subst (λ t. 0 < length t) e some) (both on_line l gap bare.one (blanks_on_line gap blanks)))
    ∙ ap (λ x. x ∷ []) (trimmed_over l gap blanks ∙ bare.solid)
    ∙ ap (λ x. l ∷ x) (sym none)

-- the same with the blanks at the ends of lines
abbrev Cuts : List (List ℕ) → List ℕ → Type 0
Cuts [] text = text ≡ []
Cuts (l ∷ ls) text = Each on_line l × (((rest : List ℕ) × (text ≡ l ++ (10 ∷ rest)) × Cuts ls rest) ⊎ ((text ≡ l) × (0 < length text) × (ls ≡ [])))

longer : (b : ℕ) (bs : List ℕ) (cs : List (List ℕ)) → on_line b ≡ true → Cuts cs bs → Cuts (onto_first b cs) (b ∷ bs)
longer b bs [] h e = ((h, tt), inr (ap (λ x. b ∷ x) e, omega arith, refl))
longer b bs (l ∷ ls) h (on, inl (rest, e, c)) = ((h, on), inl (rest, ap (λ x. b ∷ x) e, c))
longer b bs (l ∷ ls) h (on, inr (e, some, none)) = ((h, on), inr (ap (λ x. b ∷ x) e, omega arith, none))

cuts : (text : List ℕ) → Cuts (cut_lines text) text
unfolding cut_lines
cuts [] = refl
cuts (b ∷ bs) =
    ⊎_elim
    (λ e. subst (λ ls. Cuts ls (b ∷ bs)) (sym (cond-true (eqb b 10) ([] ∷ cut_lines bs) (onto_first b (cut_lines bs)) e)) (tt, inl (bs, ap (λ x. x ∷ bs) (eqb-true b 10 e), cuts bs)))
    (λ e. subst (λ ls. Cuts ls (b ∷ bs)) (sym (cond-false (eqb b 10) ([] ∷ cut_lines bs) (onto_first b (cut_lines bs)) e)) (longer b bs (cut_lines bs) (not_from_false (eqb b 10) e) (cuts bs)))
    (cases_Bool (eqb b 10))

bare_of : (l : List ℕ) → Each on_line l → Bare (trimmed l)
bare_of l on = let s = trimmed_split l in record { one = front on_line (trimmed l) s.0 (subst (Each on_line) s.2 on); solid = trimmed_twice l }

stand_of : (ls : List (List ℕ)) (text : List ℕ) → Cuts ls text → Stand (map trimmed ls) text
stand_of [] text e = e
stand_of (l ∷ ls) text (on, inl (rest, e, c)) =
    let s = trimmed_split l in (bare_of l on, s.0, s.1, inl (rest, e ∙ ap (λ x. x ++ (10 ∷ rest)) s.2 ∙ append_assoc (trimmed l) s.0 (10 ∷ rest), stand_of ls rest c))
stand_of (l ∷ ls) text (on, inr (e, some, none)) =
    let s = trimmed_split l in (bare_of l on, s.0, s.1, inr (e ∙ s.2, some, ap (map trimmed) none))

pub lines_stand : (text : List ℕ) → Stand (lines_in text) text
lines_stand text = stand_of (cut_lines text) text (cuts text)
