-- A run at the front of the marks is the first of their runs, and its text the front of theirs.
use Rattle.std.proofs.Common.{◌≡◌, ℕ, zero, suc, ◌+◌, ◌<◌, ◌≤◌, true, false, List, [], ◌∷◌, ◌++◌, length, replicate, refl, ap, ◌∙◌, append_assoc, arith, length-append}
use lib.ListN.{length-replicate}
use Rattle.std.specs.List.{flat_map}
use Rattle.std.proofs.lemmas.Bool.{cond-true, cond-false, cond_both}
use Rattle.rle.specs.declared.mark.Mark.{Mark}
use Rattle.rle.specs.declared.mark.Mark.TheVariants.{Off, On, NextRow}
use Rattle.rle.specs.declared.mark.Run.{Run}
use Rattle.rle.specs.Marks.{same_mark, join_mark, grouped}
use Rattle.texts.specs.Marks.{begins_with}
use Rattle.rle.specs.Texts.{run_text, body_text}

same_mark_self : (m : Mark) → same_mark m m ≡ true
same_mark_self Off = refl
same_mark_self On = refl
same_mark_self NextRow = refl

-- the first run, if any, repeats the mark k
abbrev Repeats : Mark → List Run → Type 0
Repeats k [] = Unit {0}
Repeats k (r ∷ rs) = r.mark ≡ k

join_repeats : (k : Mark) (rs : List Run) → Repeats k (join_mark k rs)
join_repeats k [] = refl
join_repeats k (r ∷ rs) = cond_both (same_mark k r.mark) _ _ (Repeats k) (λ e. refl) (λ e. refl)

other_run : (m k : Mark) (rs : List Run) → Repeats k rs → same_mark m k ≡ false → join_mark m rs ≡ record { count = 1; mark = m } ∷ rs
other_run m k [] h e = refl
other_run m k (r ∷ rs) h e = cond-false (same_mark m r.mark) _ _ (ap (same_mark m) h ∙ e)

alone : (m : Mark) (ms : List Mark) → begins_with m ms ≡ false → join_mark m (grouped ms) ≡ record { count = 1; mark = m } ∷ grouped ms
alone m [] e = refl
alone m (k ∷ ms) e = other_run m k (join_mark k (grouped ms)) (join_repeats k (grouped ms)) e

grouped_run : (n : ℕ) (m : Mark) (ms : List Mark) → begins_with m ms ≡ false → grouped (replicate (suc n) m ++ ms) ≡ record { count = suc n; mark = m } ∷ grouped ms
grouped_run zero m ms e = alone m ms e
grouped_run (suc n) m ms e = ap (join_mark m) (grouped_run n m ms e) ∙ cond-true (same_mark m m) _ _ (same_mark_self m)

first_run : (n : ℕ) (m : Mark) (ms : List Mark) → 1 ≤ n → begins_with m ms ≡ false → grouped (replicate n m ++ ms) ≡ record { count = n; mark = m } ∷ grouped ms
first_run zero m ms h e = absurd (omega arith)
first_run (suc n) m ms h e = grouped_run n m ms e

pub body_more : (old new : List Mark) (r : Run) → 1 ≤ r.count → old ≡ replicate r.count r.mark ++ new → begins_with r.mark new ≡ false → body_text old ≡ run_text r ++ body_text new
body_more old new r h e o =
    ap body_text e
    ∙ ap (λ rs. flat_map run_text rs ++ (33 ∷ 10 ∷ [])) (first_run r.count r.mark new h o)
    ∙ append_assoc (run_text r) (flat_map run_text (grouped new)) (33 ∷ 10 ∷ [])

pub shorter : (old new : List Mark) (n : ℕ) (m : Mark) → 1 ≤ n → old ≡ replicate n m ++ new → length new < length old
shorter old new n m h e = omega (arith, ap length e, length-append (replicate n m) new, length-replicate n m)

pub body_length_more : (old new : List Mark) (r : Run) → 1 ≤ r.count → old ≡ replicate r.count r.mark ++ new → begins_with r.mark new ≡ false → length (body_text old) ≡ length (run_text r) + length (body_text new)
body_length_more old new r h e o = ap length (body_more old new r h e o) ∙ length-append (run_text r) (body_text new)
