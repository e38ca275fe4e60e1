-- A text's first line and the lines after it, as they are handed out.
use Rattle.std.proofs.Common.{◌≡◌, ℕ, suc, ◌<◌, eqb, List, [], ◌∷◌, length, take, drop, map, Some, None, Option, sym, refl, ap, ◌∙◌, ⊎_elim, arith}
use Rattle.std.specs.Prelude.{OnSome}
use Rattle.std.specs.Borrow.{Bor}
use Rattle.std.specs.List.{onto_first}
use Rattle.std.proofs.lemmas.Bool.{cases_Bool, cond-false}
use Rattle.lines.specs.Given.{GivenLine}
use Rattle.lines.specs.Lines.{first_line, line_length, next_lines, trimmed}
use Rattle.problem.specs.Lines.{cut_lines, first, lines_in, others}
use Rattle.words.specs.Words.{seen}

-- some bytes are a first line and what follows it
pub cut_once : (b : ℕ) (bs : List ℕ) → cut_lines (b ∷ bs) ≡ first_line (b ∷ bs) ∷ cut_lines (next_lines (b ∷ bs))
unfolding cut_lines line_length
cut_once b [] =
    ⊎_elim
    (λ e. rw e refl)
    (λ e. rw e refl)
    (cases_Bool (eqb b 10))
cut_once b (c ∷ cs) =
    ⊎_elim
    (λ e. rw e refl)
    (λ e. cond-false (eqb b 10) ([] ∷ cut_lines (c ∷ cs)) (onto_first b (cut_lines (c ∷ cs))) e ∙ ap (onto_first b) (cut_once c cs) ∙ ap (λ n. take n (b ∷ c ∷ cs) ∷ cut_lines (drop (suc n) (b ∷ c ∷ cs))) (sym (cond-false (eqb b 10) 0 (suc (line_length (c ∷ cs))) e)))
    (cases_Bool (eqb b 10))

-- the line that is handed out is the first, and the others are left
pub handed_out : (old new : List ℕ) (r : Option (Bor (List ℕ))) → GivenLine old new r → OnSome r (length new < length old) → (seen r ≡ first (lines_in old)) × (lines_in new ≡ others (lines_in old))
unfolding cut_lines
handed_out [] new None given less = (refl, ap lines_in given.1)
handed_out (b ∷ bs) new None given less = absurd (omega (arith, ap length given.0))
handed_out [] new (Some line) given less = absurd (omega (arith, less))
handed_out (b ∷ bs) new (Some line) given less =
    let cut = cut_once b bs in
    (ap Some given.0 ∙ ap (λ ls. first (map trimmed ls)) (sym cut), ap lines_in given.1 ∙ ap (λ ls. others (map trimmed ls)) (sym cut))
