-- A text shows one pattern, and the runs of a pattern follow one another as they have to.
use Rattle.std.proofs.Common.{◌≡◌, ℕ, zero, suc, pred, ◌*◌, ◌<◌, Bool, true, false, List, [], ◌∷◌, take, sym, refl, ap, ◌∙◌, subst, arith}
use Rattle.std.proofs.lemmas.Bool.{cond_both}
use Rattle.rle.specs.declared.mark.Mark.{Mark}
use Rattle.rle.specs.declared.mark.Mark.TheVariants.{Off, On, NextRow}
use Rattle.rle.specs.declared.mark.Run.{Run}
use Rattle.rle.specs.declared.phase.Phase.{Phase}
use Rattle.rle.specs.Items.{Head, Part, Taken, ending, Finishes, ends, goes, run_items, items_of}
use Rattle.rle.specs.Marks.{cell_mark, step_down, marks_from, pattern_marks, same_mark, join_mark, grouped}
use Rattle.rle.specs.Patterns.{ShowsOne, ShowsNoOther, Follows, Canonical, WritesCanonical}
use Rattle.rle.specs.Runs.{covers}
use Rattle.rle.specs.Scans.{good}
use Rattle.rle.proofs.Laying.{same_is}
use Rattle.rle.proofs.Reading.{reads_every, reads_only, took_part, took_phase}

pub shows_one : ShowsOne
shows_one text items f =
    let o = reads_only text items f in
    (o.0, o.1, o.2, o.3, o.4, covers 0 0 o.4, record { readable = o.5; cells = λ x y a b. refl }, o.6)

-- what is left after two items that are one
pub took_rest : (a b : Taken) (v w : List ℕ) → good a v ≡ good b w → v ≡ w
took_rest a b v w e = cc

-- a text is read to its end in one way
one_way : {p : Phase} {t : List ℕ} {xs ys : List Part} → Finishes p t xs → Finishes p t ys → xs ≡ ys
one_way (ends q rest e) (ends q₁ rest₁ e₁) = refl
one_way (ends q rest e) (goes {x = x} q₁ rest₁ e₁ other more₁) = absurd (other (took_part (record { part = x; phase = q₁ }) (record { part = ending; phase = q }) rest₁ rest (sym e₁ ∙ e)))
one_way (goes {x = x} q rest e other more) (ends q₁ rest₁ e₁) = absurd (other (took_part (record { part = x; phase = q }) (record { part = ending; phase = q₁ }) rest rest₁ (sym e ∙ e₁)))
one_way (goes {x = x} {xs = xs} q rest e other more) (goes {x = x₁} {xs = ys} q₁ rest₁ e₁ other₁ more₁) =
    let a : Taken = record { part = x; phase = q } in
    let b : Taken = record { part = x₁; phase = q₁ } in
    let same : good a rest ≡ good b rest₁ = sym e ∙ e₁ in
    let moved : Finishes q rest ys =
    subst (λ z. Finishes z rest ys) (sym (took_phase a b rest rest₁ same)) (subst (λ z. Finishes q₁ z ys) (sym (took_rest a b rest rest₁ same)) more₁) in
    ap (λ z. z ∷ xs) (took_part a b rest rest₁ same) ∙ ap (λ z. x₁ ∷ z) (one_way more moved)

-- items that are the same are those of the same parts
same_runs : (rs ss : List Run) → run_items rs ≡ run_items ss → rs ≡ ss
same_runs [] [] e = refl
same_runs [] (s ∷ ss) e = cc
same_runs (r ∷ rs) [] e = cc
same_runs (r ∷ rs) (s ∷ ss) e =
    let first : r ≡ s = cc in
    let rest : run_items rs ≡ run_items ss = cc in
    ap (λ z. z ∷ rs) first ∙ ap (λ z. s ∷ z) (same_runs rs ss rest)

abbrev Same : List (List ℕ) → List (List ℕ) → Head → Head → List Run → List Run → Type 0
Same qs rs a b us vs = (qs ≡ rs) × (a ≡ b) × (us ≡ vs)

same_parts : (qs rs : List (List ℕ)) (k l : List ℕ) (a b : Head) (us vs : List Run) → items_of qs k a us ≡ items_of rs l b vs → Same qs rs a b us vs
same_parts [] [] k l a b us vs e =
    let head : a ≡ b = cc in
    let rest : run_items us ≡ run_items vs = cc in
    (refl, head, same_runs us vs rest)
same_parts [] (r ∷ rs) k l a b us vs e = cc
same_parts (q ∷ qs) [] k l a b us vs e = cc
same_parts (q ∷ qs) (r ∷ rs) k l a b us vs e =
    let first : q ≡ r = cc in
    let rest : items_of qs k a us ≡ items_of rs l b vs = cc in
    let more = same_parts qs rs k l a b us vs rest in
    (ap (λ z. z ∷ qs) first ∙ ap (λ z. r ∷ z) more.0, more.1, more.2)

pub shows_no_other : ShowsNoOther
shows_no_other text remarks₁ remarks₂ w₁ w₂ h₁ h₂ rule₁ rule₂ runs₁ runs₂ pattern₁ pattern₂ s₁ s₂ =
    let one = reads_every remarks₁ w₁ h₁ rule₁ runs₁ text s₁.readable in
    let two = reads_every remarks₂ w₂ h₂ rule₂ runs₂ text s₂.readable in
    let g₁ = one.2 in
    let g₂ = two.2 in
    let items : items_of remarks₁ g₁.line g₁.head runs₁ ≡ items_of remarks₂ g₂.line g₂.head runs₂ = sym g₁.items_are ∙ one_way one.1 two.1 ∙ g₂.items_are in
    let same = same_parts remarks₁ remarks₂ g₁.line g₂.line g₁.head g₂.head runs₁ runs₂ items in
    let wide : w₁ ≡ w₂ = sym g₁.width ∙ ap (λ z. z.width) same.1 ∙ g₂.width in
    let high : h₁ ≡ h₂ = sym g₁.height ∙ ap (λ z. z.height) same.1 ∙ g₂.height in
    record {
      remarks = same.0;
      width = wide;
      height = high;
      rule = sym g₁.named ∙ ap (λ z. z.rule) same.1 ∙ g₂.named;
      runs = same.2;
      cells = λ x y a b. s₁.cells x y a b ∙ ap (λ z. covers 0 0 z x y) same.2 ∙ sym (s₂.cells x y (subst (λ z. x < z) wide a) (subst (λ z. y < z) high b));
    }

-- the same of marks: an off cell has a cell after it, and a step down something
abbrev Goes : Mark → List Mark → Type 0
Goes Off [] = ⊥
Goes Off (Off ∷ ms) = Unit {0}
Goes Off (On ∷ ms) = Unit {0}
Goes Off (NextRow ∷ ms) = ⊥
Goes On ms = Unit {0}
Goes NextRow [] = ⊥
Goes NextRow (m ∷ ms) = Unit {0}

abbrev Orderly : List Mark → Type 0
Orderly [] = Unit {0}
Orderly (m ∷ ms) = Goes m ms × Orderly ms

cell_orderly : (b : Bool) (ms : List Mark) → Orderly ms → Orderly (cell_mark b ms)
cell_orderly true ms h = (tt, h)
cell_orderly false [] h = tt
cell_orderly false (NextRow ∷ ms) h = h
cell_orderly false (Off ∷ ms) h = (tt, h)
cell_orderly false (On ∷ ms) h = (tt, h)

step_orderly : (ms : List Mark) → Orderly ms → Orderly (step_down ms)
step_orderly [] h = tt
step_orderly (m ∷ ms) h = (tt, h)

from_orderly : (w k : ℕ) (bs : List Bool) → Orderly (marks_from w k bs)
from_orderly w zero [] = tt
from_orderly w (suc k) [] = tt
from_orderly w zero (b ∷ bs) = step_orderly (cell_mark b (marks_from w (pred w) bs)) (cell_orderly b (marks_from w (pred w) bs) (from_orderly w (pred w) bs))
from_orderly w (suc k) (b ∷ bs) = cell_orderly b (marks_from w k bs) (from_orderly w k bs)

-- the first run of some marks has the first mark
abbrev StartsAs : List Mark → List Run → Type 0
StartsAs [] [] = Unit {0}
StartsAs [] (r ∷ rs) = ⊥
StartsAs (m ∷ ms) [] = ⊥
StartsAs (m ∷ ms) (r ∷ rs) = r.mark ≡ m

join_starts : (m : Mark) (ms : List Mark) (rs : List Run) → StartsAs (m ∷ ms) (join_mark m rs)
join_starts m ms [] = refl
join_starts m ms (r ∷ rs) = cond_both (same_mark m r.mark) _ _ (StartsAs (m ∷ ms)) (λ e. refl) (λ e. refl)

starts_as : (ms : List Mark) → StartsAs ms (grouped ms)
starts_as [] = tt
starts_as (m ∷ ms) = join_starts m ms (grouped ms)

-- a run of another mark follows as it has to
other_follows : (m n k : Mark) (ms : List Mark) (rs : List Run) (r : Run) → Goes m (n ∷ ms) → r.mark ≡ k → k ≡ n → same_mark m k ≡ false → Follows m (r ∷ rs)
other_follows Off Off k ms rs r g is e d = cc
other_follows Off On k ms rs r g is e d = is ∙ e
other_follows Off NextRow k ms rs r g is e d = absurd g
other_follows On n k ms rs r g is e d = λ z. cc
other_follows NextRow n k ms rs r g is e d = λ z. cc

alone_follows : (m : Mark) → Goes m [] → Follows m []
alone_follows Off g = g
alone_follows On g = tt
alone_follows NextRow g = g

join_canonical : (m : Mark) (ms : List Mark) (rs : List Run) → Goes m ms → StartsAs ms rs → Canonical rs → Canonical (join_mark m rs)
join_canonical m [] [] g s h = (omega arith, alone_follows m g, tt)
join_canonical m [] (r ∷ rs) g s h = absurd s
join_canonical m (n ∷ ms) [] g s h = absurd s
join_canonical m (n ∷ ms) (r ∷ rs) g s h =
    cond_both (same_mark m r.mark) _ _ Canonical
    (λ e. (omega arith, subst (λ k. Follows k rs) (sym (same_is m r.mark e)) h.1, h.2))
    (λ e. (omega arith, other_follows m n r.mark ms rs r g refl s e, h))

grouped_canonical : (ms : List Mark) → Orderly ms → Canonical (grouped ms)
grouped_canonical [] h = tt
grouped_canonical (m ∷ ms) h = join_canonical m ms (grouped ms) h.0 (starts_as ms) (grouped_canonical ms h.1)

pub writes_canonical : WritesCanonical
writes_canonical w h cells = grouped_canonical (pattern_marks w h cells) (from_orderly w w (take (w * h) cells))
