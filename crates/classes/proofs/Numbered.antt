-- Numbering classes cell by cell.
use Rattle.std.proofs.Common.{◌≡◌, ℕ, ◌+◌, ◌<◌, List, [], ◌∷◌, ◌++◌, length, get_or, take, sym, refl, ap, ◌∙◌}
use Rattle.std.proofs.lemmas.List.{take_more}
use Rattle.classes.specs.Numbers.{Numbers, numbered_too, numbered_from, numbers_of}

-- one label more at the end
pub from_push : (n : Numbers) (labels : List ℕ) (label : ℕ) → numbered_from n (labels ++ label ∷ []) ≡ numbered_too (numbered_from n labels) label
unfolding numbered_from
from_push n [] label = refl
from_push n (l ∷ labels) label = from_push (numbered_too n l) labels label

pub numbers_none : (labels : List ℕ) → ◌≡◌ {A = Numbers} (record { classes = []; lowest = [] }) (numbers_of (take 0 labels))
unfolding numbered_from
numbers_none labels = refl

pub numbers_more : (labels : List ℕ) (i : ℕ) (old new : Numbers) → i < length labels → old ≡ numbers_of (take i labels) → new ≡ numbered_too old (get_or labels i 0) → new ≡ numbers_of (take (i + 1) labels)
numbers_more labels i old new h e step =
    step ∙ ap (λ n. numbered_too n (get_or labels i 0)) e
    ∙ sym (from_push (record { classes = []; lowest = [] }) (take i labels) (get_or labels i 0))
    ∙ sym (ap numbers_of (take_more labels i 0 h))
