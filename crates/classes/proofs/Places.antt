-- What holds at each place of a list, with one place more.
use Rattle.std.proofs.Common.{◌≡◌, ℕ, ◌<◌, Bool, true, false, cond, List, [], ◌∷◌, ◌++◌, length, get_or, sym, ap, ◌∙◌, subst, below_more}
use Rattle.std.proofs.lemmas.List.{length_push, get_or_push, get_or_append_left}

pub each_more : {X : Type 0} (P : ℕ → X → Type 0) (d : X) (xs ys : List X) (x : X) → ys ≡ xs ++ x ∷ [] → ((k : ℕ) → k < length xs → P k (get_or xs k d)) → P (length xs) x → (k : ℕ) → k < length ys → P k (get_or ys k d)
each_more P d xs ys x e old here k h =
    let Q : ℕ → Type 0 = λ n. P n (get_or ys n d) in
    let left : (n : ℕ) → n < length xs → Q n = λ n l. subst (P n) (sym (ap (λ z. get_or z n d) e ∙ get_or_append_left xs (x ∷ []) d n l)) (old n l) in
    let last : Q (length xs) = subst (P (length xs)) (sym (ap (λ z. get_or z (length xs) d) e ∙ get_or_push xs x d (length xs) (λ i. length xs))) here in
    below_more Q (length xs) left last k (subst (λ n. k < n) (ap length e ∙ length_push xs x) h)

-- the same, where the one place more may not have been had
pub each_more_if : {X : Type 0} (P : ℕ → X → Type 0) (d : X) (got : Bool) (xs ys : List X) (x : X) → ys ≡ cond got (xs ++ x ∷ []) xs → ((k : ℕ) → k < length xs → P k (get_or xs k d)) → P (length xs) x → (k : ℕ) → k < length ys → P k (get_or ys k d)
each_more_if P d true xs ys x e old here = each_more P d xs ys x e old here
each_more_if P d false xs ys x e old here = subst (λ l. (k : ℕ) → k < length l → P k (get_or l k d)) (sym e) old
