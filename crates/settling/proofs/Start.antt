-- The values from the start, as the program makes them.
use Rattle.std.proofs.Common.{◌≡◌, ℕ, List, [], ◌∷◌, ◌++◌, map, length, get_or, sym, ap, ◌∙◌, arith}
use Rattle.std.specs.List.{range_with_len}
use Rattle.std.proofs.lemmas.List.{get_or-map, get_or_push, length-map}
use Rattle.std.proofs.lemmas.List.FromFn.{fill_by_all, length-map-range_with_len}
use Rattle.codes.specs.declared.value.Value.{Value}
use Rattle.codes.specs.declared.value.Value.TheVariants.{Off, Unknown}
use Rattle.classes.specs.Asked.{unasked}
use Rattle.classes.specs.declared.classes.Musts.{Musts}
use Rattle.systems.specs.Spaces.{first_value, start_of}

-- class by class they are those of the list of what is asked
pub starts : (musts : List Musts) (n : ℕ) → n ≡ length musts → map (λ class. first_value (get_or musts class unasked)) (range_with_len 0 n) ++ Off ∷ [] ≡ start_of musts
unfolding start_of
starts musts n e =
    let same : map first_value musts ≡ map (λ class. first_value (get_or musts class unasked)) (range_with_len 0 n) =
    fill_by_all (λ class. first_value (get_or musts class unasked)) (map first_value musts) n Unknown (length-map musts first_value ∙ sym e)
    (λ k l. get_or-map first_value musts k unasked Unknown (omega arith)) in
    ap (λ (vs : List Value). vs ++ Off ∷ []) (sym same)

-- the last is nothing, which is off
pub last_off : (f : ℕ → Value) (vs : List Value) (n k : ℕ) → vs ≡ map f (range_with_len 0 n) ++ Off ∷ [] → k ≡ n → get_or vs k Unknown ≡ Off
last_off f vs n k e l = ap (λ (xs : List Value). get_or xs k Unknown) e ∙ get_or_push (map f (range_with_len 0 n)) Off Unknown k (length-map-range_with_len f 0 n ∙ sym l)
