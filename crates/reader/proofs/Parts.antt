-- How reading one part after another follows the definitions.
use Rattle.std.proofs.Common.{◌≡◌, ℕ, ◌+◌, ◌<◌, ◌≤◌, List, length, get_or, drop, IsErrAnd, Ok, Err, Result, sym, refl, ap, ◌∙◌}
use Rattle.std.proofs.lemmas.List.{at_drop_more, at_drop_all}
use Rattle.rle.specs.declared.fault.ReadCause.{ReadCause}
use Rattle.rle.specs.declared.phase.Step.{Step}
use Rattle.rle.specs.declared.phase.Step.TheVariants.{Tight}
use Rattle.rle.specs.Scans.{Scan, good, bad, and_then, this_byte, gap, byte_of, is_loose, in_turn}
use Rattle.reader.specs.declared.reader.Reader.{Reader}
use Rattle.reader.specs.Left.{left, step_here, Scanned}

-- where a part is at fault, so is the whole
pub broken : {A B : Type 0} (view : A → B) (scan : List ℕ → Scan B) (old new : Reader) (r : Result A ReadCause) (cause : ReadCause) → IsErrAnd r (λ y. y ≡ cause) → new.text.now ≡ old.text.now → bad cause (left new) ≡ scan (left old) → Scanned view scan old new r
broken view scan old new (Ok a) cause never text told = absurd never
broken view scan old new (Err y) cause is text told = record { text = text; told = ap (λ c. bad c (left new)) is ∙ told }

-- one part more
pub onto : {A B : Type 0} (next : A → List ℕ → Scan B) (x y : Scan A) → x ≡ y → and_then x next ≡ and_then y next
onto next x y e = ap (λ s. and_then s next) e

-- parts may be grouped
pub then_then : {A B C : Type 0} (s : Scan A) (f : A → List ℕ → Scan B) (g : B → List ℕ → Scan C) → and_then (and_then s f) g ≡ and_then s (λ a rest. and_then (f a rest) g)
then_then (good a rest) f g = refl
then_then (bad cause rest) f g = refl

abbrev pub none : Step
none = Tight 0

turn : (steps : List Step) (i : ℕ) (t : List ℕ) → i < length steps → in_turn (drop i steps) t ≡ and_then (step_here (get_or steps i none) t) (λ _ rest. in_turn (drop (i + 1) steps) rest)
unfolding in_turn
turn steps i t h =
    let s = get_or steps i none in
    at_drop_more (λ ss. in_turn ss t) steps i none h ∙ sym (then_then (this_byte (byte_of s) t) (λ _ rest. good tt (gap (is_loose s) rest)) (λ _ rest. in_turn (drop (i + 1) steps) rest))

pub turn_more : (steps : List Step) (i : ℕ) (t rest : List ℕ) (u : Unit {0}) → i < length steps → good u rest ≡ step_here (get_or steps i none) t → in_turn (drop (i + 1) steps) rest ≡ in_turn (drop i steps) t
turn_more steps i t rest u h e = onto (λ _ z. in_turn (drop (i + 1) steps) z) (good u rest) _ e ∙ sym (turn steps i t h)

pub turn_fails : (steps : List Step) (i : ℕ) (t rest : List ℕ) (cause : ReadCause) → i < length steps → bad cause rest ≡ step_here (get_or steps i none) t → bad cause rest ≡ in_turn (drop i steps) t
turn_fails steps i t rest cause h e = onto (λ _ z. in_turn (drop (i + 1) steps) z) (bad cause rest) _ e ∙ sym (turn steps i t h)

pub turn_ends : (steps : List Step) (i : ℕ) (t : List ℕ) → length steps ≤ i → good tt t ≡ in_turn (drop i steps) t
unfolding in_turn
turn_ends steps i t h = sym (at_drop_all (λ ss. in_turn ss t) steps i h)
