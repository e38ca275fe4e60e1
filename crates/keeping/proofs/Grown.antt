-- Generations as they are worked out, cell by cell.
use Rattle.std.proofs.Common.{◌≡◌, ℕ, ◌+◌, ◌*◌, ◌-◌, ◌<◌, ◌≤◌, Bool, List, [], ◌∷◌, ◌++◌, sym, ap, ◌∙◌, refl, add-one, arith}
use Rattle.std.proofs.Math.Nat.{mul-le-mul_left}
use Rattle.frames.specs.declared.frame.Frame.{Frame}
use Rattle.frames.specs.Frames.{cells}
use Rattle.rules.specs.declared.rule.Rule.{Rule}
use Rattle.rolls.specs.Rolls.{Surface}
use Rattle.keeping.specs.Worked.{grown, next_of}

pub grown_none : (s : Surface) (r : Rule) (first : List Bool) → grown s r first 0 ≡ first
unfolding grown
grown_none s r first = refl

-- one cell more
pub grown_more : (s : Surface) (r : Rule) (first : List Bool) (n : ℕ) (old new : List Bool) (on : Bool) → old ≡ grown s r first n → on ≡ next_of s r (grown s r first n) n → new ≡ old ++ on ∷ [] → new ≡ grown s r first (n + 1)
unfolding grown
grown_more s r first n old new on before here e = e ∙ (λ i. before i ++ here i ∷ []) ∙ ap (grown s r first) (sym (add-one n))

-- a cell that is not in the last generation is a cell of the box
pub part_below : (f : Frame) (places period n : ℕ) → places ≡ f.width * f.height → period ≡ f.period → n < places * (period - 1) → n < cells f
part_below f places period n p q less =
    let e : places * (period - 1) ≡ f.width * f.height * (f.period - 1) = (λ i. p i * (q i - 1)) in
    let most : f.width * f.height * (f.period - 1) ≤ f.width * f.height * f.period = mul-le-mul_left (f.width * f.height) (omega arith) in
    omega (arith, e, most, less)
