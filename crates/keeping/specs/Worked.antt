-- The generations that follow from the first by the rule.
use Rattle.std.specs.Prelude.{ℕ, zero, suc, ◌*◌, ◌-◌, ◌/◌, ◌%◌, Bool, List, [], ◌∷◌, ◌++◌, pos}
use Rattle.rules.specs.declared.rule.Rule.{Rule}
use Rattle.rolls.specs.Rolls.{Surface}
use Rattle.keeping.specs.Asked.{answered}

-- what becomes of cell n one generation on
abbrev pub next_of : Surface → Rule → List Bool → ℕ → Bool
next_of s r f n = answered s r f (n / s.frame.width / s.frame.height) (pos (n % s.frame.width)) (pos (n / s.frame.width % s.frame.height))

-- a first generation, and after it what becomes of the first n cells one generation on
unfoldable pub grown : Surface → Rule → List Bool → ℕ → List Bool
grown s r first zero = first
grown s r first (suc n) = grown s r first n ++ next_of s r (grown s r first n) n ∷ []

-- a first generation and all that follow it in the box
abbrev pub worked_out : Surface → Rule → List Bool → List Bool
worked_out s r first = grown s r first (s.frame.width * s.frame.height * (s.frame.period - 1))
