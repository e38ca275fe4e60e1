-- Why nine cells of margin are enough on a plane that looks at nothing outside its box.
use Rattle.std.specs.Prelude.{◌≡◌, ℕ, ◌<◌, Bool, ◌⊎◌, List, ℤ, pos, ◌≤ℤ◌, ◌<ℤ◌, None}
use Rattle.frames.specs.declared.frame.Frame.{Frame}
use Rattle.rules.specs.declared.rule.Rule.{Rule}
use Rattle.planes.specs.declared.tie.Tie.{Tie}
use Rattle.planes.specs.Looks.{plain}
use Rattle.rolls.specs.Rolls.{Surface, surface, InstanceHolds, Keeps}

-- a column or a row that is none of the box
abbrev pub Outside : Frame → ℤ → ℤ → Type 0
Outside f x y = ((x <ℤ pos 0) ⊎ (pos f.width ≤ℤ x)) ⊎ ((y <ℤ pos 0) ⊎ (pos f.height ≤ℤ y))

-- a look outside the box falls on nothing
abbrev pub Ends : Surface → Type 0
Ends s = (x y : ℤ) → Outside s.frame x y → s.look x y ≡ None

pub record MarginsStand : Type 0 where
  -- the plain plane is such a plane
  pub plain_ends : (f : Frame) (rows : ℕ) (tie : ℕ → ℕ → Tie) → Ends (surface (plain f) rows tie)
  -- there a filling that keeps the ties and the rule keeps every instance, however far outside
  pub enough : (s : Surface) (r : Rule) (f : List Bool) → Ends s → Keeps s r f → (t : ℕ) → t < s.frame.period → (x y : ℤ) → InstanceHolds s r f t x y
