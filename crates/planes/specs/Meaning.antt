-- What a plane means, and its two laws.
use Rattle.std.specs.Prelude.{◌≡◌, ℕ, ◌<◌, ℤ, pos, Some, None, Option}
use Rattle.frames.specs.declared.frame.Frame.{Frame}
use Rattle.planes.specs.declared.place.Place.{Place}

-- a frame, and a look: for every column and row a place of the box, or nothing
pub record Meaning : Type 0 where
  pub frame : Frame
  pub look : ℤ → ℤ → Option Place

-- a look's place lies in the box
abbrev pub InBox : Frame → Option Place → Type 0
InBox f None = Unit {0}
InBox f (Some p) = (p.x < f.width) × (p.y < f.height)

-- a place of the box looks at itself
abbrev pub LooksAtItself : Meaning → Type 0
LooksAtItself m = (x y : ℕ) → x < m.frame.width → y < m.frame.height → m.look (pos x) (pos y) ≡ Some (record { x = x; y = y })
