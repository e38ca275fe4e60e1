-- Where the looks of the supplied planes fall.
use Rattle.std.specs.Prelude.{ℕ, ◌-◌, ◌%◌, ◌<◌, cond, ◌&&◌, ℤ, pos, negsuc, Some, None, Option, IfSome, nat_lt}
use Rattle.frames.specs.declared.frame.Frame.{Frame}
use Rattle.planes.specs.declared.place.Place.{Place}
use Rattle.planes.specs.Meaning.{Meaning, InBox}

-- a place, where it lies in the box
abbrev pub boxed : Frame → ℕ → ℕ → Option Place
boxed f x y = cond (nat_lt x f.width && nat_lt y f.height) (Some (record { x = x; y = y })) None

-- the remainder by n, never negative
abbrev pub wrap : ℕ → ℤ → ℕ
wrap n (pos a) = a % n
wrap n (negsuc a) = n - 1 - a % n

-- the same number, where it is from 0 to n - 1
abbrev pub within : ℕ → ℤ → Option ℕ
within n (pos a) = cond (nat_lt a n) (Some a) None
within n (negsuc a) = None

-- the place of a column and a row, where there are both
abbrev pub across : Option ℕ → Option ℕ → Option Place
across (Some x) (Some y) = Some (record { x = x; y = y })
across (Some x) None = None
across None y = None

-- a frame whose columns and rows lie each on an axis, by where a number falls among so many places
abbrev pub sheet : Frame → (ℕ → ℤ → Option ℕ) → (ℕ → ℤ → Option ℕ) → Meaning
sheet f columns rows = record { frame = f; look = λ x y. across (columns f.width x) (rows f.height y) }

-- nothing lies outside the box
abbrev pub plain_look : Frame → ℤ → ℤ → Option Place
plain_look f x y = across (within f.width x) (within f.height y)

-- columns and rows go round
abbrev pub torus_look : Frame → ℤ → ℤ → Option Place
torus_look f x y = Some (record { x = wrap f.width x; y = wrap f.height y })

-- columns go round
abbrev pub cylinder_look : Frame → ℤ → ℤ → Option Place
cylinder_look f x y = across (Some (wrap f.width x)) (within f.height y)

abbrev pub plain : Frame → Meaning
plain f = record { frame = f; look = plain_look f }

abbrev pub torus : Frame → Meaning
torus f = record { frame = f; look = torus_look f }

abbrev pub cylinder : Frame → Meaning
cylinder f = record { frame = f; look = cylinder_look f }

-- a column and a row below the frame's are a place of the box
pub across_in_box : (f : Frame) (x y : Option ℕ) → IfSome x (λ i. i < f.width) → IfSome y (λ i. i < f.height) → InBox f (across x y)
across_in_box f (Some x) (Some y) hx hy = (hx, hy)
across_in_box f (Some x) None hx hy = tt
across_in_box f None y hx hy = tt
