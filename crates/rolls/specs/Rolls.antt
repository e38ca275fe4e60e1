-- The roll of a space and a rule: all fillings in which every tie and every instance holds.
use Rattle.std.specs.Prelude.{◌≡◌, ℕ, ◌+◌, ◌<◌, Bool, true, false, cond, List, [], ◌∷◌, length, ℤ, pos, negsuc, ◌+ℤ◌, ◌-ℤ◌, Some, None, Option, nat_lt, slice_index_or}
use Rattle.std.proofs.Math.IntN.{sub_ℕ}
use Rattle.frames.specs.declared.frame.Frame.{Frame}
use Rattle.frames.specs.Frames.{cells, cell_number}
use Rattle.rules.specs.declared.rule.Rule.{Rule}
use Rattle.rules.specs.Answers.{answer}
use Rattle.planes.specs.declared.neighbours.Offset.{Offset}
use Rattle.planes.specs.declared.place.Place.{Place}
use Rattle.planes.specs.declared.tie.Tie.{Tie}
use Rattle.planes.specs.declared.tie.Tie.TheVariants.{Free, Off, On, Same}
use Rattle.planes.specs.Meaning.{InBox, Meaning}

-- what a space says: its frame, its looks, how many rows of ties it has, and the tie of each row and cell
pub record Surface : Type 0 where
  pub frame : Frame
  pub look : ℤ → ℤ → Option Place
  pub rows : ℕ
  pub tie : ℕ → ℕ → Tie

-- what a space says that means this plane and has these ties, in so many rows
abbrev pub surface : Meaning → ℕ → (ℕ → ℕ → Tie) → Surface
surface plane rows tie = record { frame = plane.frame; look = plane.look; rows = rows; tie = tie }

-- a filling has off (false) or on (true) for each cell, by its number; this is its value at a cell
abbrev pub at : List Bool → ℕ → Bool
at f c = slice_index_or f c false

-- what is seen of a filling in generation t where a look falls; a look at nothing is off
abbrev pub seen : Surface → List Bool → ℕ → Option Place → Bool
seen s f t None = false
seen s f t (Some p) = at f (cell_number s.frame p.x p.y t)

-- what is seen from column x and row y in generation t
abbrev pub value : Surface → List Bool → ℕ → ℤ → ℤ → Bool
value s f t x y = seen s f t (s.look x y)

-- where the neighbours of a place lie
abbrev pub around : List Offset
around =
    record { dx = negsuc 0; dy = negsuc 0 } ∷ record { dx = pos 0; dy = negsuc 0 } ∷ record { dx = pos 1; dy = negsuc 0 }
    ∷ record { dx = negsuc 0; dy = pos 0 } ∷ record { dx = pos 1; dy = pos 0 }
    ∷ record { dx = negsuc 0; dy = pos 1 } ∷ record { dx = pos 0; dy = pos 1 } ∷ record { dx = pos 1; dy = pos 1 } ∷ []

-- how many of the looks at these offsets are on; each counts, even where two fall on one cell
abbrev pub total : Surface → List Bool → ℕ → ℤ → ℤ → List Offset → ℕ
total s f t x y [] = 0
total s f t x y (o ∷ os) = cond (value s f t (x +ℤ o.dx) (y +ℤ o.dy)) 1 0 + total s f t x y os

-- the successor: the same look one generation on, or after the last the first generation with the drift taken away
abbrev pub successor : Surface → List Bool → ℕ → ℤ → ℤ → Bool
successor s f t x y = cond (nat_lt (t + 1) s.frame.period) (value s f (t + 1) x y) (value s f 0 (x -ℤ s.frame.dx) (y -ℤ s.frame.dy))

-- the instance at column x and row y of generation t holds: its successor is the rule's answer
abbrev pub InstanceHolds : Surface → Rule → List Bool → ℕ → ℤ → ℤ → Type 0
InstanceHolds s r f t x y = successor s f t x y ≡ answer r (value s f t x y) (total s f t x y around)

-- a tie of a cell holds
abbrev pub TieHolds : List Bool → ℕ → Tie → Type 0
TieHolds f c Free = Unit {0}
TieHolds f c Off = at f c ≡ false
TieHolds f c On = at f c ≡ true
TieHolds f c (Same d) = at f c ≡ at f d

-- the column or row that lies nine before a count: instances run from -9 on
abbrev pub ninth : ℕ → ℤ
ninth i = sub_ℕ i 9

-- a filling keeps the ties and the rule: columns run from -9 to W + 8, rows from -9 to H + 8
pub record Keeps (s : Surface) (r : Rule) (f : List Bool) : Type 0 where
  pub long : length f ≡ cells s.frame
  pub ties : (row c : ℕ) → row < s.rows → c < cells s.frame → TieHolds f c (s.tie row c)
  pub instances : (t j i : ℕ) → t < s.frame.period → j < s.frame.height + 18 → i < s.frame.width + 18 → InstanceHolds s r f t (ninth i) (ninth j)

-- the roll: today every filling that keeps the ties and the rule
abbrev pub Roll : Surface → Rule → List Bool → Type 0
Roll s r f = Keeps s r f

-- the laws of planes, of a surface: a look's place lies in the box, and a place of the box looks at itself
pub record Lawful (s : Surface) : Type 0 where
  pub inside : (x y : ℤ) → InBox s.frame (s.look x y)
  pub own : (x y : ℕ) → x < s.frame.width → y < s.frame.height → s.look (pos x) (pos y) ≡ Some (record { x = x; y = y })
