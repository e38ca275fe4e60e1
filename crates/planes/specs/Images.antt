-- What a mirror asks, in words: each cell is as its image in the same generation, and off where the box has no such cell.
use Rattle.std.specs.Prelude.{◌≡◌, ℕ, ◌+◌, ◌<◌, ◌≤◌, ◌⊎◌}
use Rattle.frames.specs.declared.frame.Cell.{Cell}
use Rattle.frames.specs.declared.frame.Frame.{Frame}
use Rattle.frames.specs.Frames.{cells, cell_at}
use Rattle.planes.specs.declared.tie.Tie.TheVariants.{Free, Off, Same}
use Rattle.planes.specs.Layers.{mirror_tie}

-- cell b is the image of cell a: it lies where the relation says, in the generation of a
pub record ImageOf (f : Frame) (Lies : Cell → Cell → Type 0) (a b : ℕ) : Type 0 where
  pub in_box : b < cells f
  pub lies : Lies (cell_at f a) (cell_at f b)
  pub generation : (cell_at f b).t ≡ (cell_at f a).t

-- the mirror of a number, by where the images lie
pub record MirrorRight (f : Frame) (number : ℕ) (Lies : Cell → Cell → Type 0) : Type 0 where
  pub same : (a b : ℕ) → a < cells f → ImageOf f Lies a b → mirror_tie f number a ≡ Same b
  pub off : (a : ℕ) → a < cells f → ((b : ℕ) → ImageOf f Lies a b → ⊥) → mirror_tie f number a ≡ Off

-- the six mirrors: columns run from left to right, rows from top to bottom
pub record MirrorsRight (f : Frame) : Type 0 where
  pub left_right : MirrorRight f 1 (λ a b. (a.x + b.x + 1 ≡ f.width) × (b.y ≡ a.y))
  pub top_bottom : MirrorRight f 2 (λ a b. (b.x ≡ a.x) × (a.y + b.y + 1 ≡ f.height))
  pub half_turn : MirrorRight f 3 (λ a b. (a.x + b.x + 1 ≡ f.width) × (a.y + b.y + 1 ≡ f.height))
  -- at the diagonal from the top left, and at the one from the top right
  pub falling : MirrorRight f 4 (λ a b. (b.x ≡ a.y) × (b.y ≡ a.x))
  pub rising : MirrorRight f 5 (λ a b. (a.y + b.x + 1 ≡ f.width) × (a.x + b.y + 1 ≡ f.width))
  pub quarter_turn : MirrorRight f 6 (λ a b. (a.y + b.x + 1 ≡ f.width) × (b.y ≡ a.x))
  -- every other number asks nothing, and none asks anything past the last cell
  pub untied : (number a : ℕ) → (number ≡ 0) ⊎ (6 < number) → mirror_tie f number a ≡ Free
  pub past : (number a : ℕ) → cells f ≤ a → mirror_tie f number a ≡ Free

abbrev pub MirrorsStand : Type 0
MirrorsStand = (f : Frame) → MirrorsRight f
