-- The pattern that a text shows, and the runs that a pattern is written as.
use Rattle.std.specs.Prelude.{◌≡◌, ℕ, ◌<◌, ◌≤◌, Bool, List, [], ◌∷◌, Option, ◌≢◌}
use Rattle.rle.specs.declared.mark.Mark.{Mark}
use Rattle.rle.specs.declared.mark.Mark.TheVariants.{Off, On, NextRow}
use Rattle.rle.specs.declared.mark.Run.{Run}
use Rattle.rle.specs.declared.phase.Phase.TheVariants.{Opening}
use Rattle.rle.specs.Items.{Part, Finishes}
use Rattle.rle.specs.Laws.{Readable, Given}
use Rattle.rle.specs.Marks.{pattern_marks, grouped}
use Rattle.rle.specs.Runs.{Inside, covers}

-- a text of the grammar and its pattern: a cell of the box is on exactly when an `o` run covers it
pub record Shows (remarks : List (List ℕ)) (w h : ℕ) (rule : Option (List ℕ)) (runs : List Run) (pattern : ℕ → ℕ → Bool) (text : List ℕ) : Type 0 where
  pub readable : Readable remarks w h rule runs text
  pub cells : (x y : ℕ) → x < w → y < h → pattern x y ≡ covers 0 0 runs x y

-- a text that is read to its end shows a pattern, and what is handed out are the parts of the text
abbrev pub ShowsOne : Type 0
ShowsOne =
    (text : List ℕ) (items : List Part) → Finishes Opening text items →
    (remarks : List (List ℕ)) × (w : ℕ) × (h : ℕ) × (rule : Option (List ℕ)) × (runs : List Run) × (pattern : ℕ → ℕ → Bool) × Shows remarks w h rule runs pattern text × Given remarks w h rule runs items

-- all that a text shows twice is the same: remarks, sizes, rule, runs, and each cell of the pattern
pub record Alike (remarks₁ remarks₂ : List (List ℕ)) (w₁ w₂ h₁ h₂ : ℕ) (rule₁ rule₂ : Option (List ℕ)) (runs₁ runs₂ : List Run) (pattern₁ pattern₂ : ℕ → ℕ → Bool) : Type 0 where
  pub remarks : remarks₁ ≡ remarks₂
  pub width : w₁ ≡ w₂
  pub height : h₁ ≡ h₂
  pub rule : rule₁ ≡ rule₂
  pub runs : runs₁ ≡ runs₂
  pub cells : (x y : ℕ) → x < w₁ → y < h₁ → pattern₁ x y ≡ pattern₂ x y

-- no text shows two things
abbrev pub ShowsNoOther : Type 0
ShowsNoOther =
    (text : List ℕ) (remarks₁ remarks₂ : List (List ℕ)) (w₁ w₂ h₁ h₂ : ℕ) (rule₁ rule₂ : Option (List ℕ)) (runs₁ runs₂ : List Run) (pattern₁ pattern₂ : ℕ → ℕ → Bool) →
    Shows remarks₁ w₁ h₁ rule₁ runs₁ pattern₁ text → Shows remarks₂ w₂ h₂ rule₂ runs₂ pattern₂ text →
    Alike remarks₁ remarks₂ w₁ w₂ h₁ h₂ rule₁ rule₂ runs₁ runs₂ pattern₁ pattern₂

-- what follows a run: cells that are off are followed by cells that are on, so that a row stops at its last on cell; a step
-- down by a cell of its row, so that steps are one run and none comes last; and cells that are on by no others that are on
abbrev pub Follows : Mark → List Run → Type 0
Follows Off [] = ⊥
Follows On [] = Unit {0}
Follows NextRow [] = ⊥
Follows Off (r ∷ rs) = r.mark ≡ On
Follows On (r ∷ rs) = r.mark ≢ On
Follows NextRow (r ∷ rs) = r.mark ≢ NextRow

-- runs as they are written: none is empty, and each is followed as it has to be
abbrev pub Canonical : List Run → Type 0
Canonical [] = Unit {0}
Canonical (r ∷ rs) = (1 ≤ r.count) × Follows r.mark rs × Canonical rs

-- the runs of every pattern are so
abbrev pub WritesCanonical : Type 0
WritesCanonical = (w h : ℕ) (cells : List Bool) → Canonical (grouped (pattern_marks w h cells))

-- runs of this form that lie in a box and cover the same cells of it are the same runs: a pattern is written in no other way
abbrev pub OneForm : Type 0
OneForm =
    (w h : ℕ) (rs ss : List Run) → Canonical rs → Canonical ss → Inside w h 0 0 rs → Inside w h 0 0 ss →
    ((x y : ℕ) → x < w → y < h → covers 0 0 rs x y ≡ covers 0 0 ss x y) → rs ≡ ss

pub record PatternLaws : Type 0 where
  pub shows : ShowsOne
  pub alone : ShowsNoOther
  pub canonical : WritesCanonical
  pub one : OneForm
