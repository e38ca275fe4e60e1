-- What it means that a text reads as a pattern.
use Rattle.std.specs.Prelude.{◌≡◌, ℕ, ◌+◌, ◌*◌, ◌<◌, ◌≤◌, Bool, false, List, [], length, Some, slice_index_or}
use Rattle.rules.specs.Forms.{written}
use Rattle.rle.specs.declared.mark.Run.{Run}
use Rattle.rle.specs.declared.phase.Phase.TheVariants.{Opening}
use Rattle.rle.specs.Items.{Part, Finishes}
use Rattle.rle.specs.Laws.{Given}
use Rattle.rle.specs.Runs.{covers}
use Rattle.rle.specs.Texts.{pattern_text}

-- a text is at most 65,536 bytes long and is read to its end without a fault: it has no remarks, these sizes and this rule, and
-- an `o` run covers a cell exactly when the cell is on
pub record ReadsAs (w h : ℕ) (rule : List ℕ) (cells : List Bool) (text : List ℕ) : Type 0 where
  pub short : length text ≤ 65536
  pub runs : List Run
  pub items : List Part
  pub finishes : Finishes Opening text items
  pub given : Given [] w h (Some rule) runs items
  pub shows : (x y : ℕ) → x < w → y < h → covers 0 0 runs x y ≡ slice_index_or cells (y * w + x) false

-- the text of a pattern reads as that pattern, for every box, rule and pattern
abbrev pub RoundTrip : Type 0
RoundTrip =
    (w h births survivals : ℕ) (cells : List Bool) → 1 ≤ w → w ≤ 32 → 1 ≤ h → h ≤ 32 →
    ReadsAs w h (written births survivals) cells (pattern_text w h (written births survivals) cells)
