-- What an opened search holds, in the words of what the space, the order and the rule say, and what it shows.
use Rattle.std.specs.Prelude.{◌≡◌, ℕ, Bool, false, List, map, slice_index_or}
use Rattle.rules.specs.declared.rule.Rule.{Rule}
use Rattle.rules.specs.Forms.{written}
use Rattle.rolls.specs.Rolls.{Surface}
use Rattle.rle.specs.Texts.{pattern_text}
use Rattle.classes.specs.Classed.{numbers_in}
use Rattle.classes.specs.Joins.{TiesInside}
use Rattle.systems.specs.Alike.{Alike}
use Rattle.systems.specs.Spaces.{system_of}
use Rattle.systems.specs.Systems.{Sys}
use Rattle.settling.specs.Boards.{labels_of, values_of}
use Rattle.search.specs.Stacks.{find_in}
use Rattle.search.specs.Standings.{Follows}
use Rattle.search.specs.declared.record.Record.{Record}

-- a record has the frame, the rule and the class of each cell, and follows the search of a system that asks what the system of a surface, a rule and the cells by rank asks
pub record Searches (r : Record) (s : Surface) (rule : Rule) (cell : ℕ → ℕ) : Type 0 where
  pub frame : r.frame ≡ s.frame
  pub same_rule : r.rule ≡ rule
  pub classes : labels_of r.board ≡ (numbers_in s).classes
  -- the cells that ties name exist
  pub inside : TiesInside s
  pub system : Sys
  pub alike : Alike system (system_of s rule cell)
  pub follows : Follows r system

-- the cells of the find where all classes are known
abbrev pub found_cells : Record → List Bool
found_cells r = map (λ class. slice_index_or (find_in (values_of r.board)) class false) (labels_of r.board)

-- the text of its first generation
abbrev pub found_text : Record → List ℕ
found_text r = pattern_text r.frame.width r.frame.height (written r.rule.births r.rule.survivals) (found_cells r)
