-- What settling leaves as it was.
use Rattle.std.specs.Prelude.{◌≡◌}
use Rattle.settling.specs.Boards.{Kept}
use Rattle.search.specs.declared.record.Record.{Record}

-- everything but what the board knows is the same
pub record OnlyBoard (old new : Record) : Type 0 where
  pub frame : new.frame ≡ old.frame
  pub rule : new.rule ≡ old.rule
  pub board : Kept old.board new.board
  pub ranks : new.ranks ≡ old.ranks
  pub decisions : new.decisions ≡ old.decisions
  pub standing : new.standing ≡ old.standing
  pub found : new.found ≡ old.found
  pub tally : new.tally ≡ old.tally

-- what opening fixed, and what go alone counts, is the same
pub record OnlySearch (old new : Record) : Type 0 where
  pub frame : new.frame ≡ old.frame
  pub rule : new.rule ≡ old.rule
  pub board : Kept old.board new.board
  pub ranks : new.ranks ≡ old.ranks
  pub found : new.found ≡ old.found
  pub tally : new.tally ≡ old.tally

-- what opening fixed is the same
pub record AsOpened (old new : Record) : Type 0 where
  pub frame : new.frame ≡ old.frame
  pub rule : new.rule ≡ old.rule
  pub board : Kept old.board new.board
  pub ranks : new.ranks ≡ old.ranks
