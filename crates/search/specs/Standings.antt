-- When a search stands as it is defined for a system.
use Rattle.std.specs.Prelude.{◌≡◌, ℕ, ◌+◌, ◌<◌, ◌≤◌, false, length, vec_len, slice_index_or}
use Rattle.codes.specs.Tables.{code_at, code_in}
use Rattle.gathering.specs.Systems.{class_count, instances_of}
use Rattle.systems.specs.declared.instance.Instance.{Instance}
use Rattle.systems.specs.Systems.{In, Sys, Proper}
use Rattle.histories.specs.Searches.{State}
use Rattle.settling.specs.Boards.{held_of, settled_len, trail_len, values_of}
use Rattle.settling.specs.declared.board.Board.{Board}
use Rattle.search.specs.declared.record.Record.{Record}
use Rattle.search.specs.Decided.{first}
use Rattle.search.specs.Stacks.{Stack, StandsAs, all_meant, decided_in, is_contradiction, is_told}

-- a board has the rule and the instances of a system
pub record Renders (b : Board) (S : Sys) : Type 0 where
  pub rule : (n : ℕ) → code_in b.table n ≡ code_at S.rule n
  pub there : (i : Instance) → In i S.instances → In i (instances_of b.system)
  pub back : (i : Instance) → In i (instances_of b.system) → In i S.instances
  pub sized : length S.start ≡ class_count b.system + 1
  pub proper : Proper S

-- what a record holds is what the search of a system holds; only where there is a contradiction it may be settled in part
pub record Follows (r : Record) (S : Sys) : Type 0 where
  pub board : Renders r.board S
  pub order : S.order ≡ r.ranks.items
  pub stack : Stack S r.decisions.items (held_of r.board)
  pub marks : (j : ℕ) → j < vec_len r.decisions → (slice_index_or r.decisions.items j first).mark ≤ settled_len r.board
  pub settled : is_contradiction r.standing ≡ false → settled_len r.board ≡ trail_len r.board
  pub stands : StandsAs S (decided_in S r.decisions.items) (values_of r.board) r.standing

-- the state of the search that a record stands for
abbrev pub state_of : Record → State
state_of r = record { standing = all_meant r.ranks.items r.decisions.items; told = is_told r.standing }
