-- What the parts of a go come to, in the words of the search's definition.
use Rattle.std.specs.Prelude.{◌≡◌, ℕ, ◌+◌, ◌*◌, ◌<◌, ◌≤◌, Bool, true, false, min, [], Some, None, Option, vec_len, slice_index_or}
use Rattle.codes.specs.Codes.{is_unknown}
use Rattle.systems.specs.Systems.{Sys, at, Below}
use Rattle.systems.specs.Settling.{Least}
use Rattle.systems.specs.Trails.{QuietBut}
use Rattle.histories.specs.Searches.{stepped, Move, Reply, tells_find, done, paused, Go, bit, index}
use Rattle.search.specs.Answers.{steps_of}
use Rattle.settling.specs.Boards.{held_of, settled_len, trail_len, trail_of, unsettled_of, values_of}
use Rattle.search.specs.Decided.{first}
use Rattle.search.specs.Stacks.{FirstRank, LastOff, Stack, all_meant, decided_in, find_in, is_told, ranked}
use Rattle.search.specs.Standings.{Follows, Renders, state_of}
use Rattle.search.specs.declared.answer.Answer.{Answer}
use Rattle.search.specs.declared.answer.Answer.TheVariants.{Found, Done, Paused}
use Rattle.search.specs.declared.standing.Decision.{Decision}
use Rattle.search.specs.declared.standing.Standing.{Standing}
use Rattle.search.specs.declared.standing.Standing.TheVariants.{Contradiction, Find, Told, Choice}
use Rattle.search.specs.declared.record.Record.{Record}

-- a record whose board may be settled: only around the classes that are not settled yet can anything be forced, and all ranks below `from` are known
pub record MaySettle (r : Record) (S : Sys) (from : ℕ) : Type 0 where
  pub board : Renders r.board S
  pub order : S.order ≡ r.ranks.items
  pub whole : S.torn ≡ false
  pub quiet : QuietBut S (at (values_of r.board)) (unsettled_of r.board)
  pub begun : Below (at S.start) (at (values_of r.board))
  pub known_before : (k : ℕ) → k < from → is_unknown (at (values_of r.board) (ranked r.ranks.items k)) ≡ false

-- a record that is settled under its decisions, so that one may be made for the first rank whose class is unknown
pub record MayDecide (r : Record) (S : Sys) (d : Decision) : Type 0 where
  pub board : Renders r.board S
  pub order : S.order ≡ r.ranks.items
  pub stack : Stack S r.decisions.items (held_of r.board)
  pub marks : (j : ℕ) → j < vec_len r.decisions → (slice_index_or r.decisions.items j first).mark ≤ settled_len r.board
  pub settled : settled_len r.board ≡ trail_len r.board
  pub mark : trail_len r.board ≡ d.mark
  pub least : Least S (decided_in S r.decisions.items) (values_of r.board)
  pub first_rank : FirstRank (at (values_of r.board)) S.order d.rank

-- whether a search that stands so has to turn back
abbrev pub turns_back : Standing → Bool
turns_back Contradiction = true
turns_back Find = false
turns_back Told = true
turns_back (Choice rank) = false

-- a search that has a step to take: it does not stand at an untold find, and where it has to turn back some decision is off
pub record HasStep (r : Record) : Type 0 where
  pub no_find : r.standing ≡ Find → ⊥
  pub some_off : turns_back r.standing ≡ true → LastOff r.decisions.items None → ⊥

-- a step: the record follows the system still, and its state is the next
pub record Steps (S : Sys) (old new : Record) : Type 0 where
  pub follows : Follows new S
  pub move : Move S (state_of old) stepped (state_of new)

-- the answer in the words of the search's definition
abbrev pub reply_in : Record → Answer → Reply
reply_in r (Found n) = tells_find (find_in (values_of r.board))
reply_in r (Done n) = done
reply_in r (Paused n) = paused

-- an answer that is due before another step: the call takes none more, however many it has
pub record Due (S : Sys) (old new : Record) (a : Answer) : Type 0 where
  pub follows : Follows new S
  pub go : (n : ℕ) → Go S n (state_of old) (reply_in new a) 0 (state_of new)

-- whether a find was told, and how many were: 2^64 - 1 stands for more
abbrev pub found_after : Bool → Option Answer → Bool
found_after b None = b
found_after b (Some (Found n)) = true
found_after b (Some (Done n)) = b
found_after b (Some (Paused n)) = b

abbrev pub tally_after : ℕ → Option Answer → ℕ
tally_after t None = t
tally_after t (Some (Found n)) = min (t + 1) 18446744073709551615
tally_after t (Some (Done n)) = t
tally_after t (Some (Paused n)) = t

-- a call with so many steps: the record follows the system still, and its answer, steps and state are those of the search's definition
pub record Gone (S : Sys) (n : ℕ) (old new : Record) (a : Answer) : Type 0 where
  pub follows : Follows new S
  pub go : Go S n (state_of old) (reply_in new a) (steps_of a) (state_of new)

-- a record that holds what is known at the start, where nothing is settled and nothing decided
pub record MayOpen (r : Record) (S : Sys) (torn : Bool) : Type 0 where
  pub board : Renders r.board S
  pub order : S.order ≡ r.ranks.items
  pub whole : S.torn ≡ torn
  pub start : values_of r.board ≡ S.start
  pub unset : trail_of r.board ≡ []
  pub unsettled : settled_len r.board ≡ 0
  pub undecided : r.decisions.items ≡ []
  pub standing : r.standing ≡ Contradiction

-- how far a record has come: its decisions' place in the sequence in which a tree of choices, one for each rank, is gone through, and whether the find there is told
abbrev pub place_of : Record → ℕ
place_of r = index (vec_len r.ranks) (all_meant r.ranks.items r.decisions.items)

abbrev pub reached : Record → ℕ
reached r = 2 * place_of r + bit (is_told r.standing)

abbrev pub is_done : Answer → Bool
is_done (Found n) = false
is_done (Done n) = true
is_done (Paused n) = false
