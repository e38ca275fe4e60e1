-- Room for answers.
use Rattle.std.specs.Prelude.{ℕ, ◌≤◌, vec_capacity}
use Rattle.accounting.specs.declared.room.Room.{Room}

-- a room holds the answers to so many calls, and the verdicts on so many texts
pub record Holds (room : Room) (calls texts : ℕ) : Type 0 where
  pub answers : calls ≤ vec_capacity room.answers
  pub verdicts : texts ≤ vec_capacity room.verdicts
