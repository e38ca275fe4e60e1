-- What a writer holds more than before, and what is held back from it.
use Rattle.std.specs.Prelude.{◌≡◌, ℕ, List, ◌++◌, Ok, Err, Option, Result}
use Rattle.std.specs.Io.KnownBytes.{Appends}
use Rattle.running.specs.declared.fault.RunFault.{RunFault}
use Rattle.running.specs.declared.fault.RunFault.TheVariants.{Read, Write, List as Listing, Memory}

-- known bytes grow by a first part of these
pub record AppendsPart (old new : Option (List ℕ)) (bytes : List ℕ) : Type 0 where
  pub part : List ℕ
  pub rest : List ℕ
  pub whole : part ++ rest ≡ bytes
  pub grown : Appends old new part

-- A text is taken: a first part of what was held back and the text is passed on to the writer, and what follows is held back.
-- So the bytes passed on and those held back are together what was taken.
pub record Took (old : Option (List ℕ)) (held text : List ℕ) (new : Option (List ℕ)) (left : List ℕ) : Type 0 where
  pub part : List ℕ
  pub whole : part ++ left ≡ held ++ text
  pub grown : Appends old new part

-- a line is written, or a first part of it where the writer failed
abbrev pub LineWritten : List ℕ → Option (List ℕ) → Result (Unit {0}) RunFault → Option (List ℕ) → Type 0
LineWritten line old (Ok u) new = Appends old new line
LineWritten line old (Err (Write e)) new = AppendsPart old new line
LineWritten line old (Err (Read e)) new = ⊥
LineWritten line old (Err (Listing fault)) new = ⊥
LineWritten line old (Err (Memory e)) new = ⊥

-- a reader failed, or there was no memory to hold what it gave
abbrev pub IsReading : RunFault → Type 0
IsReading (Read e) = Unit {0}
IsReading (Write e) = ⊥
IsReading (Listing fault) = ⊥
IsReading (Memory e) = ⊥
