-- What a checker writes for a text that it reads.
use Rattle.std.specs.Prelude.{◌≡◌, ℕ, List, Some, Ok, Err, Option, Result}
use Rattle.std.specs.Io.KnownBytes.{Appends, Keeps}
use Rattle.checking.specs.Checked.{AsksCells, checked}
use Rattle.rolls.specs.Rolls.{Surface}
use Rattle.rules.specs.declared.rule.Rule.{Rule}
use Rattle.verdicts.specs.Verdicts.{verdict_line, verdict_of}
use Rattle.verdicts.specs.declared.verdict.Verdict.{Verdict}
use Rattle.running.specs.Written.{AppendsPart}
use Rattle.running.specs.declared.fault.RunFault.{RunFault}
use Rattle.running.specs.declared.fault.RunFault.TheVariants.{Read, Write, List as Listing, Memory}

-- this is the verdict of the check of a text
abbrev pub IsVerdict : Surface → Rule → List ℕ → Verdict → Type 0
IsVerdict s rule text verdict = verdict_of (checked s rule text) ≡ Some verdict

-- What judging a text comes to: the line that tells the verdict, after the name, and nothing else; where the writer failed a first part of
-- it; nothing where the reader failed, nor where memory was wanting, which comes only where the cells are to be asked.
abbrev pub Judged : Surface → Rule → List ℕ → List ℕ → Option (List ℕ) → Result (Unit {0}) RunFault → Option (List ℕ) → Type 0
Judged s rule name text old (Ok u) new = (verdict : Verdict) × IsVerdict s rule text verdict × Appends old new (verdict_line name verdict)
Judged s rule name text old (Err (Write e)) new = (verdict : Verdict) × IsVerdict s rule text verdict × AppendsPart old new (verdict_line name verdict)
Judged s rule name text old (Err (Read e)) new = Keeps old new
Judged s rule name text old (Err (Memory e)) new = AsksCells (checked s rule text) × Keeps old new
Judged s rule name text old (Err (Listing fault)) new = ⊥
