-- How long a heading and a run are.
use Rattle.std.proofs.Common.{◌≡◌, ℕ, ◌+◌, List, length, decimal, arith, length-append}
use Rattle.std.proofs.lemmas.List.{length_push}
use Rattle.rle.specs.declared.mark.Run.{Run}
use Rattle.rle.specs.Runs.{letter_of}
use Rattle.rle.specs.Texts.{count_text, heading_text, run_text}

pub heading_length : (w h : ℕ) (name : List ℕ) → length (heading_text w h name) ≡ length (decimal w) + length (decimal h) + length name + 20
heading_length w h name = simp length-append (omega arith)

pub run_length : (r : Run) → length (run_text r) ≡ length (count_text r.count) + 1
run_length r = length_push (count_text r.count) (letter_of r.mark)
