-- How long the printed lines are.
use Rattle.std.proofs.Common.{◌≡◌, ℕ, ◌+◌, length, decimal, arith, length-append}
use Rattle.printing.specs.Printed.{found_line, refused_text}

pub found_length : (n : ℕ) → length (found_line n) ≡ length (decimal n) + 7
found_length n = simp length-append (omega arith)

pub refused_length : (number line : ℕ) → length (refused_text number line) ≡ length (decimal number) + length (decimal line) + 15
refused_length number line = simp length-append (omega arith)
