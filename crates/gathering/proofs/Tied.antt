-- What is asked of the classes that are found, in the words of their surface.
use Rattle.std.proofs.Common.{◌≡◌, ℕ, ◌*◌, List, length, ap, ◌∙◌}
use Rattle.frames.specs.Frames.{cells}
use Rattle.rolls.specs.Rolls.{Surface}
use Rattle.classes.specs.declared.classes.Musts.{Musts}
use Rattle.classes.specs.Asked.{asked_after}
use Rattle.classes.specs.Classed.{numbers_in}
use Rattle.classes.specs.Needed.{musts_in}
use Rattle.classes.specs.Numbers.{Numbers}

pub musts_found : (s : Surface) (n : Numbers) (count : ℕ) (musts : List Musts) → n ≡ numbers_in s → count ≡ length n.lowest →
    musts ≡ asked_after s.tie (cells s.frame) n.classes count (s.rows * cells s.frame) → musts ≡ musts_in s
musts_found s n count musts e l m =
    m
    ∙ ap (λ (k : ℕ). asked_after s.tie (cells s.frame) n.classes k (s.rows * cells s.frame)) l
    ∙ ap (λ (k : Numbers). asked_after s.tie (cells s.frame) k.classes (length k.lowest) (s.rows * cells s.frame)) e
