-- Worked examples of checking.
use Rattle.std.specs.Prelude.{◌≡◌, ℕ, List, [], ◌∷◌, ◌++◌, pos, Ok, Err, codes}
use Rattle.std.proofs.Common.{lit≤}
use Rattle.frames.specs.declared.frame.Frame.{Frame}
use Rattle.rolls.specs.Examples.{plainly, framed, down_right, life, O, b}
use Rattle.checking.specs.Checked.{checked}
use Rattle.checking.specs.declared.fault.CheckFault.TheVariants.{Instance}

-- the boxes 3 3 1 0 0 and 3 3 2 0 0
abbrev pub once : Frame
once = framed 3 3 1 (pos 0) (pos 0) (lit≤ tt) (lit≤ tt) (lit≤ tt) (lit≤ tt) (lit≤ tt) (lit≤ tt) (lit≤ tt) (record { le = tt }) (record { le = tt }) (record { le = tt }) (record { le = tt })

abbrev pub twice : Frame
twice = framed 3 3 2 (pos 0) (pos 0) (lit≤ tt) (lit≤ tt) (lit≤ tt) (lit≤ tt) (lit≤ tt) (lit≤ tt) (lit≤ tt) (record { le = tt }) (record { le = tt }) (record { le = tt }) (record { le = tt })

-- the texts of the blinker and of the glider
abbrev pub blinker_text : List ℕ
blinker_text = codes "x = 3, y = 3" ++ (10 ∷ codes "bo$bo$bo!")

abbrev pub glider_text : List ℕ
glider_text = codes "x = 3, y = 3" ++ (10 ∷ codes "bo$2bo$3o!")

pub record ChecksWorked : Type 0 where
  -- the blinker comes back after two generations, and not after one
  pub comes_back : checked (plainly twice) life blinker_text ≡ Ok (b ∷ O ∷ b ∷ b ∷ O ∷ b ∷ b ∷ O ∷ b ∷ [])
  pub blinks : checked (plainly once) life blinker_text ≡ Err (Instance (record { t = 0; y = pos 0; x = pos 1 }))
  -- the glider flies one column and one row in four generations
  pub flies : checked (plainly down_right) life glider_text ≡ Ok (b ∷ O ∷ b ∷ b ∷ b ∷ b ∷ O ∷ b ∷ O ∷ O ∷ O ∷ b ∷ b ∷ b ∷ b ∷ b ∷ [])
