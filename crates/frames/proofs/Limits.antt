-- The tests of a frame's limits decide the limits in words.
use Rattle.std.proofs.Common.{◌≡◌, ℕ, ◌*◌, ◌≤◌, Bool, cond, ◌&&◌, ℤ, pos, negsuc, nat_le, Decides, ◌∙◌, arith}
use Rattle.std.proofs.lemmas.Bool.{cond-true, cond-false, false_from_ne_true, le-leb, leb-true}
use Rattle.std.proofs.lemmas.Bool.Decides.{Decides-and}
use Rattle.std.proofs.lemmas.Int.{ints}
use Rattle.frames.specs.Frames.{between, slow}
use Rattle.frames.specs.Limits.{Between, FramesStand, Lasting, Sized, Slow, Slowly, Small}

at_most : (a b : ℕ) → Decides (nat_le a b) (a ≤ b)
at_most a b = (leb-true a b, le-leb a b)

between_right : (low high n : ℕ) → Decides (between low high n) (Between low high n)
between_right low high n = Decides-and (nat_le low n) (nat_le n high) (at_most low n) (at_most n high)

slow_right : (d : ℤ) → Decides (slow d) (Slow d)
slow_right (pos n) = (λ e. let l : n ≤ 8 = leb-true n 8 e in (omega (arith, ints), omega (arith, ints)), λ s. le-leb n 8 (omega (arith, ints)))
slow_right (negsuc n) = (λ e. let l : n ≤ 7 = leb-true n 7 e in (omega (arith, ints), omega (arith, ints)), λ s. le-leb n 7 (omega (arith, ints)))

-- a limit that is kept goes on, and one that is broken is what is answered
module _ {A : Type 0} {P : Type 0} (b : Bool) (x y : A) (d : Decides b P) where
  kept : P → cond b x y ≡ x
  kept p = cond-true b x y (d.1 p)

  broken : (P → ⊥) → cond b x y ≡ y
  broken h = cond-false b x y (false_from_ne_true b (λ e. h (d.0 e)))

pub frames_right : FramesStand
frames_right w h p dx dy =
    let sized : Decides (between 1 32 w && between 1 32 h) (Sized w h) = Decides-and _ _ (between_right 1 32 w) (between_right 1 32 h) in
    let lasting : Decides (between 1 16 p) (Lasting p) = between_right 1 16 p in
    let small : Decides (nat_le (w * h * p) 4096) (Small w h p) = at_most (w * h * p) 4096 in
    let slowly : Decides (slow dx && slow dy) (Slowly dx dy) = Decides-and _ _ (slow_right dx) (slow_right dy) in
    record {
      made = λ a b c d. kept _ _ _ sized a ∙ kept _ _ _ lasting b ∙ kept _ _ _ small c ∙ kept _ _ _ slowly d;
      size = λ a. broken _ _ _ sized a;
      period = λ a b. kept _ _ _ sized a ∙ broken _ _ _ lasting b;
      cells = λ a b c. kept _ _ _ sized a ∙ kept _ _ _ lasting b ∙ broken _ _ _ small c;
      drift = λ a b c d. kept _ _ _ sized a ∙ kept _ _ _ lasting b ∙ kept _ _ _ small c ∙ broken _ _ _ slowly d;
    }
