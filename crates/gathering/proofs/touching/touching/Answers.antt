use Rattle.std.proofs.Common.{◌≡◌, ℕ, ◌+◌, true, false, [], ◌∷◌, ◌++◌, Vec, vec_items, get_or, rules, subst, sym}
use Rattle.std.specs.declared.alloc.Global.{Global}
use Rattle.gathering.specs.Bounds.{nowhere}
use Rattle.gathering.specs.Rendering.{names}
use Rattle.gathering.proofs.Noting.{Begun, noted_more, noted_not}
use Rattle.gathering.proofs.touching.touching.Goals as goal
use Rattle.gathering.proofs.touching.touching.Goals.{then-touches+in_ok-push, else-touches}

pub loop-number-preserved : goal.loop-number-preserved
loop-number-preserved c =
    let is = c.args.instances.now in
    let class = c.args.class in
    let n = c.loop-number.number in
    let xs = vec_items c.loop-number.numbers in
    let Q : Vec ℕ Global → Type 0 = λ v. Begun is class (n + 1) (vec_items v) in
    elim c.if-touches.branch [
      | then-touches+in_ok-push w ↦
          let pushed : vec_items w.push.new.self ≡ xs ++ n ∷ [] = search rules in
          let named : names class (get_or is n nowhere) ≡ true = search rules in
          subst Q (sym w.numbers-is) (noted_more is class n xs c.loop-number.invariant _ pushed named)
      | else-touches w ↦
          let named : names class (get_or is n nowhere) ≡ false = search rules in
          subst Q (sym w.numbers-is) (noted_not is class n xs c.loop-number.invariant named)
    ]
