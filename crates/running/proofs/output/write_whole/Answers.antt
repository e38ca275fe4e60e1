use Rattle.std.proofs.Common.{ℕ, List, ◌++◌, ◌∙◌, ap, sym, take}
use Rattle.std.proofs.KnownBytes.{Appends-kept, Appends-trans}
use Rattle.running.proofs.Parts.{moves_front}
use Rattle.running.proofs.output.write_whole.Goals as goal
use Rattle.running.proofs.output.write_whole.Goals.{in-Ok, in-Err}

pub loop-preserved : goal.loop-preserved
loop-preserved g c =
    let (done, split, appended) = c.loop.invariant in
    let rest = c.loop.rest.now in
    elim c.match-write.branch [
      | in-Ok w ↦
          let n = w.in-Ok.n in
          (done ++ take n rest, moves_front _ done rest n split ∙ ap (λ (rest : List ℕ). (done ++ take n c.loop.rest.now) ++ rest) (sym (ap (λ r. r.now) w.rest-is)), Appends-trans _ _ _ _ _ appended w.in-Ok.ensures.bytes)
      | in-Err w ↦ (done, split ∙ ap (λ (rest : List ℕ). done ++ rest) (sym (ap (λ r. r.now) w.rest-is)), Appends-kept _ _ _ _ appended w.in-Err.ensures.bytes)
    ]
