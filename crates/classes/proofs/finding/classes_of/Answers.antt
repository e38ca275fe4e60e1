use Rattle.std.proofs.Common.{◌≡◌, ◌*◌, length, replicate, vec_items, vec_len, sym, ap, ◌∙◌, rules}
use Rattle.std.proofs.lemmas.List.{take_at}
use Rattle.frames.specs.Frames.{cells}
use Rattle.classes.specs.Asked.{asked_after, unasked}
use Rattle.classes.proofs.finding.classes_of.Goals as goal

pub returns-clause-musts : goal.returns-clause-musts
returns-clause-musts g c =
    let space = c.args.space.now in
    let size = cells (g.S.Plane.means space).frame in
    let labels = c.labels.inside.labels in
    let lowest = c.labels.inside.lowest in
    let musts = c.in_ok-musts.musts in
    let last = c.note_all.new.musts in
    let entry = c.as_mut_slice.result.now in
    let long : length last ≡ musts.len = search rules in
    let count : length entry ≡ vec_len lowest = search rules in
    let none : entry ≡ replicate (vec_len lowest) unasked = search rules in
    let fresh : entry ≡ replicate (length entry) unasked = none ∙ ap (λ n. replicate n unasked) (sym count) in
    let slice : c.as_slice-2.result.now ≡ vec_items labels = search rules in
    let asked = c.note_all.ensures.value fresh in
    take_at last _ musts.len long ∙ asked ∙ (λ i. asked_after (g.S.Space.tied space) size (slice i) (count i) (g.S.Space.count space * size))
