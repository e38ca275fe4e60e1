use Rattle.std.proofs.Common.{◌≡◌, ℕ, ◌<◌, ◌≤◌, true, false, length, get_or, sym, rules}
use Rattle.std.proofs.lemmas.List.Sums.{position_or_len_is}
use Rattle.lines.specs.Lines.{blank}
use Rattle.words.proofs.cuts.word_len.Goals as goal

pub returns-clause-value : goal.returns-clause-value
returns-clause-value c =
    let t = c.args.text.now in
    let n = c.unwrap_or.result in
    let within : n ≤ length t = search rules in
    let before : (k : ℕ) → k < n → blank (get_or t k 0) ≡ false = search rules in
    let stops : n < length t → blank (get_or t n 0) ≡ true = search rules in
    sym (position_or_len_is blank t n 0 within before stops)
