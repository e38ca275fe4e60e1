use Rattle.std.proofs.lemmas.Bool.Decides.{Decides-eqb}
use Rattle.std.proofs.lemmas.Slice.Eq.{strip_prefix_is}
use Rattle.words.proofs.Keys.{key_told}
use Rattle.words.proofs.cuts.after_key.Goals as goal

pub returns : goal.returns
returns c = key_told _ _ _ (strip_prefix_is Decides-eqb _ _ _ c.strip_prefix.ensures.cases)
