-- Cells that are joined by chains of ties are alike in every filling that keeps the ties.
use Rattle.std.proofs.Common.{◌≡◌, ℕ, Bool, List, sym, refl, ◌∙◌, subst}
use Rattle.rules.specs.declared.rule.Rule.{Rule}
use Rattle.rolls.specs.Joined.{Joined, alone, tied, turned, chained}
use Rattle.rolls.specs.Laws.{JoinedAlike}
use Rattle.rolls.specs.Rolls.{Surface, Keeps, TieHolds, at}

chain_alike : (s : Surface) (r : Rule) (f : List Bool) → Keeps s r f → {a b : ℕ} → Joined s a b → at f a ≡ at f b
chain_alike s r f k alone = refl
chain_alike s r f k (tied {a = a} {row = row} h l e) = subst (TieHolds f a) e (k.ties row a h l)
chain_alike s r f k (turned j) = sym (chain_alike s r f k j)
chain_alike s r f k (chained i j) = chain_alike s r f k i ∙ chain_alike s r f k j

pub joined_alike : JoinedAlike
joined_alike s r f k a b j = chain_alike s r f k j
