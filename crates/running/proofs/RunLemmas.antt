-- What a whole run comes to, by what was asked and listed.
use Rattle.std.proofs.Common.{◌≡◌, ℕ, List, [], None, Some, Ok, Err, Option, Result, inr, sym, ◌∙◌, subst, append-nil}
use Rattle.std.specs.Io.KnownBytes.{Appends, Keeps}
use Rattle.std.proofs.KnownBytes.{Appends-trans, Keeps-trans}
use Rattle.calls.specs.declared.fault.CallFault.TheVariants.{Open, Go, Cell, Write, Tally}
use Rattle.choices.specs.Choices.{chosen_cell}
use Rattle.listing.specs.declared.fault.ListFault.{ListFault}
use Rattle.listing.specs.declared.fault.ListFault.TheVariants.{Call, Foot, Closed}
use Rattle.problem.specs.declared.problem.Problem.{Problem}
use Rattle.rolls.specs.Rolls.{Surface}
use Rattle.rules.specs.declared.rule.Rule.{Rule}
use Rattle.search.specs.declared.fault.OpenFault.TheVariants.{NotBlank, TieRows, Memory}
use Rattle.running.specs.Pages.{PageWritten}
use Rattle.running.specs.Runs.{IsAllOf, Ran, ToldSpace}
use Rattle.running.specs.declared.fault.RunFault.{RunFault}
use Rattle.running.specs.declared.fault.RunFault.TheVariants as run
use Rattle.running.proofs.AskingLemmas.{AskedOf}

-- what is kept is grown by nothing
grown_by_none : (a b : Option (List ℕ)) → Keeps a b → Appends a b []
grown_by_none None b h = tt
grown_by_none (Some x) None h = absurd h
grown_by_none (Some x) (Some y) h = h ∙ sym (append-nil x)

kept_then : (a b c : Option (List ℕ)) (bytes : List ℕ) → Keeps a b → Appends b c bytes → Appends a c bytes
kept_then a b c bytes h k = Appends-trans a b c [] bytes (grown_by_none a b h) k

-- a page that is written after nothing was
page_kept : (s : Surface) (rule : Rule) (cell : ℕ → ℕ) (a b c : Option (List ℕ)) (result : Result (Unit {0}) ListFault) → Keeps a b → PageWritten s rule cell b result c → PageWritten s rule cell a result c
page_kept s rule cell a b c (Ok u) h (rows, (bytes, grown, is)) = (rows, (bytes, kept_then a b c bytes h grown, is))
page_kept s rule cell a b c (Err Closed) h (rows, (bytes, grown, is)) = (rows, (bytes, kept_then a b c bytes h grown, is))
page_kept s rule cell a b c (Err (Call (Open TieRows))) h (rows, kept) = (rows, Keeps-trans a b c h kept)
page_kept s rule cell a b c (Err (Call (Open Memory))) h (rows, kept) = (rows, Keeps-trans a b c h kept)
page_kept s rule cell a b c (Err (Call (Open NotBlank))) h w = absurd w
page_kept s rule cell a b c (Err (Call (Go fault))) h w = absurd w
page_kept s rule cell a b c (Err (Call (Cell fault))) h w = absurd w
page_kept s rule cell a b c (Err (Call (Write fault))) h w = absurd w
page_kept s rule cell a b c (Err (Call (Tally fault))) h w = absurd w
page_kept s rule cell a b c (Err (Foot fault)) h w = absurd w

-- what ran over all that a reader had
abbrev pub RanOf : (ToldSpace → Surface) → Option (List ℕ) → Option (List ℕ) → Result (Unit {0}) RunFault → Option (List ℕ) → Type 0
RanOf made known old result new = (text : List ℕ) × IsAllOf known text × Ran made text old result new

module _ (made : ToldSpace → Surface) (known old mid new : Option (List ℕ)) (p : Problem) (s : Surface) (same : s ≡ made p.space) where
  over : (result : Result (Unit {0}) ListFault) → Keeps old mid → PageWritten s p.rule (chosen_cell p.order s.frame) mid result new → PageWritten (made p.space) p.rule (chosen_cell p.order (made p.space).frame) old result new
  over result kept w = subst (λ (s : Surface). PageWritten s p.rule (chosen_cell p.order s.frame) old result new) same (page_kept s p.rule (chosen_cell p.order s.frame) old mid new result kept w)

  pub listed : (asked : Option Problem) → AskedOf known old (Ok asked) mid → asked ≡ Some p → PageWritten s p.rule (chosen_cell p.order s.frame) mid (Ok tt) new → RanOf made known old (Ok tt) new
  listed asked a is w = by (subst (λ (asked : Option Problem). AskedOf known old (Ok asked) mid) is a)
    where
      by : AskedOf known old (Ok (Some p)) mid → RanOf made known old (Ok tt) new
      by (text, all, (told, kept)) = (text, all, inr (p, told, over (Ok tt) kept w))

  pub unlisted : (asked : Option Problem) → AskedOf known old (Ok asked) mid → asked ≡ Some p → (fault : ListFault) → PageWritten s p.rule (chosen_cell p.order s.frame) mid (Err fault) new → RanOf made known old (Err (run.List fault)) new
  unlisted asked a is fault w = by (subst (λ (asked : Option Problem). AskedOf known old (Ok asked) mid) is a)
    where
      by : AskedOf known old (Ok (Some p)) mid → RanOf made known old (Err (run.List fault)) new
      by (text, all, (told, kept)) = (text, all, (p, told, over (Err fault) kept w))
