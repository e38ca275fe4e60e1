use Rattle.std.proofs.Common.{rules, sym, subst}
use Rattle.std.specs.Prelude.{IsUtf8}
use Rattle.std.proofs.lemmas.Str.{IsUtf8-from_is_utf8}
use Rattle.rules.proofs.writing.RuleText.as_str.Goals as goal

pub unwrap-requires : goal.unwrap-requires
unwrap-requires c =
    let utf8 = subst IsUtf8 (sym c.as_slice.ensures.bytes) (IsUtf8-from_is_utf8 _ c.args.self.now.utf8) in
    search rules
