use Rattle.std.proofs.Common.{◌≡◌, ℕ, List, [], ◌∷◌, ◌++◌, length, take, sym, ap, subst, ◌∙◌, append_assoc, arith}
use Rattle.std.specs.Prelude.{IsUtf8}
use Rattle.std.specs.Str.{is_utf8}
use Rattle.std.proofs.Math.Seq.{take-append_seam}
use Rattle.std.proofs.lemmas.Str.{is_utf8-from_IsUtf8}
use Rattle.rules.specs.Forms.{parsed, written, digits_below}
use Rattle.rules.proofs.Forms.{forms_stand}
use Rattle.rules.proofs.rule.Rule.text.Goals as goal

-- what is copied to the front of a room stands there
in_front : (copied text rest : List ℕ) (len : ℕ) → copied ≡ text → len ≡ length text → take len (copied ++ rest) ≡ text
in_front copied text rest len is long = ap (λ n. take n (copied ++ rest)) (long ∙ ap length (sym is)) ∙ take-append_seam copied rest ∙ is

pub invariant_of-result : goal.invariant_of-result
invariant_of-result c =
    let front = in_front _ _ _ c.len-len.result (c.copy_from_slice.ensures.after ∙ c.as_bytes.ensures.value ∙ c.as_str.ensures.value) c.len-len.ensures.value in
    record {
      fits = c.len-len.ensures.fits;
      utf8 = ap is_utf8 front ∙ is_utf8-from_IsUtf8 _ (subst IsUtf8 c.as_str.ensures.value c.as_str.utf8);
    }

pub returns : goal.returns
unfolding written
returns c =
    let r = c.args.self.now in
    let text : c.push_digits-2.new.text.bytes ≡ written r.births r.survivals =
    c.push_digits-2.ensures.digits
    ∙ ap (λ l. l ++ digits_below 9 r.survivals) (c.push_str.ensures.bytes ∙ ap (λ l. l ++ 47 ∷ 83 ∷ []) (c.push_digits.ensures.digits ∙ ap (λ l. l ++ digits_below 9 r.births) (c.push.ensures.ascii (omega arith) ∙ ap (λ l. l ++ 66 ∷ []) c.new-text.ensures)))
    ∙ simp append_assoc in
    let front = in_front _ _ _ c.len-len.result (c.copy_from_slice.ensures.after ∙ c.as_bytes.ensures.value ∙ c.as_str.ensures.value) c.len-len.ensures.value in
    let bytes = front ∙ text in
    record {
      bytes = bytes;
      len = c.len-len.ensures.value ∙ ap length text;
      back = ap parsed bytes ∙ forms_stand.0 r.births r.survivals r.few_births r.few_survivals r.quiet;
    }
