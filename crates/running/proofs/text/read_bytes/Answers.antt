use Rattle.std.proofs.Common.{◌≡◌, ◌++◌, IfSome, subst, take}
use Rattle.std.specs.Option.{option_map}
use Rattle.running.proofs.Parts.{read_of}
use Rattle.running.proofs.text.read_bytes.Goals as goal

pub returns : goal.returns
returns g c =
    let new = c.read_to_end.new.buf.items in
    let read = subst (λ inner. IfSome (option_map (take c.take.result.limit) (g.R.Read.remaining inner.now)) (λ xs. new ≡ c.new-text.result.items ++ xs)) c.take.ensures.inner c.in_ok-read_to_end.ensures.bytes in
    read_of (g.R.Read.remaining c.args.input.now) c.take.result.limit c.new-text.result.items new c.take.ensures.limit c.new-text.ensures.items read
