use Rattle.std.proofs.Common.{refl}
use Rattle.std.proofs.lemmas.Nat.{mul-le}
use Rattle.frames.proofs.frame.Frame.places.Goals as goal

pub returns : goal.returns
returns c =
    let f = c.args.self.now in
    record { value = refl; bound = mul-le f.width f.height 32 32 f.narrow f.low }
