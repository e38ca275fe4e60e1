-- Numbers of three digits rise as their digits do, the first digit before the others.
use Rattle.std.proofs.Common.{◌≡◌, ℕ, ◌+◌, ◌*◌, ◌/◌, ◌%◌, ◌<◌, inl, inr, ap, subst, mul_comm, arith}
use Rattle.std.proofs.lemmas.Nat.{mod_below, mul-add-lt}
use Rattle.frames.specs.Radix.{joined}
use Rattle.frames.proofs.Cells.{generation_below, number_back}
use Rattle.orders.specs.Sequences.{Sooner, RowsRise, ColumnsRise, GenerationsRise}

-- the higher first digit decides
high_rises : (b x y v w : ℕ) → y < b → x < v → x * b + y < v * b + w
high_rises b x y v w hy hx =
    let below : x * b + y < v * b = subst (λ n. x * b + y < n) (mul_comm b v) (mul-add-lt x b y v hx hy) in
    omega arith

-- with one first digit, the second decides
low_rises : (b x y v w : ℕ) → x ≡ v → y < w → x * b + y < v * b + w
low_rises b x y v w e h = subst (λ n. x * b + y < n * b + w) e (omega arith)

joined_rises : (b c x y z u v w : ℕ) → y < b → z < c → Sooner x y z u v w → joined b c x y z < joined b c u v w
joined_rises b c x y z u v w hy hz (inl h) = high_rises c (x * b + y) z (u * b + v) w hz (high_rises b x y u v hy h)
joined_rises b c x y z u v w hy hz (inr (e, inl h)) = high_rises c (x * b + y) z (u * b + v) w hz (low_rises b x y u v e h)
joined_rises b c x y z u v w hy hz (inr (e, inr (k, h))) = low_rises c (x * b + y) z (u * b + v) w (subst (λ n. x * b + y ≡ n * b + v) e (ap (λ n. x * b + n) k)) h

pub rows_rise : RowsRise
rows_rise f m n lm ln s = joined_rises f.width f.period _ _ _ _ _ _ (mod_below m f.width f.wide) (generation_below f.width f.height f.period m f.wide f.tall lm) s

pub columns_rise : ColumnsRise
columns_rise f m n lm ln s = joined_rises f.height f.period _ _ _ _ _ _ (mod_below (m / f.width) f.height f.tall) (generation_below f.width f.height f.period m f.wide f.tall lm) s

pub generations_rise : GenerationsRise
generations_rise f m n lm ln s =
    let rises : joined f.height f.width (m / f.width / f.height) (m / f.width % f.height) (m % f.width) < joined f.height f.width (n / f.width / f.height) (n / f.width % f.height) (n % f.width) =
    joined_rises f.height f.width _ _ _ _ _ _ (mod_below (m / f.width) f.height f.tall) (mod_below m f.width f.wide) s in
    subst (λ k. k < n) (number_back f.width f.height m) (subst (λ k. joined f.height f.width (m / f.width / f.height) (m / f.width % f.height) (m % f.width) < k) (number_back f.width f.height n) rises)
