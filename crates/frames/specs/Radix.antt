-- Numbers of three digits: from the digits to the number and back.
use Rattle.std.specs.Prelude.{◌≡◌, ℕ, ◌+◌, ◌*◌, ◌/◌, ◌%◌, ◌<◌}
use Rattle.std.proofs.Common.{ap, subst, sym, ◌∙◌, mul_comm, mul_assoc}
use Rattle.std.proofs.lemmas.Nat.{div-mul-add, mod-mul-add, div-add-mod', div_below, mul-add-lt}

-- the number with the digits x, y and z, the last two to the bases b and c
abbrev pub joined : ℕ → ℕ → ℕ → ℕ → ℕ → ℕ
joined b c x y z = (x * b + y) * c + z

pub joined_digits : (b c i : ℕ) → joined b c (i / c / b) (i / c % b) (i % c) ≡ i
joined_digits b c i = ap (λ n. n * c + i % c) (div-add-mod' (i / c) b) ∙ div-add-mod' i c

pub joined_below : (a b c x y z : ℕ) → x < a → y < b → z < c → joined b c x y z < a * b * c
joined_below a b c x y z hx hy hz =
    let low : x * b + y < b * a = mul-add-lt x b y a hx hy in
    let all : joined b c x y z < c * (b * a) = mul-add-lt (x * b + y) c z (b * a) low hz in
    subst (λ n. joined b c x y z < n) (mul_comm c (b * a) ∙ ap (λ n. n * c) (mul_comm b a)) all

pub high_below : (a b c i : ℕ) → 0 < b → 0 < c → i < a * b * c → i / c / b < a
high_below a b c i pb pc h = div_below (i / c) b a pb (div_below i c (a * b) pc h)

pub last_of : (b c x y z : ℕ) → z < c → joined b c x y z % c ≡ z
last_of b c x y z hz = mod-mul-add (x * b + y) c z hz

pub middle_of : (b c x y z : ℕ) → y < b → z < c → joined b c x y z / c % b ≡ y
middle_of b c x y z hy hz = ap (λ n. n % b) (div-mul-add (x * b + y) c z hz) ∙ mod-mul-add x b y hy

pub first_of : (b c x y z : ℕ) → y < b → z < c → joined b c x y z / c / b ≡ x
first_of b c x y z hy hz = ap (λ n. n / b) (div-mul-add (x * b + y) c z hz) ∙ div-mul-add x b y hy

-- the product with its factors in other orders
pub last_first : (a b c : ℕ) → c * b * a ≡ a * b * c
last_first a b c = mul_comm (c * b) a ∙ ap (λ n. a * n) (mul_comm c b) ∙ sym (mul_assoc a b c)

pub first_swapped : (a b c : ℕ) → b * a * c ≡ a * b * c
first_swapped a b c = ap (λ n. n * c) (mul_comm b a)
