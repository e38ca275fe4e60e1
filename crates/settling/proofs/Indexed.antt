-- The place of an instance's code, as far as its neighbours were counted.
use Rattle.std.proofs.Common.{◌≡◌, ℕ, ◌+◌, ◌*◌, ◌<◌, ◌≤◌, List, length, get_or, take, sym, ap, ◌∙◌, add-one, arith}
use Rattle.codes.specs.declared.value.Value.{Value}
use Rattle.codes.specs.declared.value.Value.TheVariants.{Off, On, Unknown}
use Rattle.codes.specs.Tables.{index}
use Rattle.codes.specs.Values.{number_of}
use Rattle.systems.specs.declared.instance.Instance.{Instance}
use Rattle.systems.specs.Systems.{at, sum_of, weight_of, descriptor_of}
use Rattle.systems.proofs.Reading.{sum_more, sum_none, sum_all, index_for}

pub number_few : (v : Value) → number_of v ≤ 2
number_few Off = omega arith
number_few On = omega arith
number_few Unknown = omega arith

-- centre and successor, and the weights of these neighbours
unfoldable pub counted : List Value → Instance → List ℕ → ℕ
counted σ i xs = number_of (at σ i.centre) * 243 + number_of (at σ i.successor) + sum_of (λ x. weight_of (at σ x)) xs

pub counted_none : (σ : List Value) (i : Instance) → counted σ i (take 0 i.neighbours) ≡ number_of (at σ i.centre) * 243 + number_of (at σ i.successor)
unfolding counted
counted_none σ i = omega (arith, sum_none (λ x. weight_of (at σ x)) i.neighbours)

pub counted_more : (σ : List Value) (i : Instance) (k : ℕ) → k < length i.neighbours → counted σ i (take (k + 1) i.neighbours) ≡ counted σ i (take k i.neighbours) + weight_of (at σ (get_or i.neighbours k 0))
unfolding counted
counted_more σ i k l = rw add-one (omega (arith, sum_more (λ x. weight_of (at σ x)) i.neighbours k l))

pub counted_all : (σ : List Value) (i : Instance) (n : ℕ) → length i.neighbours ≤ n → counted σ i (take n i.neighbours) ≡ index (descriptor_of (at σ) i)
unfolding counted
counted_all σ i n l = ap (λ (k : ℕ). number_of (at σ i.centre) * 243 + number_of (at σ i.successor) + k) (sum_all (λ x. weight_of (at σ x)) i.neighbours n l) ∙ sym (index_for (at σ) i)
