-- How the code of an instance is read from a table, and what it says by masks.
-- Some of these lemmas no proof cites yet; they stay, since nothing else says what they say.
use Rattle.std.proofs.Common.{◌≡◌, ℕ, zero, suc, ◌+◌, ◌*◌, ◌<◌, ◌≤◌, Bool, true, false, not, eqb, List, [], ◌∷◌, length, get_or, take, refl, ap, ◌∙◌, arith}
use lib.Bits.{bit_and}
use Rattle.std.proofs.lemmas.List.{take_all}
use Rattle.std.proofs.lemmas.Bool.{eqb-true, eq-eqb, ne_eqb, cond-true, cond-false}
use Rattle.rolls.proofs.Below.{all_below, all_below_each}
use Rattle.codes.specs.declared.table.Table.{Table}
use Rattle.codes.specs.declared.value.Value.{Value}
use Rattle.codes.specs.declared.value.Value.TheVariants.{Off, On, Unknown}
use Rattle.codes.specs.Laws.{known}
use Rattle.codes.specs.Tables.{index, code_at, code_in}
use Rattle.codes.specs.Values.{number_of}
use Rattle.codes.proofs.Bits.{few}
use Rattle.codes.proofs.Tables.{code_placed}
use Rattle.systems.specs.declared.instance.Instance.{Instance}
use Rattle.systems.specs.Systems.{sum_of, on_one, unknown_one, on_among, unknown_among, weight_of, descriptor_of, code_for}
use Rattle.systems.specs.Settling.{said_centre, said_successor, said_neighbours, masked}
use Rattle.systems.specs.Trails.{Held, hold, hold_one}

-- ---- sums over the first of a list
pub sum_more : (g : ℕ → ℕ) (xs : List ℕ) (i : ℕ) → i < length xs → sum_of g (take (suc i) xs) ≡ sum_of g (take i xs) + g (get_or xs i 0)
unfolding sum_of
sum_more g [] i l = absurd (omega arith)
sum_more g (x ∷ xs) zero l = omega arith
sum_more g (x ∷ xs) (suc i) l = omega (arith, sum_more g xs i (omega arith))

pub sum_none : (g : ℕ → ℕ) (xs : List ℕ) → sum_of g (take 0 xs) ≡ 0
unfolding sum_of
sum_none g xs = refl

pub sum_all : (g : ℕ → ℕ) (xs : List ℕ) (n : ℕ) → length xs ≤ n → sum_of g (take n xs) ≡ sum_of g xs
sum_all g xs n l = ap (sum_of g) (take_all n xs l)

-- ---- the place of an instance's code
weight_is : (w : Value) → weight_of w ≡ 27 * on_one w + 3 * unknown_one w
weight_is Off = refl
weight_is On = refl
weight_is Unknown = refl

few_one : (w : Value) → on_one w + unknown_one w ≤ 1
few_one Off = omega arith
few_one On = omega arith
few_one Unknown = omega arith

module _ (v : ℕ → Value) where
  weights : (xs : List ℕ) → sum_of (λ x. weight_of (v x)) xs ≡ 27 * on_among v xs + 3 * unknown_among v xs
  unfolding sum_of
  weights [] = refl
  weights (x ∷ xs) = omega (arith, weight_is (v x), weights xs)

  pub few_around : (xs : List ℕ) → on_among v xs + unknown_among v xs ≤ length xs
  unfolding sum_of
  few_around [] = omega arith
  few_around (x ∷ xs) = omega (arith, few_one (v x), few_around xs)

  pub index_for : (i : Instance) → index (descriptor_of v i) ≡ number_of (v i.centre) * 243 + number_of (v i.successor) + sum_of (λ x. weight_of (v x)) i.neighbours
  index_for i = omega (arith, weights i.neighbours)

  -- a table with the right codes has at that place the code of the instance
  pub coded_for : (rule : Bool → ℕ → Bool) (t : Table) → ((k : ℕ) → code_in t k ≡ code_at rule k) → (i : Instance) → length i.neighbours ≤ 8 → code_in t (index (descriptor_of v i)) ≡ code_for rule v i
  unfolding code_for
  coded_for rule t h i l = h (index (descriptor_of v i)) ∙ code_placed rule (descriptor_of v i) (omega (arith, few_around i.neighbours))

  pub code_few : (rule : Bool → ℕ → Bool) (i : Instance) → code_for rule v i < 128
  unfolding code_for
  code_few rule i = few rule (descriptor_of v i)

-- ---- what a code says by masks, computed for every code
number_inj : (a b : Value) → number_of a ≡ number_of b → a ≡ b
number_inj Off Off e = refl
number_inj On On e = refl
number_inj Unknown Unknown e = refl
number_inj Off On e = absurd (omega arith)
number_inj Off Unknown e = absurd (omega arith)
number_inj On Off e = absurd (omega arith)
number_inj On Unknown e = absurd (omega arith)
number_inj Unknown Off e = absurd (omega arith)
number_inj Unknown On e = absurd (omega arith)

same_value : (f g : ℕ → Value) → all_below 128 (λ n. eqb (number_of (f n)) (number_of (g n))) ≡ true → (n : ℕ) → n < 128 → f n ≡ g n
same_value f g e n l =
    number_inj (f n) (g n) (eqb-true (number_of (f n)) (number_of (g n)) (all_below_each 128 (λ k. eqb (number_of (f k)) (number_of (g k))) e n l))

pub said_centre_masked : (n : ℕ) → n < 128 → said_centre n ≡ masked n 6 4
unfolding all_below
said_centre_masked = same_value said_centre (λ n. masked n 6 4) refl

pub said_successor_masked : (n : ℕ) → n < 128 → said_successor n ≡ masked n 24 16
unfolding all_below
said_successor_masked = same_value said_successor (λ n. masked n 24 16) refl

pub said_neighbours_masked : (n : ℕ) → n < 128 → said_neighbours n ≡ masked n 96 64
unfolding all_below
said_neighbours_masked = same_value said_neighbours (λ n. masked n 96 64) refl

-- where no bit of the mask stands nothing is said, else off or on
pub masked_none : (n mask on : ℕ) → bit_and n mask ≡ 0 → masked n mask on ≡ Unknown
masked_none n mask on e = cond-true (eqb (bit_and n mask) 0) Unknown (known (not (eqb (bit_and n on) 0))) (eq-eqb (bit_and n mask) 0 e)

pub masked_some : (n mask on : ℕ) → (bit_and n mask ≡ 0 → ⊥) → masked n mask on ≡ known (not (eqb (bit_and n on) 0))
masked_some n mask on e = cond-false (eqb (bit_and n mask) 0) Unknown (known (not (eqb (bit_and n on) 0))) (ne_eqb (bit_and n mask) 0 e)

-- to set what is known of a class
pub hold_known : (b : Bool) (x : ℕ) (h : Held) → hold_one (known b) x h ≡ hold x b h
hold_known false x h = refl
hold_known true x h = refl
