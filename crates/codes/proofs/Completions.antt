-- The completions of a descriptor and its fitting pairs.
use Rattle.std.proofs.Common.{◌≡◌, ℕ, zero, suc, ◌+◌, ◌-◌, ◌<◌, ◌≤◌, Bool, true, false, cond, ltb, List, [], ◌∷◌, length, sym, refl, ap, ◌∙◌, subst, inl, inr, arith}
use Rattle.std.proofs.lemmas.Bool.{cases_Bool, eqb-true, eq-eqb, ltb-true, lt-ltb}
use Rattle.codes.specs.declared.value.Value.TheVariants.{Unknown}
use Rattle.codes.specs.Values.{agrees}
use Rattle.codes.specs.Codes.{Parts, Pair, fitting, is_empty, is_unknown, says_centre, says_successor, says_neighbours, edge, code}
use Rattle.codes.specs.Laws.{Completion, ons, AllAre, successor_in, Agreeing, Tells, CodeLaw, TableTells, centre_bit, successor_bit, neighbour_bit}
use Rattle.codes.specs.declared.table.Table.{Table}
use Rattle.codes.specs.Tables.{index, code_at, code_in}
use Rattle.codes.proofs.Tables.{code_placed}
use Rattle.codes.proofs.Pairs.{unlike, is_state, state_is, unknown_value, value_unknown, Fit, every_fit, fit_every, empty_fit, fit_empty}
use Rattle.codes.proofs.Bits.{Bit, contradicted, contradiction, lowest, few, centre_tells, successor_tells, neighbours_tell}

few_ons : (bs : List Bool) → ons bs ≤ length bs
few_ons [] = omega arith
few_ons (false ∷ bs) = omega (arith, few_ons bs)
few_ons (true ∷ bs) = omega (arith, few_ons bs)

-- all off or all on, by how many are on
edge_all : (b : Bool) (bs : List Bool) → ons bs ≡ cond b (length bs) 0 → AllAre b bs
edge_all b [] e = tt
edge_all false (false ∷ bs) e = (refl, edge_all false bs (omega arith))
edge_all false (true ∷ bs) e = absurd (omega arith)
edge_all true (false ∷ bs) e = absurd (omega (arith, few_ons bs))
edge_all true (true ∷ bs) e = (refl, edge_all true bs (omega arith))

all_edge : (b : Bool) (bs : List Bool) → AllAre b bs → ons bs ≡ cond b (length bs) 0
all_edge false [] a = refl
all_edge true [] a = refl
all_edge false (false ∷ bs) a = omega (arith, all_edge false bs a.1)
all_edge false (true ∷ bs) a = unlike (sym a.0)
all_edge true (false ∷ bs) a = unlike a.0
all_edge true (true ∷ bs) a = omega (arith, all_edge true bs a.1)

-- a list of u states, the first k of them on
unfoldable some_on : ℕ → ℕ → List Bool
some_on k zero = []
some_on zero (suc u) = false ∷ some_on zero u
some_on (suc k) (suc u) = true ∷ some_on k u

some_on_length : (k u : ℕ) → length (some_on k u) ≡ u
unfolding some_on
some_on_length k zero = refl
some_on_length zero (suc u) = omega (arith, some_on_length zero u)
some_on_length (suc k) (suc u) = omega (arith, some_on_length k u)

some_on_ons : (k u : ℕ) → k ≤ u → ons (some_on k u) ≡ k
unfolding some_on
some_on_ons zero zero l = refl
some_on_ons (suc k) zero l = absurd (omega arith)
some_on_ons zero (suc u) l = omega (arith, some_on_ons zero u (omega arith))
some_on_ons (suc k) (suc u) l = omega (arith, some_on_ons k u (omega arith))

-- the pair of a completion, and a completion of a pair
abbrev pair_of : Parts → Completion → Pair
pair_of d x = record { centre = x.centre; sum = d.on + ons x.neighbours }

abbrev completion_of : Parts → Pair → Completion
completion_of d p = record { centre = p.centre; neighbours = some_on (p.sum - d.on) d.unknown }

module _ (rule : Bool → ℕ → Bool) (d : Parts) where
  agreeing_fit : (x : Completion) → Agreeing rule d x → Fit rule d (pair_of d x)
  agreeing_fit x a =
      record { centre = a.centre; successor = a.successor; low = omega arith; high = omega (arith, few_ons x.neighbours, a.neighbours) }

  sum_back : (p : Pair) → Fit rule d p → d.on + ons (some_on (p.sum - d.on) d.unknown) ≡ p.sum
  sum_back p f = omega (arith, some_on_ons (p.sum - d.on) d.unknown (omega (arith, f.high)), f.low)

  fit_agreeing : (p : Pair) → Fit rule d p → Agreeing rule d (completion_of d p)
  fit_agreeing p f =
      record {
        neighbours = some_on_length (p.sum - d.on) d.unknown;
        centre = f.centre;
        successor = subst (λ (s : ℕ). agrees d.successor (rule p.centre s) ≡ true) (sym (sum_back p f)) f.successor;
      }

  -- what a bit says of the pairs it says of the completions
  module _ (bit : ℕ) (o : Bool) (t : Pair → Bool) (NotKnown : Type 0) (Has : Completion → Type 0)
      (open-to : o ≡ true → NotKnown) (to-open : NotKnown → o ≡ true)
      (tells : (x : Completion) → Agreeing rule d x → t (pair_of d x) ≡ true → Has x)
      (told : (x : Completion) → Agreeing rule d x → Has x → t (pair_of d x) ≡ true) where
    at_pair : ((x : Completion) → Agreeing rule d x → Has x) → (p : Pair) → Fit rule d p → t p ≡ true
    at_pair h p f =
        let x = completion_of d p in
        let a = fit_agreeing p f in
        subst (λ (s : ℕ). t (record { centre = p.centre; sum = s }) ≡ true) (sum_back p f) (told x a (h x a))

    tells_of : Bit rule d bit o t → Tells rule d (code rule d) bit NotKnown Has
    tells_of w =
        record {
          part = λ h. open-to (w.opened h);
          sound = λ h x a. tells x a (every_fit t rule d (w.says h) (pair_of d x) (agreeing_fit x a));
          full = λ c n h. elim (cases_Bool (is_empty (fitting rule d))) [
            | inl e ↦ absurd (c (contradicted rule d e))
            | inr e ↦ w.stands e (to-open n) (fit_every t rule d (at_pair h))
          ];
        }

  edge_is : (b : Bool) → edge d b ≡ d.on + cond b d.unknown 0
  edge_is false = omega arith
  edge_is true = refl

  pub code_law : CodeLaw rule d (code rule d)
  code_law =
      record {
        impossible = λ h x a. empty_fit rule d (contradiction rule d h) (pair_of d x) (agreeing_fit x a);
        possible = λ h. contradicted rule d (fit_empty rule d (λ p f. h (completion_of d p) (fit_agreeing p f)));
        centre = λ b. tells_of (centre_bit b) (is_unknown d.centre) (says_centre b) (d.centre ≡ Unknown) (λ x. x.centre ≡ b)
            (unknown_value d.centre) (value_unknown d.centre) (λ x a h. is_state b x.centre h) (λ x a h. state_is b x.centre h) (centre_tells rule d b);
        successor = λ b. tells_of (successor_bit b) (is_unknown d.successor) (says_successor rule b) (d.successor ≡ Unknown) (λ x. successor_in rule d x ≡ b)
            (unknown_value d.successor) (value_unknown d.successor) (λ x a h. is_state b (successor_in rule d x) h) (λ x a h. state_is b (successor_in rule d x) h) (successor_tells rule d b);
        neighbours = λ b. tells_of (neighbour_bit b) (ltb 0 d.unknown) (says_neighbours d b) (0 < d.unknown) (λ x. AllAre b x.neighbours)
            (ltb-true 0 d.unknown) (lt-ltb 0 d.unknown) (all_say b) (say_all b) (neighbours_tell rule d b);
        lowest = lowest rule d;
        few = few rule d;
      }
    where
      at_edge : (b : Bool) (x : Completion) → Agreeing rule d x → cond b d.unknown 0 ≡ cond b (length x.neighbours) 0
      at_edge b x a = ap (λ (n : ℕ). cond b n 0) (sym a.neighbours)

      all_say : (b : Bool) (x : Completion) → Agreeing rule d x → says_neighbours d b (pair_of d x) ≡ true → AllAre b x.neighbours
      all_say b x a h =
          edge_all b x.neighbours (omega (arith, eqb-true (d.on + ons x.neighbours) (edge d b) h, edge_is b, at_edge b x a))

      say_all : (b : Bool) (x : Completion) → Agreeing rule d x → AllAre b x.neighbours → says_neighbours d b (pair_of d x) ≡ true
      say_all b x a h =
          eq-eqb (d.on + ons x.neighbours) (edge d b) (omega (arith, all_edge b x.neighbours h, edge_is b, at_edge b x a))

-- a table with the right codes tells what each descriptor says
pub table_tells : (rule : Bool → ℕ → Bool) (t : Table) → ((i : ℕ) → code_in t i ≡ code_at rule i) → TableTells rule t
table_tells rule t h d l = subst (CodeLaw rule d) (sym (h (index d) ∙ code_placed rule d l)) (code_law rule d)

pub coded : (rule : Bool → ℕ → Bool) (d : Parts) (n : ℕ) → n ≡ code rule d → CodeLaw rule d n
coded rule d n e = subst (CodeLaw rule d) (sym e) (code_law rule d)
