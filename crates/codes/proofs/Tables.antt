-- Tables of codes.
use Rattle.std.proofs.Common.{◌≡◌, ℕ, ◌+◌, ◌*◌, ◌/◌, ◌%◌, ◌<◌, ◌≤◌, Bool, true, false, cond, ◌&&◌, ltb, leb, List, get_or, sym, refl, ap, ◌∙◌, arith}
use Rattle.std.proofs.lemmas.Nat.{mod-mul-add}
use Rattle.std.proofs.lemmas.Bool.{and_from, cond-true, ltb-true, lt-ltb, le-leb}
use Rattle.codes.specs.declared.value.Value.{Value}
use Rattle.codes.specs.declared.value.Value.TheVariants.{Off, On, Unknown}
use Rattle.codes.specs.Values.{number_of, value_of}
use Rattle.codes.specs.Codes.{Parts, code}
use Rattle.codes.specs.Tables.{index, parts_at, code_at, code_in}

-- a table with the right code at each of its places holds the right code everywhere
pub table_right : (rule : Bool → ℕ → Bool) (codes : List ℕ) → ((k : ℕ) → k < 729 → get_or codes k 0 ≡ code_at rule k) →
    (i : ℕ) → code_in (record { codes = codes }) i ≡ code_at rule i
table_right rule codes h i = by (ltb i 729) (ltb-true i 729) (h i)
  where
    by : (within : Bool) → (within ≡ true → i < 729) → (i < 729 → get_or codes i 0 ≡ cond (within && leb ((parts_at i).on + (parts_at i).unknown) 8) (code rule (parts_at i)) 0) →
        cond within (get_or codes i 0) 0 ≡ cond (within && leb ((parts_at i).on + (parts_at i).unknown) 8) (code rule (parts_at i)) 0
    by true l e = e (l refl)
    by false l e = refl

value_back : (v : Value) → value_of (number_of v) ≡ v
value_back Off = refl
value_back On = refl
value_back Unknown = refl

number_few : (v : Value) → number_of v < 3
number_few Off = omega arith
number_few On = omega arith
number_few Unknown = omega arith

-- the index of a descriptor leads back to it
module _ (d : Parts) (l : d.on + d.unknown ≤ 8) where
  parts_back : (i : ℕ) → i ≡ index d → parts_at i ≡ d
  parts_back i e =
      let c = number_few d.centre in
      let s = number_few d.successor in
      let first : i / 243 ≡ number_of d.centre = omega arith in
      let last : i % 3 ≡ number_of d.successor = omega arith in
      let front : i / 27 ≡ number_of d.centre * 9 + d.on = omega arith in
      let middle : i / 3 ≡ (number_of d.centre * 9 + d.on) * 9 + d.unknown = omega arith in
      let on : i / 27 % 9 ≡ d.on = ap (λ (n : ℕ). n % 9) front ∙ mod-mul-add (number_of d.centre) 9 d.on (omega arith) in
      let unknown : i / 3 % 9 ≡ d.unknown = ap (λ (n : ℕ). n % 9) middle ∙ mod-mul-add (number_of d.centre * 9 + d.on) 9 d.unknown (omega arith) in
      let centre : value_of (i / 243) ≡ d.centre = ap value_of first ∙ value_back d.centre in
      let successor : value_of (i % 3) ≡ d.successor = ap value_of last ∙ value_back d.successor in
      λ k. record { centre = centre k; on = on k; unknown = unknown k; successor = successor k }

-- the code of the descriptor of a place
pub code_at_place : (rule : Bool → ℕ → Bool) (i : ℕ) (d : Parts) → i < 729 → d ≡ parts_at i → d.on + d.unknown ≤ 8 → code rule d ≡ code_at rule i
code_at_place rule i d l e few =
    let few-there : leb ((parts_at i).on + (parts_at i).unknown) 8 ≡ true = ap (λ (p : Parts). leb (p.on + p.unknown) 8) (sym e) ∙ le-leb (d.on + d.unknown) 8 few in
    ap (code rule) e ∙ sym (cond-true (ltb i 729 && leb ((parts_at i).on + (parts_at i).unknown) 8) (code rule (parts_at i)) 0 (and_from _ _ (lt-ltb i 729 l) few-there))

pub code_placed : (rule : Bool → ℕ → Bool) (d : Parts) → d.on + d.unknown ≤ 8 → code_at rule (index d) ≡ code rule d
code_placed rule d l =
    sym (code_at_place rule (index d) d (omega (arith, number_few d.centre, number_few d.successor)) (sym (parts_back d l (index d) refl)) l)
