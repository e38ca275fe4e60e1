-- Written forms: their digits are read back, and what is read was written so.
use Rattle.std.proofs.Common.{◌≡◌, ℕ, ◌+◌, ◌-◌, ◌%◌, ◌^◌, ◌<◌, ◌≤◌, true, ◌&&◌, eqb, leb, ◌⊎◌, List, [], ◌∷◌, ◌++◌, map, get_or, Ok, Err, Result, sym, refl, ap, ◌∙◌, subst, inl, inr, arith, pow_mono}
use Rattle.std.specs.List.{range_with_len}
use Rattle.std.proofs.lemmas.List.FromFn.{get_or-map-range_with_len}
use Rattle.std.proofs.lemmas.List.{append_assoc, append-nil}
use Rattle.std.proofs.lemmas.Bool.{cond_both, cond-true, cond-false, cases_lt, and_parts, leb-true, eqb-true, eq-eqb, ne_eqb}
use Rattle.rules.specs.Forms.{Sets, Row, rising, ended, divided, parsed, quiet_only, digits_below, written, FormsStand}
use Rattle.rules.specs.declared.fault.RuleFault.{RuleFault}
use Rattle.rules.specs.declared.fault.RuleFault.TheVariants.{Form, BirthZero}
use Rattle.rules.proofs.Sets.{set_few, set_grows}

-- two lists made from functions of the index agree at each place
at_table : {X : Type 0} (f g : ℕ → X) (m : ℕ) → map f (range_with_len 0 m) ≡ map g (range_with_len 0 m) → (n : ℕ) → n < m → f n ≡ g n
at_table f g m e n h = sym (get_or-map-range_with_len f 0 m n n (f 0) h (omega arith)) ∙ ap (λ l. get_or l n (f 0)) e ∙ get_or-map-range_with_len g 0 m n n (f 0) h (omega arith)

-- every set's digits, read before a `/` and at the end
read_slash : (n : ℕ) (t : List ℕ) → n < 512 → rising 0 0 (digits_below 9 n ++ 47 ∷ t) ≡ record { set = n; rest = 47 ∷ t }
unfolding rising digits_below
read_slash n t h = at_table (λ k. rising 0 0 (digits_below 9 k ++ 47 ∷ t)) (λ k. record { set = k; rest = 47 ∷ t }) 512 refl n h

read_end : (n : ℕ) → n < 512 → rising 0 0 (digits_below 9 n) ≡ record { set = n; rest = [] }
unfolding rising digits_below
read_end n h = at_table (λ k. rising 0 0 (digits_below 9 k)) (λ k. record { set = k; rest = [] }) 512 refl n h

-- a digit above all that a set holds is written after them
digit_more : (d n : ℕ) → d < 9 → n < 2 ^ d → digits_below 9 (n + 2 ^ d) ≡ digits_below 9 n ++ (48 + d) ∷ []
unfolding digits_below
digit_more d n hd hn =
    at_table (λ k. digits_below 9 (k + 2 ^ d)) (λ k. digits_below 9 k ++ (48 + d) ∷ []) (2 ^ d)
    (at_table (λ e. map (λ k. digits_below 9 (k + 2 ^ e)) (range_with_len 0 (2 ^ e))) (λ e. map (λ k. digits_below 9 k ++ (48 + e) ∷ []) (range_with_len 0 (2 ^ e))) 9 refl d hd) n hn

pub parsed_written : (b s : ℕ) → b < 512 → s < 512 → parsed (written b s) ≡ quiet_only b s
unfolding parsed written divided ended
parsed_written b s hb hs = simp (read_slash b (83 ∷ digits_below 9 s) hb, read_end s hs)

-- what was read: a digit between its limits
digit_limits : (least b : ℕ) → (leb (48 + least) b && leb b 56) ≡ true → (48 + least ≤ b) × (b ≤ 56)
digit_limits least b e =
    let p = and_parts (leb (48 + least) b) (leb b 56) e in
    (leb-true (48 + least) b p.0, leb-true b 56 p.1)

abbrev Read : ℕ → List ℕ → Row → Type 0
Read set bs r = (r.set < 512) × (digits_below 9 set ++ bs ≡ digits_below 9 r.set ++ r.rest)

rising_read : (bs : List ℕ) (least set : ℕ) → set < 2 ^ least → least ≤ 9 → Read set bs (rising least set bs)
unfolding rising
rising_read [] least set h k = (set_few set least h k, refl)
rising_read (b ∷ bs) least set h k =
    cond_both (leb (48 + least) b && leb b 56) (rising (b - 48 + 1) (set + 2 ^ (b - 48)) bs) (record { set = set; rest = b ∷ bs }) (Read set (b ∷ bs))
    (λ e.
    let lim = digit_limits least b e in
    let low : least ≤ b - 48 = omega arith in
    let high : b - 48 ≤ 8 = omega arith in
    let up : 2 ^ least ≤ 2 ^ (b - 48) = pow_mono low in
    let few : set < 2 ^ (b - 48) = omega arith in
    let again = rising_read bs (b - 48 + 1) (set + 2 ^ (b - 48)) (set_grows set least (b - 48) h low) (omega arith) in
    let same : 48 + (b - 48) ≡ b = omega arith in
    let more : digits_below 9 (set + 2 ^ (b - 48)) ≡ digits_below 9 set ++ b ∷ [] = digit_more (b - 48) set (omega arith) few ∙ ap (λ x. digits_below 9 set ++ x ∷ []) same in
    (again.0, sym (append_assoc (digits_below 9 set) (b ∷ []) bs) ∙ ap (λ l. l ++ bs) (sym more) ∙ again.1))
    (λ e. (set_few set least h k, refl))

row_read : (bs : List ℕ) → ((rising 0 0 bs).set < 512) × (bs ≡ digits_below 9 (rising 0 0 bs).set ++ (rising 0 0 bs).rest)
unfolding digits_below
row_read bs = rising_read bs 0 0 (omega arith) (omega arith)

ended_view : (b s : ℕ) (bs : List ℕ) → (ended b s bs ≡ Err Form) ⊎ (bs ≡ [])
unfolding ended
ended_view b s [] = inr refl
ended_view b s (x ∷ xs) = inl refl

abbrev Divided : List ℕ → Type 0
Divided bs = (s : ℕ) × (s < 512) × (bs ≡ 47 ∷ 83 ∷ digits_below 9 s)

divided_view : (b : ℕ) (bs : List ℕ) → (divided b bs ≡ Err Form) ⊎ Divided bs
unfolding divided
divided_view b [] = inl refl
divided_view b (x ∷ []) = inl refl
divided_view b (x ∷ y ∷ bs) =
    cond_both (eqb x 47 && eqb y 83) (ended b (rising 0 0 bs).set (rising 0 0 bs).rest) (Err Form) (λ r. (r ≡ Err Form) ⊎ Divided (x ∷ y ∷ bs))
    (λ e.
    let p = and_parts (eqb x 47) (eqb y 83) e in
    let px : x ≡ 47 = eqb-true x 47 p.0 in
    let py : y ≡ 83 = eqb-true y 83 p.1 in
    let row = row_read bs in
    elim (ended_view b (rising 0 0 bs).set (rising 0 0 bs).rest) [
      | inl bad ↦ inl bad
      | inr none ↦
          let all : bs ≡ digits_below 9 (rising 0 0 bs).set = row.1 ∙ ap (λ l. digits_below 9 (rising 0 0 bs).set ++ l) none ∙ append-nil (digits_below 9 (rising 0 0 bs).set) in
          inr ((rising 0 0 bs).set, row.0, (cc))
    ])
    (λ e. inl refl)

-- a text is refused for its form, or is the written form of two sets
abbrev Accepted : List ℕ → Type 0
Accepted t = (b : ℕ) × (s : ℕ) × (b < 512) × (s < 512) × (t ≡ written b s)

pub form_view : (t : List ℕ) → (parsed t ≡ Err Form) ⊎ Accepted t
unfolding parsed written
form_view [] = inl refl
form_view (x ∷ bs) =
    cond_both (eqb x 66) (divided (rising 0 0 bs).set (rising 0 0 bs).rest) (Err Form) (λ r. (r ≡ Err Form) ⊎ Accepted (x ∷ bs))
    (λ e.
    let px : x ≡ 66 = eqb-true x 66 e in
    let row = row_read bs in
    elim (divided_view (rising 0 0 bs).set (rising 0 0 bs).rest) [
      | inl bad ↦ inl bad
      | inr d ↦
          let whole : bs ≡ digits_below 9 (rising 0 0 bs).set ++ 47 ∷ 83 ∷ digits_below 9 d.0 = row.1 ∙ ap (λ l. digits_below 9 (rising 0 0 bs).set ++ l) d.2 in
          inr ((rising 0 0 bs).set, d.0, row.0, d.1, (cc))
    ])
    (λ e. inl refl)

-- what a written form is read as, by its births
pub even_read : (b s : ℕ) → b % 2 ≡ 0 → quiet_only b s ≡ Ok (record { births = b; survivals = s })
even_read b s even = cond-false (eqb (b % 2) 1) (Err BirthZero) (Ok (record { births = b; survivals = s })) (ne_eqb (b % 2) 1 (λ odd. omega arith))

pub odd_read : (b s : ℕ) → b % 2 ≡ 1 → quiet_only b s ≡ Err BirthZero
odd_read b s odd = cond-true (eqb (b % 2) 1) (Err BirthZero) (Ok (record { births = b; survivals = s })) (eq-eqb (b % 2) 1 odd)

parity : (b : ℕ) → (b % 2 ≡ 0) ⊎ (b % 2 ≡ 1)
parity b = elim (cases_lt (b % 2) 1) [ inl low ↦ inl (omega arith) | inr high ↦ inr (omega arith) ]

abbrev same_sets : Result Sets RuleFault → Sets
same_sets (Ok x) = x
same_sets (Err e) = record { births = 0; survivals = 0 }

pub accepted : (t : List ℕ) (b s : ℕ) → parsed t ≡ Ok (record { births = b; survivals = s }) → (b < 512) × (s < 512) × (b % 2 ≡ 0) × (t ≡ written b s)
accepted t b s e =
    elim (form_view t) [
      | inl bad ↦ absurd (cc)
      | inr a ↦
          let read : parsed t ≡ quiet_only a.0 a.1 = ap parsed a.4 ∙ parsed_written a.0 a.1 a.2 a.3 in
          elim (parity a.0) [
            | inl even ↦
                let both : ◌≡◌ {A = Result Sets RuleFault} (Ok (record { births = a.0; survivals = a.1 })) (Ok (record { births = b; survivals = s })) = sym (even_read a.0 a.1 even) ∙ sym read ∙ e in
                let eb : a.0 ≡ b = ap (λ r. (same_sets r).births) both in
                let es : a.1 ≡ s = ap (λ r. (same_sets r).survivals) both in
                let small : a.0 < 512 = a.2 in
                let few : a.1 < 512 = a.3 in
                (omega arith, omega arith, subst (λ n. n % 2 ≡ 0) eb even, (cc a.4))
            | inr odd ↦ let bad : quiet_only a.0 a.1 ≡ Err BirthZero = odd_read a.0 a.1 odd in absurd (cc)
          ]
    ]

pub loud : (t : List ℕ) → parsed t ≡ Err BirthZero → (b : ℕ) × (s : ℕ) × (b < 512) × (s < 512) × (b % 2 ≡ 1) × (t ≡ written b s)
loud t e =
    elim (form_view t) [
      | inl bad ↦ absurd (cc)
      | inr a ↦
          let read : parsed t ≡ quiet_only a.0 a.1 = ap parsed a.4 ∙ parsed_written a.0 a.1 a.2 a.3 in
          elim (parity a.0) [
            | inl even ↦ let good = even_read a.0 a.1 even in absurd (cc)
            | inr odd ↦ (a.0, a.1, a.2, a.3, odd, a.4)
          ]
    ]

pub forms_stand : FormsStand
forms_stand = (
  (λ b s hb hs even. parsed_written b s hb hs ∙ even_read b s even),
  (λ b s hb hs odd. parsed_written b s hb hs ∙ odd_read b s odd),
  accepted,
  loud,
)
