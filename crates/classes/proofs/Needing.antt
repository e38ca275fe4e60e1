-- Off or on is asked of a class exactly when a row asks it of one of its cells.
use Rattle.std.proofs.Common.{◌≡◌, ℕ, zero, suc, ◌+◌, ◌*◌, ◌/◌, ◌%◌, ◌<◌, ◌≤◌, Bool, true, false, ◌⊎◌, List, length, get_or, set, replicate, sym, refl, ap, ◌∙◌, subst, inl, inr, mul_comm, arith, length-set}
use lib.ListN.{length-replicate}
use Rattle.std.proofs.lemmas.Nat.{mod_below, div_below, div-mul-add, mod-mul-add, mul-add-lt}
use Rattle.std.proofs.lemmas.List.{get_or-set_same, get_or-set_other, get_or-replicate, get_or_past}
use Rattle.std.proofs.lemmas.Bool.{cases_eq, cases_lt, cases_order, both_ways}
use Rattle.frames.specs.Frames.{cells}
use Rattle.planes.specs.declared.tie.Tie.{Tie}
use Rattle.planes.specs.declared.tie.Tie.TheVariants.{Free, Off, On, Same}
use Rattle.rolls.specs.Rolls.{Surface}
use Rattle.classes.specs.declared.classes.Musts.{Musts}
use Rattle.classes.specs.Asked.{asked_after, asked_by, asks, must, unasked}
use Rattle.classes.specs.Classed.{numbers_in, class_of, class_count}
use Rattle.classes.specs.Joins.{TiesInside}
use Rattle.classes.specs.Needed.{musts_in, AskedOf, MustsStand}
use Rattle.classes.proofs.Classing.{classes_right}
use Rattle.classes.proofs.Joining.{some_cells}

-- off is never on
off_on : Off ≡ On → ⊥
off_on e = let z : ◌≡◌ {A = ℕ} 0 1 = cc in omega arith

-- musts with one class changed
module _ (ms : List Musts) (c : ℕ) (m : Musts) (h : c < length ms) where
  here : get_or (set ms c m) c unasked ≡ m
  here = get_or-set_same ms c m unasked h

  elsewhere : (j : ℕ) → (j ≡ c → ⊥) → get_or (set ms c m) j unasked ≡ get_or ms j unasked
  elsewhere j ne = get_or-set_other ms c j m unasked ne

  -- what was asked is asked still, where the change asks no less
  keeps : (b : Bool) → (asks b (get_or ms c unasked) ≡ true → asks b m ≡ true) → (j : ℕ) → asks b (get_or ms j unasked) ≡ true → asks b (get_or (set ms c m) j unasked) ≡ true
  keeps b more j e =
      elim (cases_eq j c) [
        | inl same ↦ subst (λ k. asks b (get_or (set ms c m) k unasked) ≡ true) (sym same) (ap (asks b) here ∙ more (subst (λ k. asks b (get_or ms k unasked) ≡ true) same e))
        | inr ne ↦ ap (asks b) (elsewhere j ne) ∙ e
      ]

  -- what is asked was asked, or is the change
  was : (b : Bool) (j : ℕ) → asks b (get_or (set ms c m) j unasked) ≡ true → (asks b (get_or ms j unasked) ≡ true) ⊎ ((j ≡ c) × (asks b m ≡ true))
  was b j e =
      elim (cases_eq j c) [
        | inl same ↦ inr (same, sym (ap (asks b) here) ∙ subst (λ k. asks b (get_or (set ms c m) k unasked) ≡ true) same e)
        | inr ne ↦ inl (sym (ap (asks b) (elsewhere j ne)) ∙ e)
      ]

-- what one tie of a class does
record Step (ms new : List Musts) (c : ℕ) (t : Tie) : Type 0 where
  long : length new ≡ length ms
  keep : (b : Bool) (j : ℕ) → asks b (get_or ms j unasked) ≡ true → asks b (get_or new j unasked) ≡ true
  hit : (b : Bool) → t ≡ must b → asks b (get_or new c unasked) ≡ true
  back : (b : Bool) (j : ℕ) → asks b (get_or new j unasked) ≡ true → (asks b (get_or ms j unasked) ≡ true) ⊎ ((j ≡ c) × (t ≡ must b))

idle : (ms : List Musts) (c : ℕ) (t : Tie) → ((b : Bool) → t ≡ must b → ⊥) → Step ms ms c t
idle ms c t never = record { long = refl; keep = λ b j e. e; hit = λ b e. absurd (never b e); back = λ b j e. inl e }

no_must : (t : Tie) → (t ≡ Off → ⊥) → (t ≡ On → ⊥) → (b : Bool) → t ≡ must b → ⊥
no_must t off on false e = off e
no_must t off on true e = on e

-- a class whose musts are changed by a tie
changed : (ms : List Musts) (c : ℕ) (m : Musts) (t : Tie) → c < length ms → ((b : Bool) → asks b (get_or ms c unasked) ≡ true → asks b m ≡ true) → ((b : Bool) → asks b m ≡ true → (asks b (get_or ms c unasked) ≡ true) ⊎ (t ≡ must b)) → ((b : Bool) → t ≡ must b → asks b m ≡ true) → Step ms (set ms c m) c t
changed ms c m t h more which hits = record {
  long = length-set ms c m;
  keep = λ b j e. keeps ms c m h b (more b) j e;
  hit = λ b e. ap (asks b) (here ms c m h) ∙ hits b e;
  back = λ b j e. elim (was ms c m h b j e) [
    | inl old ↦ inl old
    | inr new ↦ elim (which b new.1) [ inl old ↦ inl (subst (λ k. asks b (get_or ms k unasked) ≡ true) (sym new.0) old) | inr tie ↦ inr (new.0, tie) ]
  ];
}

step : (ms : List Musts) (c : ℕ) → c < length ms → (t : Tie) → Step ms (asked_by ms c t) c t
step ms c h Free = idle ms c Free (no_must Free (λ e. let z : ◌≡◌ {A = ℕ} 0 1 = cc in omega arith) (λ e. let z : ◌≡◌ {A = ℕ} 0 1 = cc in omega arith))
step ms c h (Same d) = idle ms c (Same d) (no_must (Same d) (λ e. let z : ◌≡◌ {A = ℕ} 0 1 = cc in omega arith) (λ e. let z : ◌≡◌ {A = ℕ} 0 1 = cc in omega arith))
step ms c h Off =
    let m : Musts = record { off = true; on = (get_or ms c unasked).on } in
    let more : (b : Bool) → asks b (get_or ms c unasked) ≡ true → asks b m ≡ true = (λ b. elim b as (λ v. asks v (get_or ms c unasked) ≡ true → asks v m ≡ true) [ true ↦ λ e. e | false ↦ λ e. refl ]) in
    let which : (b : Bool) → asks b m ≡ true → (asks b (get_or ms c unasked) ≡ true) ⊎ (Off ≡ must b) = (λ b. elim b as (λ v. asks v m ≡ true → (asks v (get_or ms c unasked) ≡ true) ⊎ (Off ≡ must v)) [ true ↦ λ e. inl e | false ↦ λ e. inr refl ]) in
    let hits : (b : Bool) → Off ≡ must b → asks b m ≡ true = (λ b. elim b as (λ v. Off ≡ must v → asks v m ≡ true) [ true ↦ λ e. absurd (off_on e) | false ↦ λ e. refl ]) in
    changed ms c m Off h more which hits
step ms c h On =
    let m : Musts = record { off = (get_or ms c unasked).off; on = true } in
    let more : (b : Bool) → asks b (get_or ms c unasked) ≡ true → asks b m ≡ true = (λ b. elim b as (λ v. asks v (get_or ms c unasked) ≡ true → asks v m ≡ true) [ true ↦ λ e. refl | false ↦ λ e. e ]) in
    let which : (b : Bool) → asks b m ≡ true → (asks b (get_or ms c unasked) ≡ true) ⊎ (On ≡ must b) = (λ b. elim b as (λ v. asks v m ≡ true → (asks v (get_or ms c unasked) ≡ true) ⊎ (On ≡ must v)) [ true ↦ λ e. inr refl | false ↦ λ e. inl e ]) in
    let hits : (b : Bool) → On ≡ must b → asks b m ≡ true = (λ b. elim b as (λ v. On ≡ must v → asks v m ≡ true) [ true ↦ λ e. refl | false ↦ λ e. absurd (off_on (sym e)) ]) in
    changed ms c m On h more which hits

-- the musts once the first n ties have been taken
record Asking (s : Surface) (n : ℕ) (ms : List Musts) : Type 0 where
  long : length ms ≡ class_count s
  asked : (b : Bool) (t : ℕ) → t < n → s.tie (t / cells s.frame) (t % cells s.frame) ≡ must b → asks b (get_or ms (class_of s (t % cells s.frame)) unasked) ≡ true
  only : (b : Bool) (j : ℕ) → asks b (get_or ms j unasked) ≡ true → (t : ℕ) × (t < n) × (class_of s (t % cells s.frame) ≡ j) × (s.tie (t / cells s.frame) (t % cells s.frame) ≡ must b)

unasked_not : (b : Bool) → asks b unasked ≡ true → ⊥
unasked_not false e = both_ways false refl e
unasked_not true e = both_ways false refl e

none_asked : (s : Surface) → Asking s 0 (replicate (class_count s) unasked)
none_asked s = record {
  long = length-replicate (class_count s) unasked;
  asked = λ b t h e. absurd (omega arith);
  only = λ b j e. elim (cases_lt j (class_count s)) [
    | inl less ↦ absurd (unasked_not b (sym (ap (asks b) (get_or-replicate (class_count s) j unasked unasked less)) ∙ e))
    | inr more ↦ absurd (unasked_not b (sym (ap (asks b) (get_or_past (replicate (class_count s) unasked) j unasked (omega (arith, length-replicate (class_count s) unasked)))) ∙ e))
  ];
}

one_asked : (s : Surface) (n : ℕ) (ms new : List Musts) → Asking s n ms → Step ms new (class_of s (n % cells s.frame)) (s.tie (n / cells s.frame) (n % cells s.frame)) → Asking s (suc n) new
one_asked s n ms new k st = record {
  long = st.long ∙ k.long;
  asked = λ b t h e. elim (cases_order t n) [
    | inl same ↦ subst (λ m. asks b (get_or new (class_of s (m % cells s.frame)) unasked) ≡ true) (sym same) (st.hit b (subst (λ m. s.tie (m / cells s.frame) (m % cells s.frame) ≡ must b) same e))
    | inr (inl less) ↦ st.keep b (class_of s (t % cells s.frame)) (k.asked b t less e)
    | inr (inr more) ↦ absurd (omega arith)
  ];
  only = λ b j e. elim (st.back b j e) [
    | inl old ↦ (let w = k.only b j old in (w.0, omega (arith, w.1), w.2, w.3))
    | inr new ↦ (n, omega arith, sym new.0, new.1)
  ];
}

module _ (s : Surface) (inside : TiesInside s) where
  all_asked : (n : ℕ) → n ≤ s.rows * cells s.frame → Asking s n (asked_after s.tie (cells s.frame) (numbers_in s).classes (class_count s) n)
  unfolding asked_after
  all_asked zero h = none_asked s
  all_asked (suc n) h =
      let before = all_asked n (omega arith) in
      let cell_in = mod_below n (cells s.frame) (some_cells s) in
      one_asked s n _ _ before (step _ (class_of s (n % cells s.frame)) (omega (arith, before.long, (classes_right s inside).within (n % cells s.frame) cell_in)) (s.tie (n / cells s.frame) (n % cells s.frame)))

  every : Asking s (s.rows * cells s.frame) (musts_in s)
  every = all_asked (s.rows * cells s.frame) (omega arith)

  asked_so : (j : ℕ) (b : Bool) → AskedOf s j b → asks b (get_or (musts_in s) j unasked) ≡ true
  asked_so j b a =
      let size = cells s.frame in
      let t = a.row * size + a.cell in
      let up : t / size ≡ a.row = div-mul-add a.row size a.cell a.in_box in
      let over : t % size ≡ a.cell = mod-mul-add a.row size a.cell a.in_box in
      let less : t < s.rows * size = omega (arith, mul-add-lt a.row size a.cell s.rows a.in_row a.in_box, mul_comm size s.rows) in
      let tie : s.tie (t / size) (t % size) ≡ must b = (λ i. s.tie (up i) (over i)) ∙ a.tie in
      subst (λ k. asks b (get_or (musts_in s) k unasked) ≡ true) (ap (class_of s) over ∙ a.in_class) (every.asked b t less tie)

  only_so : (j : ℕ) (b : Bool) → asks b (get_or (musts_in s) j unasked) ≡ true → AskedOf s j b
  only_so j b e =
      let w = every.only b j e in
      record { row = w.0 / cells s.frame; cell = w.0 % cells s.frame; in_row = div_below w.0 (cells s.frame) s.rows (some_cells s) w.1; in_box = mod_below w.0 (cells s.frame) (some_cells s); in_class = w.2; tie = w.3 }

pub musts_right : MustsStand
musts_right s inside = record { long = (every s inside).long; asked = asked_so s inside; only = only_so s inside }
