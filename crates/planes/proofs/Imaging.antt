-- What the six mirrors ask: the cell that lies where the image does, or off.
use Rattle.std.proofs.Common.{◌≡◌, ◌==◌, ℕ, ◌+◌, ◌/◌, ◌%◌, ◌<◌, ◌≤◌, Bool, true, false, cond, ◌&&◌, Option, Some, None, nat_lt, sym, refl, ap, subst, ◌∙◌, ◌⊎◌, ⊎_elim, arith}
use Rattle.std.proofs.lemmas.Bool.{cond-true, cond-false, lt-ltb, le-ltb, ltb-true, and_from, and_parts, cases_Bool, ne_eqb}
use Rattle.std.proofs.lemmas.Nat.{mod_below}
use Rattle.frames.specs.declared.frame.Cell.{Cell}
use Rattle.frames.specs.declared.frame.Frame.{Frame}
use Rattle.frames.specs.Frames.{cells, cell_at, cell_number}
use Rattle.frames.specs.Radix.{joined_digits, joined_below, high_below, last_of, middle_of, first_of, last_first}
use Rattle.planes.specs.declared.mirror.MirrorKind.{MirrorKind}
use Rattle.planes.specs.declared.mirror.MirrorKind.TheVariants.{LeftRight, TopBottom, HalfTurn, FallingDiagonal, RisingDiagonal, QuarterTurn, Untied}
use Rattle.planes.specs.declared.place.Place.{Place}
use Rattle.planes.specs.declared.tie.Tie.{Tie}
use Rattle.planes.specs.declared.tie.Tie.TheVariants.{Free, Off, Same}
use Rattle.planes.specs.Images.{ImageOf, MirrorRight, MirrorsStand}
use Rattle.planes.specs.Layers.{kept, kind_of, kind_tie, tie_to}
use Rattle.planes.specs.Looks.{boxed}

some_injective : (p q : Place) → Some p ≡ Some q → p ≡ q
some_injective p q e = cc

-- where a test decides a place, the place is had only where the test holds
chosen : (b : Bool) (p q : Place) → cond b (Some p) None ≡ Some q → (b ≡ true) × (p ≡ q)
chosen true p q e = (refl, some_injective p q e)
chosen false p q e = absurd (cc)

module _ (f : Frame) (a : ℕ) (inside : a < cells f) where
  abbrev here : Cell
  here = cell_at f a

  column : (n : ℕ) → n % f.width < f.width
  column n = mod_below n f.width f.wide

  row : (n : ℕ) → n / f.width % f.height < f.height
  row n = mod_below (n / f.width) f.height f.tall

  generation : here.t < f.period
  generation = high_below f.period f.height f.width a f.tall f.wide (subst (λ m. a < m) (sym (last_first f.width f.height f.period)) inside)

  -- what is asked where a turn takes the cell
  abbrev asked : Option Place → Tie
  asked turn = cond (nat_lt a (cells f)) (tie_to f here.t (kept f turn)) Free

  same_from : (turn : Option Place) (b : ℕ) → (cell_at f b).t ≡ here.t → turn ≡ Some (record { x = (cell_at f b).x; y = (cell_at f b).y }) → asked turn ≡ Same b
  same_from turn b now e =
      cond-true (nat_lt a (cells f)) _ _ (lt-ltb a (cells f) inside)
      ∙ ap (λ o. tie_to f here.t (kept f o)) e
      ∙ ap (tie_to f here.t) (cond-true (nat_lt (b % f.width) f.width && nat_lt (b / f.width % f.height) f.height) _ _ (and_from _ _ (lt-ltb _ _ (column b)) (lt-ltb _ _ (row b))))
      ∙ ap (λ t. Same (cell_number f (b % f.width) (b / f.width % f.height) t)) (sym now)
      ∙ ap Same (joined_digits f.height f.width b)

  -- the cell of a place of the box in the same generation
  module _ (Lies : Cell → Cell → Type 0) (p : Place) (px : p.x < f.width) (py : p.y < f.height) (lies : (c : Cell) → c.x ≡ p.x → c.y ≡ p.y → Lies here c) where
    abbrev there : ℕ
    there = cell_number f p.x p.y here.t

    there_is : ImageOf f Lies a there
    there_is = record {
      in_box = subst (λ m. there < m) (last_first f.width f.height f.period) (joined_below f.period f.height f.width here.t p.y p.x generation py px);
      lies = lies (cell_at f there) (last_of f.height f.width here.t p.y p.x px) (middle_of f.height f.width here.t p.y p.x py px);
      generation = first_of f.height f.width here.t p.y p.x py px;
    }

  module _ (Lies : Cell → Cell → Type 0) (none : (b : ℕ) → ImageOf f Lies a b → ⊥) where
    not_kept : (p : Place) → (p.x < f.width → p.y < f.height → (c : Cell) → c.x ≡ p.x → c.y ≡ p.y → Lies here c) → boxed f p.x p.y ≡ None
    not_kept p lies =
        ⊎_elim
        (λ e. let tests = and_parts (nat_lt p.x f.width) (nat_lt p.y f.height) e in
        let px : p.x < f.width = ltb-true _ _ tests.0 in
        let py : p.y < f.height = ltb-true _ _ tests.1 in
        absurd (none _ (there_is Lies p px py (lies px py))))
        (λ e. cond-false (nat_lt p.x f.width && nat_lt p.y f.height) _ _ e)
        (cases_Bool (nat_lt p.x f.width && nat_lt p.y f.height))

    off_from : (turn : Option Place) → ((p : Place) → turn ≡ Some p → p.x < f.width → p.y < f.height → (c : Cell) → c.x ≡ p.x → c.y ≡ p.y → Lies here c) → asked turn ≡ Off
    off_from None lies = cond-true (nat_lt a (cells f)) _ _ (lt-ltb a (cells f) inside)
    off_from (Some p) lies = cond-true (nat_lt a (cells f)) _ _ (lt-ltb a (cells f) inside) ∙ ap (tie_to f here.t) (not_kept p (lies p refl))

-- places with equal columns and rows
placed : (x y x' y' : ℕ) → x ≡ x' → y ≡ y' → ◌≡◌ {A = Option Place} (Some (record { x = x; y = y })) (Some (record { x = x'; y = y' }))
placed x y x' y' e d = cc

-- where the column of an image is found by a test
tested : (n w x y x' y' : ℕ) → n < w → x ≡ x' → y ≡ y' → ◌≡◌ {A = Option Place} (cond (nat_lt n w) (Some (record { x = x; y = y })) None) (Some (record { x = x'; y = y' }))
tested n w x y x' y' l e d = cond-true (nat_lt n w) _ _ (lt-ltb n w l) ∙ placed x y x' y' e d

column_of : (p q : Place) → p ≡ q → p.x ≡ q.x
column_of p q e = ap (λ (r : Place). r.x) e

row_of : (p q : Place) → p ≡ q → p.y ≡ q.y
row_of p q e = ap (λ (r : Place). r.y) e

module _ (f : Frame) where
  left_right : MirrorRight f 1 (λ a b. (a.x + b.x + 1 ≡ f.width) × (b.y ≡ a.y))
  left_right = record {
    same = λ a b inside i. same_from f a inside _ b i.generation (let l = i.lies.0 in placed _ _ _ _ (omega arith) (sym i.lies.1));
    off = λ a inside none. off_from f a inside _ none _ (λ p e px py c cx cy.
        let q = some_injective _ p e in
        let x = column_of _ p q in
        let y = row_of _ p q in
        let l = column f a inside a in
        (omega arith, cy ∙ sym y));
  }

  top_bottom : MirrorRight f 2 (λ a b. (b.x ≡ a.x) × (a.y + b.y + 1 ≡ f.height))
  top_bottom = record {
    same = λ a b inside i. same_from f a inside _ b i.generation (let l = i.lies.1 in placed _ _ _ _ (sym i.lies.0) (omega arith));
    off = λ a inside none. off_from f a inside _ none _ (λ p e px py c cx cy.
        let q = some_injective _ p e in
        let x = column_of _ p q in
        let y = row_of _ p q in
        let l = row f a inside a in
        (cx ∙ sym x, omega arith));
  }

  half_turn : MirrorRight f 3 (λ a b. (a.x + b.x + 1 ≡ f.width) × (a.y + b.y + 1 ≡ f.height))
  half_turn = record {
    same = λ a b inside i. same_from f a inside _ b i.generation (let l = i.lies.0 in let m = i.lies.1 in placed _ _ _ _ (omega arith) (omega arith));
    off = λ a inside none. off_from f a inside _ none _ (λ p e px py c cx cy.
        let q = some_injective _ p e in
        let x = column_of _ p q in
        let y = row_of _ p q in
        let l = column f a inside a in
        let m = row f a inside a in
        (omega arith, omega arith));
  }

  falling : MirrorRight f 4 (λ a b. (b.x ≡ a.y) × (b.y ≡ a.x))
  falling = record {
    same = λ a b inside i. same_from f a inside _ b i.generation (placed _ _ _ _ (sym i.lies.0) (sym i.lies.1));
    off = λ a inside none. off_from f a inside _ none _ (λ p e px py c cx cy.
        let q = some_injective _ p e in
        let x = column_of _ p q in
        let y = row_of _ p q in
        (cx ∙ sym x, cy ∙ sym y));
  }

  rising : MirrorRight f 5 (λ a b. (a.y + b.x + 1 ≡ f.width) × (a.x + b.y + 1 ≡ f.width))
  rising = record {
    same = λ a b inside i. same_from f a inside _ b i.generation (let l = i.lies.0 in let m = i.lies.1 in tested _ _ _ _ _ _ (omega arith) (omega arith) (omega arith));
    off = λ a inside none. off_from f a inside _ none _ (λ p e px py c cx cy.
        let k = chosen (nat_lt (cell_at f a).y f.width) _ p e in
        let under = ltb-true (cell_at f a).y f.width k.0 in
        let x = column_of _ p k.1 in
        let y = row_of _ p k.1 in
        let l = column f a inside a in
        (omega arith, omega arith));
  }

  quarter_turn : MirrorRight f 6 (λ a b. (a.y + b.x + 1 ≡ f.width) × (b.y ≡ a.x))
  quarter_turn = record {
    same = λ a b inside i. same_from f a inside _ b i.generation (let l = i.lies.0 in tested _ _ _ _ _ _ (omega arith) (omega arith) (sym i.lies.1));
    off = λ a inside none. off_from f a inside _ none _ (λ p e px py c cx cy.
        let k = chosen (nat_lt (cell_at f a).y f.width) _ p e in
        let under = ltb-true (cell_at f a).y f.width k.0 in
        let x = column_of _ p k.1 in
        let y = row_of _ p k.1 in
        (omega arith, cy ∙ sym y));
  }

no_kind : (n : ℕ) → (n ≡ 0) ⊎ (6 < n) → kind_of n ≡ Untied
no_kind n h =
    let far : (k : ℕ) → 1 ≤ k → k ≤ 6 → (n == k) ≡ false = λ k l m. ne_eqb n k (λ e. ⊎_elim (λ z. omega arith) (λ z. omega arith) h) in
    cond-false (n == 1) _ _ (far 1 (omega arith) (omega arith))
    ∙ cond-false (n == 2) _ _ (far 2 (omega arith) (omega arith))
    ∙ cond-false (n == 3) _ _ (far 3 (omega arith) (omega arith))
    ∙ cond-false (n == 4) _ _ (far 4 (omega arith) (omega arith))
    ∙ cond-false (n == 5) _ _ (far 5 (omega arith) (omega arith))
    ∙ cond-false (n == 6) _ _ (far 6 (omega arith) (omega arith))

past_all : (f : Frame) (kind : MirrorKind) (a : ℕ) → cells f ≤ a → kind_tie f kind a ≡ Free
past_all f LeftRight a h = cond-false (nat_lt a (cells f)) _ _ (le-ltb a (cells f) h)
past_all f TopBottom a h = cond-false (nat_lt a (cells f)) _ _ (le-ltb a (cells f) h)
past_all f HalfTurn a h = cond-false (nat_lt a (cells f)) _ _ (le-ltb a (cells f) h)
past_all f FallingDiagonal a h = cond-false (nat_lt a (cells f)) _ _ (le-ltb a (cells f) h)
past_all f RisingDiagonal a h = cond-false (nat_lt a (cells f)) _ _ (le-ltb a (cells f) h)
past_all f QuarterTurn a h = cond-false (nat_lt a (cells f)) _ _ (le-ltb a (cells f) h)
past_all f Untied a h = refl

pub mirrors_right : MirrorsStand
mirrors_right f = record {
  left_right = left_right f;
  top_bottom = top_bottom f;
  half_turn = half_turn f;
  falling = falling f;
  rising = rising f;
  quarter_turn = quarter_turn f;
  untied = λ number a h. ap (λ kind. kind_tie f kind a) (no_kind number h);
  past = λ number a h. past_all f (kind_of number) a h;
}
