-- The solutions of a space's system are the fillings that keep its ties and the rule.
use Rattle.std.proofs.Common.{◌≡◌, ℕ, zero, suc, ◌+◌, ◌<◌, ◌≤◌, Bool, true, false, cond, not, ◌&&◌, ◌||◌, ltb, ◌⊎◌, List, [], ◌∷◌, map, length, get_or, ℤ, ◌+ℤ◌, ◌-ℤ◌, Some, None, Option, sym, refl, ap, ◌∙◌, subst, ap₂, inl, inr, arith}
use lib.ListN.{length-map}
use Rattle.std.proofs.lemmas.List.{ext_get_or, get_or-map, get_or_append_left, get_or_push, get_or_past, get_or_default, length_push}
use Rattle.std.proofs.lemmas.List.Sums.{sum_by-cons}
use Rattle.std.proofs.lemmas.List.FromFn.{length-map-range_with_len, get_or-map-range_with_len}
use Rattle.std.proofs.lemmas.Bool.{cases_eq, cases_lt, cases_Bool, both_ways, cond-true, cond_both, and_parts, or_parts, or_cases}
use Rattle.frames.specs.Frames.{cells, cell_number}
use Rattle.rules.specs.declared.rule.Rule.{Rule}
use Rattle.rules.specs.Answers.{answer}
use Rattle.codes.specs.declared.value.Value.TheVariants.{Off, On, Unknown}
use Rattle.codes.specs.Laws.{known}
use Rattle.planes.specs.declared.neighbours.Offset.{Offset}
use Rattle.planes.specs.declared.place.Place.{Place}
use Rattle.planes.specs.declared.tie.Tie.{Tie}
use Rattle.planes.specs.declared.tie.Tie.TheVariants.{Free, Same}
use Rattle.planes.specs.Ties.{Within}
use Rattle.rolls.specs.Joined.{alone, tied}
use Rattle.rolls.specs.Rolls.{Surface, around, ninth, Keeps, TieHolds, InstanceHolds, seen, value, total, successor}
use Rattle.rolls.specs.Laws.{Orders}
use Rattle.rolls.proofs.Chains.{joined_alike}
use Rattle.classes.specs.declared.classes.Musts.{Musts}
use Rattle.classes.specs.Asked.{free_among, torn_among, unasked, asks, must}
use Rattle.classes.specs.Classed.{numbers_in, class_of, lowest_of, class_count}
use Rattle.classes.specs.Joins.{TiesInside}
use Rattle.classes.specs.Needed.{musts_in, AskedOf}
use Rattle.classes.specs.Numbers.{Numbers}
use Rattle.classes.proofs.Classing.{classes_right}
use Rattle.classes.proofs.Joining.{labels_right, some_cells}
use Rattle.classes.proofs.Needing.{musts_right}
use Rattle.systems.specs.declared.instance.Instance.{Instance}
use Rattle.systems.specs.Systems.{In, at, sum_of, unknowns, unknown_one, whole, on_in, Holds, Sol, Proper, Mentions, as_centre, as_successor, as_neighbour}
use Rattle.systems.specs.Spaces.{class_seen, class_look, class_next, instance_at, all_instances, first_value, start_of, classes_by_rank, system_of, spread, gather, SolutionsStand}
use Rattle.systems.proofs.Base.{never, known_unknown, known_inj, map_in, in_get_d, get_d_in}
use Rattle.systems.proofs.Solutions.{sol_steps, sol_meets, filling_laws}
use Rattle.systems.proofs.Gathered.{instance_in, in_instances}

-- ---- looks through classes
spread_at : (g : List Bool) (n : ℕ) → get_or g n false ≡ false → (l : List ℕ) (c : ℕ) → get_or (map (λ x. get_or g x false) l) c false ≡ get_or g (get_or l c n) false
spread_at g n z [] c = sym z
spread_at g n z (x ∷ l) zero = refl
spread_at g n z (x ∷ l) (suc c) = spread_at g n z l c

pick : (g : List Bool) (b : Bool) (x y : ℕ) (p q : Bool) → p ≡ get_or g x false → q ≡ get_or g y false → cond b p q ≡ get_or g (cond b x y) false
pick g true x y p q e f = e
pick g false x y p q e f = f

module _ (s : Surface) (g : List Bool) (z : get_or g (class_count s) false ≡ false) where
  seen_class : (t : ℕ) (o : Option Place) → seen s (spread s g) t o ≡ get_or g (class_seen s (numbers_in s) t o) false
  seen_class t None = sym z
  seen_class t (Some p) = spread_at g (class_count s) z (numbers_in s).classes (cell_number s.frame p.x p.y t)

  value_class : (t : ℕ) (x y : ℤ) → value s (spread s g) t x y ≡ get_or g (class_look s (numbers_in s) t x y) false
  value_class t x y = seen_class t (s.look x y)

  next_class : (t : ℕ) (x y : ℤ) → successor s (spread s g) t x y ≡ get_or g (class_next s (numbers_in s) t x y) false
  next_class t x y =
      pick g (ltb (t + 1) s.frame.period) (class_look s (numbers_in s) (t + 1) x y) (class_look s (numbers_in s) 0 (x -ℤ s.frame.dx) (y -ℤ s.frame.dy)) _ _
      (value_class (t + 1) x y) (value_class 0 (x -ℤ s.frame.dx) (y -ℤ s.frame.dy))

  total_class : (t : ℕ) (x y : ℤ) (os : List Offset) → total s (spread s g) t x y os ≡ on_in g (map (λ o. class_look s (numbers_in s) t (x +ℤ o.dx) (y +ℤ o.dy)) os)
  unfolding sum_of
  total_class t x y [] = refl
  total_class t x y (o ∷ os) = ap₂ ◌+◌ (ap (λ (b : Bool). cond b 1 0) (value_class t (x +ℤ o.dx) (y +ℤ o.dy))) (total_class t x y os)

  holds_there : (r : Rule) (t : ℕ) (x y : ℤ) → InstanceHolds s r (spread s g) t x y → Holds (answer r) g (instance_at s (numbers_in s) t x y)
  unfolding instance_at
  holds_there r t x y h =
      sym (next_class t x y) ∙ h ∙ ap₂ (answer r) (value_class t x y) (total_class t x y around)

  holds_back : (r : Rule) (t : ℕ) (x y : ℤ) → Holds (answer r) g (instance_at s (numbers_in s) t x y) → InstanceHolds s r (spread s g) t x y
  unfolding instance_at
  holds_back r t x y h =
      next_class t x y ∙ h ∙ ap₂ (answer r) (sym (value_class t x y)) (sym (total_class t x y around))

-- ---- what is known from the start
-- a class of which b is asked has b from the start, unless it is torn; and it has b only if b is asked
first_asked : (m : Musts) (b : Bool) → asks b m ≡ true → (m.off && m.on) ≡ false → first_value m ≡ known b
first_asked m false h t = cond-true m.off Off (cond m.on On Unknown) h
first_asked m true h t = by m.off m.on h t
  where
    by : (off on : Bool) → on ≡ true → (off && on) ≡ false → cond off Off (cond on On Unknown) ≡ On
    by false true h t = refl
    by false false h t = never (cc)
    by true on h t = absurd (both_ways on t h)

asked_first : (m : Musts) (b : Bool) → first_value m ≡ known b → asks b m ≡ true
asked_first m b e = by m.off m.on b refl refl e
  where
    by : (off on b : Bool) → m.off ≡ off → m.on ≡ on → cond off Off (cond on On Unknown) ≡ known b → asks b m ≡ true
    by true on false p q e = p
    by true on true p q e = never (cc)
    by false true true p q e = q
    by false true false p q e = never (cc)
    by false false b p q e = absurd (known_unknown b (sym e))

torn_one : (ms : List Musts) → torn_among ms ≡ true → (x : ℕ) × (asks false (get_or ms x unasked) ≡ true) × (asks true (get_or ms x unasked) ≡ true)
torn_one [] e = never (cc)
torn_one (m ∷ ms) e =
    elim (or_cases (m.off && m.on) (torn_among ms) e) [
      | inl h ↦ (let q = and_parts m.off m.on h in (0, q.0, q.1))
      | inr h ↦ (let q = torn_one ms h in (suc q.0, q.1, q.2))
    ]

untorn_each : (ms : List Musts) (x : ℕ) → torn_among ms ≡ false → ((get_or ms x unasked).off && (get_or ms x unasked).on) ≡ false
untorn_each [] x e = refl
untorn_each (m ∷ ms) zero e = (or_parts (m.off && m.on) (torn_among ms) e).0
untorn_each (m ∷ ms) (suc x) e = untorn_each ms x (or_parts (m.off && m.on) (torn_among ms) e).1

free_one : (off on : Bool) → unknown_one (cond off Off (cond on On Unknown)) ≡ cond (not (off || on)) 1 0
free_one true on = refl
free_one false true = refl
free_one false false = refl

unknowns_free : (ms : List Musts) → unknowns (start_of ms) ≡ free_among ms
unfolding start_of unknowns
unknowns_free [] = refl
unknowns_free (m ∷ ms) = ap₂ ◌+◌ (free_one m.off m.on) (unknowns_free ms) ∙ sym (sum_by-cons _ m ms)

module _ (s : Surface) (inside : TiesInside s) where
  start_long : length (start_of (musts_in s)) ≡ class_count s + 1
  unfolding start_of
  start_long = length_push (map first_value (musts_in s)) Off ∙ ap (λ (n : ℕ). n + 1) (length-map (musts_in s) first_value ∙ (musts_right s inside).long)

  start_at : (x : ℕ) → x < class_count s → at (start_of (musts_in s)) x ≡ first_value (get_or (musts_in s) x unasked)
  unfolding start_of
  start_at x h =
      let l : x < length (musts_in s) = omega (arith, (musts_right s inside).long) in
      get_or_append_left (map first_value (musts_in s)) (Off ∷ []) Unknown x (omega (arith, length-map (musts_in s) first_value))
      ∙ get_or-map first_value (musts_in s) x unasked Unknown l

  start_nothing : at (start_of (musts_in s)) (class_count s) ≡ Off
  unfolding start_of
  start_nothing = get_or_push (map first_value (musts_in s)) Off Unknown (class_count s) (length-map (musts_in s) first_value ∙ (musts_right s inside).long)

  -- a class of the start is a class of the space, or nothing
  class_or_nothing : (x : ℕ) (b : Bool) → at (start_of (musts_in s)) x ≡ known b → (x < class_count s) ⊎ (x ≡ class_count s)
  class_or_nothing x b e =
      elim (cases_lt x (class_count s)) [
        | inl h ↦ inl h
        | inr h ↦ elim (cases_eq x (class_count s)) [
          | inl q ↦ inr q
          | inr q ↦ absurd (known_unknown b (sym e ∙ get_or_past (start_of (musts_in s)) x Unknown (omega (arith, start_long))))
        ]
      ]

  -- ---- lowest cells
  -- the first cell begins the first class
  first_lowest : lowest_of s 0 ≡ 0
  first_lowest =
      let c = classes_right s inside in
      let k = some_cells s in
      let a : lowest_of s (class_of s 0) ≤ 0 = omega (arith, c.lowest 0 k, (labels_right s inside).lowest 0 0 k alone) in
      elim (cases_eq (class_of s 0) 0) [
        | inl e ↦ (let q = ap (lowest_of s) e in omega (arith, q))
        | inr e ↦ absurd (omega (arith, c.rising 0 (class_of s 0) (omega arith) (c.within 0 k)))
      ]

  lowest_in : (j : ℕ) → j < class_count s → lowest_of s j < cells s.frame
  lowest_in j h =
      let c = classes_right s inside in
      elim (cases_lt (lowest_of s j) (cells s.frame)) [
        | inl l ↦ l
        | inr l ↦ (let e : j ≡ 0 = sym (c.begun j h) ∙ get_or_past (numbers_in s).classes (lowest_of s j) 0 (omega (arith, c.long)) in
            let q = ap (lowest_of s) e in omega (arith, q, first_lowest, some_cells s))
      ]

  -- ---- gathering and spreading
  gather_long : (f : List Bool) → length (gather s f) ≡ class_count s + 1
  gather_long f = length_push (map (λ c. get_or f c false) (numbers_in s).lowest) false ∙ ap (λ (n : ℕ). n + 1) (length-map (numbers_in s).lowest (λ c. get_or f c false))

  gather_at : (f : List Bool) (x : ℕ) → x < class_count s → get_or (gather s f) x false ≡ get_or f (lowest_of s x) false
  gather_at f x h =
      get_or_append_left (map (λ c. get_or f c false) (numbers_in s).lowest) (false ∷ []) false x (omega (arith, length-map (numbers_in s).lowest (λ c. get_or f c false)))
      ∙ get_or-map (λ c. get_or f c false) (numbers_in s).lowest x 0 false h

  gather_nothing : (f : List Bool) → get_or (gather s f) (class_count s) false ≡ false
  gather_nothing f = get_or_push (map (λ c. get_or f c false) (numbers_in s).lowest) false false (class_count s) (length-map (numbers_in s).lowest (λ c. get_or f c false))

  pub spread_long : (g : List Bool) → length (spread s g) ≡ cells s.frame
  spread_long g = length-map (numbers_in s).classes (λ x. get_or g x false) ∙ (classes_right s inside).long

  pub spread_of : (g : List Bool) (c : ℕ) → c < cells s.frame → get_or (spread s g) c false ≡ get_or g (class_of s c) false
  spread_of g c h = get_or-map (λ x. get_or g x false) (numbers_in s).classes c 0 false (omega (arith, (classes_right s inside).long))

  module _ (r : Rule) (f : List Bool) (k : Keeps s r f) where
    lowest_alike : (c : ℕ) → c < cells s.frame → get_or f (lowest_of s (class_of s c)) false ≡ get_or f c false
    lowest_alike c h =
        let q = classes_right s inside in
        let w = q.within c h in
        joined_alike s r f k (lowest_of s (class_of s c)) c (q.joined (lowest_of s (class_of s c)) c (lowest_in (class_of s c) w) h (q.begun (class_of s c) w))

    spread_gather : spread s (gather s f) ≡ f
    spread_gather =
        ext_get_or false (spread s (gather s f)) f (spread_long (gather s f) ∙ sym k.long)
        (λ c l.
        let h : c < cells s.frame = omega (arith, spread_long (gather s f)) in
        spread_of (gather s f) c h ∙ gather_at f (class_of s c) ((classes_right s inside).within c h) ∙ lowest_alike c h)

    -- what is asked of a class its cells have
    asked_value : (x : ℕ) (b : Bool) → AskedOf s x b → get_or (gather s f) x false ≡ b
    asked_value x b a =
        ap (λ (y : ℕ). get_or (gather s f) y false) (sym a.in_class)
        ∙ sym (spread_of (gather s f) a.cell a.in_box)
        ∙ ap (λ (g : List Bool). get_or g a.cell false) spread_gather
        ∙ must_holds b (subst (TieHolds f a.cell) a.tie (k.ties a.row a.cell a.in_row a.in_box))
      where
        must_holds : (b : Bool) → TieHolds f a.cell (must b) → get_or f a.cell false ≡ b
        must_holds false h = h
        must_holds true h = h

    untorn : torn_among (musts_in s) ≡ false
    untorn =
        elim (cases_Bool (torn_among (musts_in s))) [
          | inr e ↦ e
          | inl e ↦ (let q = torn_one (musts_in s) e in
              let m = musts_right s inside in
              let a = asked_value q.0 false (m.only q.0 false q.1) in
              let b = asked_value q.0 true (m.only q.0 true q.2) in
              absurd (both_ways (get_or (gather s f) q.0 false) a b))
        ]

    start_kept : (x : ℕ) (b : Bool) → at (start_of (musts_in s)) x ≡ known b → whole (gather s f) x ≡ known b
    start_kept x b e =
        elim (class_or_nothing x b e) [
          | inl h ↦ ap known (asked_value x b ((musts_right s inside).only x b (asked_first (get_or (musts_in s) x unasked) b (sym (start_at x h) ∙ e))))
          | inr h ↦ ap known (ap (λ (y : ℕ). get_or (gather s f) y false) h ∙ gather_nothing f ∙ known_inj false b (sym start_nothing ∙ ap (at (start_of (musts_in s))) (sym h) ∙ e))
        ]

    pub solves : (cell : ℕ → ℕ) → Sol (system_of s r cell) (gather s f)
    solves cell =
        record {
          size = gather_long f ∙ sym start_long;
          not_torn = untorn;
          musts = start_kept;
          holds = λ i m.
              let w = in_instances s (numbers_in s) i m in
              subst (Holds (answer r) (gather s f)) (sym w.same)
              (holds_there s (gather s f) (gather_nothing f) r w.t (ninth w.i) (ninth w.j)
              (subst (λ (h : List Bool). InstanceHolds s r h w.t (ninth w.i) (ninth w.j)) (sym spread_gather) (k.instances w.t w.j w.i w.in_time w.in_rows w.in_columns)));
        }

  module _ (r : Rule) (cell : ℕ → ℕ) (g : List Bool) (k : Sol (system_of s r cell) g) where
    nothing_off : get_or g (class_count s) false ≡ false
    nothing_off = known_inj (get_or g (class_count s) false) false (k.musts (class_count s) false start_nothing)

    must_kept : (row c : ℕ) → row < s.rows → c < cells s.frame → (b : Bool) → s.tie row c ≡ must b → get_or (spread s g) c false ≡ b
    must_kept row c h l b e =
        let x = class_of s c in
        let a = (musts_right s inside).asked (class_of s c) b (record { row = row; cell = c; in_row = h; in_box = l; in_class = refl; tie = e }) in
        spread_of g c l
        ∙ known_inj (get_or g (class_of s c) false) b
        (k.musts (class_of s c) b (start_at (class_of s c) ((classes_right s inside).within c l) ∙ first_asked (get_or (musts_in s) (class_of s c) unasked) b a (untorn_each (musts_in s) (class_of s c) k.not_torn)))

    tie_kept : (row c : ℕ) → row < s.rows → c < cells s.frame → (t : Tie) → s.tie row c ≡ t → TieHolds (spread s g) c t
    tie_kept row c h l Free e = tt
    tie_kept row c h l Tie.Off e = must_kept row c h l false e
    tie_kept row c h l Tie.On e = must_kept row c h l true e
    tie_kept row c h l (Same d) e =
        let m : d < cells s.frame = subst (Within (cells s.frame)) e (inside row c h l) in
        spread_of g c l ∙ ap (λ (x : ℕ). get_or g x false) ((classes_right s inside).joins c d l m (tied h l e)) ∙ sym (spread_of g d m)

    pub keeps : Keeps s r (spread s g)
    keeps =
        record {
          long = spread_long g;
          ties = λ row c h l. tie_kept row c h l (s.tie row c) refl;
          instances = λ t j i h l m. holds_back s g nothing_off r t (ninth i) (ninth j) (k.holds (instance_at s (numbers_in s) t (ninth i) (ninth j)) (instance_in s (numbers_in s) t j i h l m));
        }

    gather_spread : gather s (spread s g) ≡ g
    gather_spread =
        ext_get_or false (gather s (spread s g)) g (gather_long (spread s g) ∙ sym start_long ∙ sym k.size)
        (λ x l.
        elim (cases_lt x (class_count s)) [
          | inl h ↦ gather_at (spread s g) x h ∙ spread_of g (lowest_of s x) (lowest_in x h) ∙ ap (λ (y : ℕ). get_or g y false) ((classes_right s inside).begun x h)
          | inr h ↦ (let e : x ≡ class_count s = omega (arith, gather_long (spread s g)) in
              ap (λ (y : ℕ). get_or (gather s (spread s g)) y false) e ∙ gather_nothing (spread s g) ∙ sym nothing_off ∙ ap (λ (y : ℕ). get_or g y false) (sym e))
        ])

  -- ---- the system is proper
  seen_in : (t : ℕ) (o : Option Place) → class_seen s (numbers_in s) t o < class_count s + 1
  seen_in t None = omega arith
  seen_in t (Some p) = by (cell_number s.frame p.x p.y t)
    where
      by : (c : ℕ) → get_or (numbers_in s).classes c (class_count s) < class_count s + 1
      by c =
          let q = classes_right s inside in
          elim (cases_lt c (length (numbers_in s).classes)) [
            | inl h ↦ omega (arith, get_or_default (numbers_in s).classes c (class_count s) 0 h, q.within c (omega (arith, q.long)))
            | inr h ↦ omega (arith, get_or_past (numbers_in s).classes c (class_count s) h)
          ]

  next_in : (t : ℕ) (x y : ℤ) → class_next s (numbers_in s) t x y < class_count s + 1
  next_in t x y =
      cond_both (ltb (t + 1) s.frame.period) (class_look s (numbers_in s) (t + 1) x y) (class_look s (numbers_in s) 0 (x -ℤ s.frame.dx) (y -ℤ s.frame.dy)) (λ c. c < class_count s + 1)
      (λ e. seen_in (t + 1) (s.look x y)) (λ e. seen_in 0 (s.look (x -ℤ s.frame.dx) (y -ℤ s.frame.dy)))

  names_in : (t : ℕ) (x y : ℤ) (c : ℕ) → Mentions (instance_at s (numbers_in s) t x y) c → c < class_count s + 1
  unfolding instance_at
  names_in t x y c (as_centre e) = rw e at (seen_in t (s.look x y))
  names_in t x y c (as_successor e) = rw e at (next_in t x y)
  names_in t x y c (as_neighbour m) =
      let q = map_in (λ o. class_look s (numbers_in s) t (x +ℤ o.dx) (y +ℤ o.dy)) around c m in
      rw q.2 (seen_in t (s.look (x +ℤ q.0.dx) (y +ℤ q.0.dy)))

  module _ (cell rank : ℕ → ℕ) (o : Orders (cells s.frame) cell rank) where
    pub order_at : (k : ℕ) → k < cells s.frame → get_or (classes_by_rank (numbers_in s).classes cell (cells s.frame)) k 0 ≡ class_of s (cell k)
    unfolding classes_by_rank
    order_at k h = get_or-map-range_with_len (λ j. class_of s (cell j)) 0 (cells s.frame) k k 0 h (omega arith)

    pub order_long : length (classes_by_rank (numbers_in s).classes cell (cells s.frame)) ≡ cells s.frame
    unfolding classes_by_rank
    order_long = length-map-range_with_len (λ j. class_of s (cell j)) 0 (cells s.frame)

    order_has : (c : ℕ) → c < cells s.frame → In (class_of s c) (classes_by_rank (numbers_in s).classes cell (cells s.frame))
    order_has c h =
        let k = o.ranked c h in
        let e = order_at (rank c) k ∙ ap (class_of s) (o.forth c h) in
        rw (← e) (in_get_d (classes_by_rank (numbers_in s).classes cell (cells s.frame)) (rank c) 0 (omega (arith, order_long)))

    pub proper : (r : Rule) → Proper (system_of s r cell)
    proper r =
        record {
          mentions = λ i m x k.
              let w = in_instances s (numbers_in s) i m in
              let h = names_in w.t (ninth w.i) (ninth w.j) x (rw w.same at k) in
              omega (arith, start_long, h);
          chosen = λ x m.
              let q = get_d_in (classes_by_rank (numbers_in s).classes cell (cells s.frame)) 0 x m in
              let l : q.0 < cells s.frame = omega (arith, q.1, order_long) in
              let e = order_at q.0 l in
              omega (arith, start_long, e, q.2, (classes_right s inside).within (cell q.0) (o.within q.0 l));
          choosable = λ x l e.
              elim (cases_lt x (class_count s)) [
                | inl h ↦ rw (← (classes_right s inside).begun x h) (order_has (lowest_of s x) (lowest_in x h))
                | inr h ↦ (let q : x ≡ class_count s = omega (arith, start_long) in
                    absurd (known_unknown false (sym start_nothing ∙ ap (at (start_of (musts_in s))) (sym q) ∙ e)))
              ];
        }

pub solutions_right : SolutionsStand
solutions_right s r cell inside =
    record {
      keeps = λ g k. keeps s inside r cell g k;
      solves = λ f k. solves s inside r f k cell;
      there = λ f k. spread_gather s inside r f k;
      back = λ g k. gather_spread s inside r cell g k;
      free = unknowns_free (musts_in s);
      proper = λ rank o. proper s inside cell rank o r;
      forced = λ f k ρ σ h ss. sol_steps (system_of s r cell) (gather s f) (solves s inside r f k cell) ss h;
      possible = λ f k ρ h m. sol_meets (system_of s r cell) (gather s f) (solves s inside r f k cell) ρ h m;
      full = λ rank o g ρ l h t. keeps s inside r cell g (filling_laws.full (system_of s r cell) (proper s inside cell rank o r) g ρ l h t);
    }

-- every instance of a space names eight neighbours
pub eight : (s : Surface) (n : Numbers) (i : Instance) → In i (all_instances s n) → length i.neighbours ≡ 8
unfolding instance_at
eight s n i m = let w = in_instances s n i m in ap (λ (a : Instance). length a.neighbours) w.same
