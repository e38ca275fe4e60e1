-- Which cells are fixed after some lines that fix cells, and why one more is refused.
use Rattle.std.proofs.Common.{◌≡◌, ◌==◌, ℕ, ◌+◌, ◌*◌, ◌/◌, ◌%◌, ◌<◌, ◌≤◌, Bool, true, false, eqb, ltb, ◌&&◌, ◌⊎◌, List, [], ◌∷◌, ◌++◌, length, Option, Some, None, Ok, Err, sym, refl, ap, subst, inl, inr, ◌∙◌, ⊎_elim, arith}
use Rattle.std.proofs.lemmas.Bool.{and_from, and_parts, cases_Bool, cases_lt, cond-false, cond-true, eq-eqb, eqb-true, le-ltb, lt-ltb, ltb-true, ne_eqb}
use Rattle.std.proofs.lemmas.List.{length-append}
use Rattle.std.proofs.lemmas.List.Folds.{find-append}
use Rattle.std.specs.List.{find}
use Rattle.std.specs.Option.{option_or}
use Rattle.frames.specs.Frames.{Shape}
use Rattle.frames.specs.Radix.{first_of, last_of, middle_of}
use Rattle.planes.specs.Layers.{must}
use Rattle.planes.specs.Pins.{asked_by, fixed_number, pinned, pinned_too}
use Rattle.planes.specs.declared.fault.FixFault.{FixFault}
use Rattle.planes.specs.declared.fault.FixFault.TheVariants.{NoCell, Held, Full}
use Rattle.planes.specs.declared.pins.Pin.{Pin}
use Rattle.planes.specs.declared.tie.Tie.{Tie}
use Rattle.planes.specs.declared.tie.Tie.TheVariants.{Free, Off, On, Same}
use Rattle.problem.specs.Causes.{Fixes, Inside, NoFix}
use Rattle.problem.specs.Reading.{SpaceSaid, numbered}
use Rattle.problem.specs.Written.{FixForm, FixForms, holding}
use Rattle.problem.specs.declared.forms.Fixing.{Fixing}
use Rattle.problem.proofs.Statements.{fix_front}

-- whether nothing is asked
must_not : (on : Bool) → must on ≡ Free → ⊥
must_not true e = let no : On ≡ Free = e in absurd (cc)
must_not false e = let no : Off ≡ Free = e in absurd (cc)

tie_or : (t : Tie) → (t ≡ Free) ⊎ (t ≡ Free → ⊥)
tie_or Free = inl refl
tie_or Off = inr (λ e. absurd (cc))
tie_or On = inr (λ e. absurd (cc))
tie_or (Same other) = inr (λ e. absurd (cc))

free_none : (o : Option Pin) → asked_by o ≡ Free → o ≡ None
free_none None e = refl
free_none (Some p) e = absurd (must_not p.on e)

or_none : (o : Option Pin) → option_or o None ≡ o
or_none None = refl
or_none (Some p) = refl

held_already : (pins : List Pin) (cell : ℕ) (on : Bool) (t : Tie) → (t ≡ Free → ⊥) → pinned_too pins cell on t ≡ Err Held
held_already pins cell on Free h = absurd (h refl)
held_already pins cell on Off h = refl
held_already pins cell on On h = refl
held_already pins cell on (Same other) h = refl

-- one pin more: its cell was free, and there was room
record Granted (pins after : List Pin) (cell : ℕ) (on : Bool) : Type 0 where
  pub free : pinned pins cell ≡ Free
  pub room : length pins < 64
  pub is : after ≡ pins ++ (record { cell = cell; on = on } ∷ [])

granted_by : (pins after : List Pin) (cell : ℕ) (on : Bool) (t : Tie) → pinned pins cell ≡ t → pinned_too pins cell on t ≡ Ok after → Granted pins after cell on
granted_by pins after cell on Free free e =
    let new : List Pin = pins ++ (record { cell = cell; on = on } ∷ []) in
    ⊎_elim
    (λ room. let is : Ok new ≡ Ok after = sym (cond-true (ltb (length pins) 64) (Ok new) (Err Full) (lt-ltb (length pins) 64 room)) ∙ e in let same : new ≡ after = cc in record { free = free; room = room; is = sym same })
    (λ full. let no : Err Full ≡ Ok after = sym (cond-false (ltb (length pins) 64) (Ok new) (Err Full) (le-ltb (length pins) 64 full)) ∙ e in absurd (cc))
    (cases_lt (length pins) 64)
granted_by pins after cell on Off free e = absurd (cc)
granted_by pins after cell on On free e = absurd (cc)
granted_by pins after cell on (Same other) free e = absurd (cc)

module _ (pins after : List Pin) (cell : ℕ) (on : Bool) (g : Granted pins after cell on) where
  abbrev new : List Pin
  new = record { cell = cell; on = on } ∷ []

  -- its value is asked of its cell, and of the others what was asked before
  asked_now : pinned after cell ≡ must on
  asked_now =
      ap (λ l. pinned l cell) g.is
      ∙ ap asked_by (find-append (λ p. p.cell == cell) pins new
      ∙ ap (λ o. option_or o (find (λ p. p.cell == cell) new)) (free_none _ g.free)
      ∙ cond-true (cell == cell) (Some (record { cell = cell; on = on })) None (eq-eqb cell cell refl))

  asked_still : (c : ℕ) → (c ≡ cell → ⊥) → pinned after c ≡ pinned pins c
  asked_still c h =
      ap (λ l. pinned l c) g.is
      ∙ ap asked_by (find-append (λ p. p.cell == c) pins new
      ∙ ap (option_or (find (λ p. p.cell == c) pins)) (cond-false (cell == c) (Some (record { cell = cell; on = on })) None (ne_eqb cell c (λ e. h (sym e))))
      ∙ or_none _)

  one_more : length after ≡ length pins + 1
  one_more = ap length g.is ∙ length-append pins new

-- the number of a cell
abbrev number : Shape → Fixing → ℕ
number f c = (c.t * f.height + c.y) * f.width + c.x

inside_or : (f : Shape) (c : Fixing) → Inside f c ⊎ (Inside f c → ⊥)
inside_or f c =
    ⊎_elim
    (λ x. ⊎_elim (λ y. ⊎_elim (λ t. inl (x, y, t)) (λ out. inr (λ h. omega (arith, out, h.2))) (cases_lt c.t f.period)) (λ out. inr (λ h. omega (arith, out, h.1))) (cases_lt c.y f.height))
    (λ out. inr (λ h. omega (arith, out, h.0)))
    (cases_lt c.x f.width)

inside_number : (f : Shape) (c : Fixing) → Inside f c → numbered f c ≡ Some (number f c)
inside_number f c h = cond-true _ _ None (and_from _ _ (and_from _ _ (lt-ltb c.x f.width h.0) (lt-ltb c.y f.height h.1)) (lt-ltb c.t f.period h.2))

outside_number : (f : Shape) (c : Fixing) → (Inside f c → ⊥) → numbered f c ≡ None
outside_number f c out =
    let test = (ltb c.x f.width && ltb c.y f.height) && ltb c.t f.period in
    ⊎_elim
    (λ yes. let parts = and_parts (ltb c.x f.width && ltb c.y f.height) (ltb c.t f.period) yes in let front = and_parts (ltb c.x f.width) (ltb c.y f.height) parts.0 in absurd (out (ltb-true c.x f.width front.0, ltb-true c.y f.height front.1, ltb-true c.t f.period parts.1)))
    (λ no. cond-false test (Some (number f c)) None no)
    (cases_Bool test)

same_cell : (f : Shape) (c d : Fixing) → Inside f c → Inside f d → number f c ≡ number f d → (c.x ≡ d.x) × (c.y ≡ d.y) × (c.t ≡ d.t)
same_cell f c d h k e = (
  sym (last_of f.height f.width c.t c.y c.x h.0) ∙ ap (λ n. n % f.width) e ∙ last_of f.height f.width d.t d.y d.x k.0,
  sym (middle_of f.height f.width c.t c.y c.x h.1 h.0) ∙ ap (λ n. n / f.width % f.height) e ∙ middle_of f.height f.width d.t d.y d.x k.1 k.0,
  sym (first_of f.height f.width c.t c.y c.x h.1 h.0) ∙ ap (λ n. n / f.width / f.height) e ∙ first_of f.height f.width d.t d.y d.x k.1 k.0,
)

-- a cell that is fixed lies in the box
granted : (pins after : List Pin) (f : Shape) (c : Fixing) → fixed_number pins c.on (numbered f c) ≡ Ok after → Inside f c × Granted pins after (number f c) c.on
granted pins after f c e =
    ⊎_elim
    (λ inside. (inside, granted_by pins after (number f c) c.on (pinned pins (number f c)) refl (sym (ap (fixed_number pins c.on) (inside_number f c inside)) ∙ e)))
    (λ out. let no : Err NoCell ≡ Ok after = sym (ap (fixed_number pins c.on) (outside_number f c out)) ∙ e in absurd (cc))
    (inside_or f c)

-- lines that fix cells: the frame stays, and each line takes one of the 64
pub frame_kept : (s : SpaceSaid) (ls : List (List ℕ)) (last : SpaceSaid) → FixForms s ls last → last.frame ≡ s.frame
frame_kept s [] last e = ap (λ (t : SpaceSaid). t.frame) (sym e)
frame_kept s (l ∷ ls) last (cell, pins, form, is, more) = frame_kept (holding s pins) ls last more

counted : (s : SpaceSaid) (ls : List (List ℕ)) (last : SpaceSaid) → FixForms s ls last → length last.pins ≡ length s.pins + length ls
counted s [] last e = ap (λ (t : SpaceSaid). length t.pins) (sym e) ∙ omega arith
counted s (l ∷ ls) last (cell, pins, form, is, more) =
    let g = granted s.pins pins s.frame cell is in
    omega (arith, counted (holding s pins) ls last more, one_more s.pins pins (number s.frame cell) cell.on g.1)

few : (s : SpaceSaid) (ls : List (List ℕ)) (last : SpaceSaid) → FixForms s ls last → length s.pins ≤ 64 → length last.pins ≤ 64
few s [] last e h = subst (λ (t : SpaceSaid). length t.pins ≤ 64) e h
few s (l ∷ ls) last (cell, pins, form, is, more) h =
    let g = granted s.pins pins s.frame cell is in
    let room = (g.1).room in
    few (holding s pins) ls last more (omega (arith, room, one_more s.pins pins (number s.frame cell) cell.on g.1))

-- a cell that is fixed stays so
stays : (s : SpaceSaid) (ls : List (List ℕ)) (last : SpaceSaid) → FixForms s ls last → (n : ℕ) → (pinned s.pins n ≡ Free → ⊥) → pinned last.pins n ≡ Free → ⊥
stays s [] last e n h free = h (ap (λ (t : SpaceSaid). pinned t.pins n) e ∙ free)
stays s (l ∷ ls) last (cell, pins, form, is, more) n h free =
    let g = (granted s.pins pins s.frame cell is).1 in
    let m = number s.frame cell in
    stays (holding s pins) ls last more n (λ now. h (sym (asked_still s.pins pins m cell.on g n (λ same. h (ap (pinned s.pins) same ∙ g.free))) ∙ now)) free

-- the cells of the lines are fixed
held_by : (s : SpaceSaid) (ls : List (List ℕ)) (last : SpaceSaid) (c : Fixing) → FixForms s ls last → Fixes c ls → pinned last.pins (number s.frame c) ≡ Free → ⊥
held_by s [] last c e none free = none
held_by s (l ∷ ls) last c (cell, pins, form, is, more) (inl (on, here)) free =
    let g = (granted s.pins pins s.frame cell is).1 in
    let m = number s.frame cell in
    let wanted : Fixing = record { x = c.x; y = c.y; t = c.t; on = on } in
    let both : Some cell ≡ Some wanted = sym (fix_front l cell form) ∙ fix_front l wanted here in
    let same : cell ≡ wanted = cc in
    let place : m ≡ number s.frame c = ap (number s.frame) same in
    stays (holding s pins) ls last more (number s.frame c) (λ now. must_not cell.on (sym (asked_now s.pins pins m cell.on g) ∙ ap (pinned pins) place ∙ now)) free
held_by s (l ∷ ls) last c (cell, pins, form, is, more) (inr later) free = held_by (holding s pins) ls last c more later free

-- and no others
held_only : (s : SpaceSaid) (ls : List (List ℕ)) (last : SpaceSaid) (c : Fixing) → FixForms s ls last → Inside s.frame c → pinned s.pins (number s.frame c) ≡ Free → (pinned last.pins (number s.frame c) ≡ Free → ⊥) → Fixes c ls
held_only s [] last c e inside free h = absurd (h (ap (λ (t : SpaceSaid). pinned t.pins (number s.frame c)) (sym e) ∙ free))
held_only s (l ∷ ls) last c (cell, pins, form, is, more) inside free h =
    let g = granted s.pins pins s.frame cell is in
    let m = number s.frame cell in
    let n = number s.frame c in
    ⊎_elim
    (λ yes. let e = same_cell s.frame cell c g.0 inside (eqb-true m n yes) in
    let same : cell ≡ record { x = c.x; y = c.y; t = c.t; on = cell.on } = ap (λ x. record { x = x; y = cell.y; t = cell.t; on = cell.on }) e.0 ∙ ap (λ y. record { x = c.x; y = y; t = cell.t; on = cell.on }) e.1 ∙ ap (λ t. record { x = c.x; y = c.y; t = t; on = cell.on }) e.2 in
    inl (cell.on, subst (λ (d : Fixing). FixForm d l) same form))
    (λ no. inr (held_only (holding s pins) ls last c more inside (asked_still s.pins pins m cell.on g.1 n (λ same. let yes = eq-eqb m n (sym same) in absurd (cc)) ∙ free) h))
    (cases_Bool (eqb m n))

-- why one cell more is refused
module _ (s : SpaceSaid) (ls : List (List ℕ)) (last : SpaceSaid) (forms : FixForms s ls last) (empty : s.pins ≡ []) (c : Fixing) where
  abbrev n : ℕ
  n = number s.frame c

  at_first : pinned s.pins n ≡ Free
  at_first = ap (λ l. pinned l n) empty

  in_frame : fixed_number last.pins c.on (numbered last.frame c) ≡ fixed_number last.pins c.on (numbered s.frame c)
  in_frame = ap (λ f. fixed_number last.pins c.on (numbered f c)) (frame_kept s ls last forms)

  in_box : Inside s.frame c → fixed_number last.pins c.on (numbered last.frame c) ≡ pinned_too last.pins n c.on (pinned last.pins n)
  in_box inside = in_frame ∙ ap (fixed_number last.pins c.on) (inside_number s.frame c inside)

  by_tie : (fault : FixFault) → Inside s.frame c → (pinned last.pins n ≡ Free) ⊎ (pinned last.pins n ≡ Free → ⊥) → pinned_too last.pins n c.on (pinned last.pins n) ≡ Err fault → NoFix fault s.frame ls c
  by_tie fault inside (inl free) e =
      let tried : pinned_too last.pins n c.on Free ≡ Err fault = sym (ap (pinned_too last.pins n c.on) free) ∙ e in
      let new : List Pin = last.pins ++ (record { cell = n; on = c.on } ∷ []) in
      ⊎_elim
      (λ room. let no : Ok new ≡ Err fault = sym (cond-true (ltb (length last.pins) 64) (Ok new) (Err Full) (lt-ltb (length last.pins) 64 room)) ∙ tried in absurd (cc))
      (λ full. let is : Err Full ≡ Err fault = sym (cond-false (ltb (length last.pins) 64) (Ok new) (Err Full) (le-ltb (length last.pins) 64 full)) ∙ tried in
      let same : Full ≡ fault = cc in
      let count = counted s ls last forms in
      let none : length s.pins ≡ 0 = ap length empty in
      let most = few s ls last forms (omega (arith, none)) in
      subst (λ g. NoFix g s.frame ls c) same (inside, λ fixes. held_by s ls last c forms fixes free, omega (arith, count, none, most, full)))
      (cases_lt (length last.pins) 64)
  by_tie fault inside (inr held) e =
      let is : Err Held ≡ Err fault = sym (held_already last.pins n c.on (pinned last.pins n) held) ∙ e in
      let same : Held ≡ fault = cc in
      subst (λ g. NoFix g s.frame ls c) same (inside, held_only s ls last c forms inside at_first held)

  pub fix_refused : (fault : FixFault) → fixed_number last.pins c.on (numbered last.frame c) ≡ Err fault → NoFix fault s.frame ls c
  fix_refused fault e =
      ⊎_elim
      (λ inside. by_tie fault inside (tie_or (pinned last.pins n)) (sym (in_box inside) ∙ e))
      (λ out. let is : Err NoCell ≡ Err fault = sym (in_frame ∙ ap (fixed_number last.pins c.on) (outside_number s.frame c out)) ∙ e in let same : NoCell ≡ fault = cc in subst (λ g. NoFix g s.frame ls c) same out)
      (inside_or s.frame c)

  pub refused_fix : (fault : FixFault) → NoFix fault s.frame ls c → fixed_number last.pins c.on (numbered last.frame c) ≡ Err fault
  refused_fix NoCell out = in_frame ∙ ap (fixed_number last.pins c.on) (outside_number s.frame c out)
  refused_fix Held (inside, fixes) = in_box inside ∙ held_already last.pins n c.on (pinned last.pins n) (held_by s ls last c forms fixes)
  refused_fix Full (inside, none, full) =
      let new : List Pin = last.pins ++ (record { cell = n; on = c.on } ∷ []) in
      let count = counted s ls last forms in
      let free : pinned last.pins n ≡ Free = ⊎_elim (λ free. free) (λ held. absurd (none (held_only s ls last c forms inside at_first held))) (tie_or (pinned last.pins n)) in
      in_box inside ∙ ap (pinned_too last.pins n c.on) free ∙ cond-false (ltb (length last.pins) 64) (Ok new) (Err Full) (le-ltb (length last.pins) 64 (omega (arith, count, full)))
