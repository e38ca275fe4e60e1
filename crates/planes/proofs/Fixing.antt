-- What a fix comes to: the pins with one more, of which the first of each cell is found.
use Rattle.std.proofs.Common.{◌≡◌, ◌==◌, ℕ, Bool, true, false, List, [], ◌∷◌, ◌++◌, length, Option, Some, None, Err, sym, refl, ap, ◌∙◌}
use Rattle.std.proofs.lemmas.Bool.{cond-true, cond-false, lt-ltb, le-ltb, ne_eqb, eq-eqb, both_ways}
use Rattle.std.proofs.lemmas.List.{length-append}
use Rattle.std.proofs.lemmas.List.Folds.{find-append}
use Rattle.std.specs.List.{find}
use Rattle.std.specs.Option.{option_or}
use Rattle.planes.specs.declared.fault.FixFault.TheVariants.{Held}
use Rattle.planes.specs.declared.pins.Pin.{Pin}
use Rattle.planes.specs.declared.tie.Tie.{Tie}
use Rattle.planes.specs.declared.tie.Tie.TheVariants.{Free, Off, On, Same}
use Rattle.planes.specs.Fixes.{AsksToo, FixesStand}
use Rattle.planes.specs.Layers.{must}
use Rattle.planes.specs.Pins.{asked_by, fixed_number, pinned, pinned_too}

-- whether nothing is asked
abbrev is_free : Tie → Bool
is_free Free = true
is_free Off = false
is_free On = false
is_free (Same other) = false

must_asks : (on : Bool) → is_free (must on) ≡ false
must_asks true = refl
must_asks false = refl

-- where nothing is asked there is no pin
free_none : (o : Option Pin) → asked_by o ≡ Free → o ≡ None
free_none None e = refl
free_none (Some p) e = absurd (both_ways (is_free (must p.on)) (must_asks p.on) (ap is_free e))

or_none : (o : Option Pin) → option_or o None ≡ o
or_none None = refl
or_none (Some p) = refl

held_already : (pins : List Pin) (cell : ℕ) (on : Bool) (t : Tie) → (t ≡ Free → ⊥) → pinned_too pins cell on t ≡ Err Held
held_already pins cell on Free h = absurd (h refl)
held_already pins cell on Off h = refl
held_already pins cell on On h = refl
held_already pins cell on (Same other) h = refl

module _ (pins : List Pin) (cell : ℕ) (on : Bool) where
  abbrev new : List Pin
  new = record { cell = cell; on = on } ∷ []

  asked : pinned pins cell ≡ Free → pinned (pins ++ new) cell ≡ must on
  asked e =
      ap asked_by (find-append (λ p. p.cell == cell) pins new
      ∙ ap (λ o. option_or o (find (λ p. p.cell == cell) new)) (free_none _ e)
      ∙ cond-true (cell == cell) (Some (record { cell = cell; on = on })) None (eq-eqb cell cell refl))

  others : (c : ℕ) → (c ≡ cell → ⊥) → pinned (pins ++ new) c ≡ pinned pins c
  others c h =
      ap asked_by (find-append (λ p. p.cell == c) pins new
      ∙ ap (option_or (find (λ p. p.cell == c) pins)) (cond-false (cell == c) (Some (record { cell = cell; on = on })) None (ne_eqb cell c (λ e. h (sym e))))
      ∙ or_none _)

  pub asks_too : pinned pins cell ≡ Free → AsksToo pins (pins ++ new) cell on
  asks_too e = record { asked = asked e; others = others; one_more = length-append pins new }

pub fixes_right : FixesStand
fixes_right f pins x y t on = record {
  no_cell = λ e. ap (fixed_number pins on) e;
  held = λ cell e h. ap (fixed_number pins on) e ∙ held_already pins cell on (pinned pins cell) h;
  full = λ cell e free l. ap (fixed_number pins on) e ∙ ap (pinned_too pins cell on) free ∙ cond-false _ _ _ (le-ltb (length pins) 64 l);
  granted = λ cell e free l. (pins ++ record { cell = cell; on = on } ∷ [], ap (fixed_number pins on) e ∙ ap (pinned_too pins cell on) free ∙ cond-true _ _ _ (lt-ltb (length pins) 64 l), asks_too pins cell on free);
}
