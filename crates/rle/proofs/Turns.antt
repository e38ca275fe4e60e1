-- Bytes that come in turn: what reading them shows, and that their spellings are read.
use Rattle.std.proofs.Common.{◌≡◌, ℕ, Bool, true, false, eqb, List, [], ◌∷◌, ◌++◌, sym, refl, ap, ◌∙◌, subst}
use Rattle.std.proofs.lemmas.List.{append_assoc}
use Rattle.std.proofs.lemmas.Bool.{cond-true, cond-false, eq-eqb, eqb-true}
use Rattle.lines.specs.Lines.{blank}
use Rattle.rle.specs.declared.fault.ReadCause.TheVariants.{TooLong, Byte, Size, Outside, Ended}
use Rattle.rle.specs.declared.phase.Step.{Step}
use Rattle.rle.specs.Forms.{Gap, Spells}
use Rattle.rle.specs.Scans.{Scan, good, bad, and_then, past, gap, byte_of, is_loose, in_turn}
use Rattle.rle.proofs.Pasts.{gap_split, gap_stays, past_over, past_stop, past_past}
use Rattle.rle.proofs.Seen.{Seen, Same}

-- the bytes of some steps without any blanks
abbrev pub plain : List Step → List ℕ
plain [] = []
plain (s ∷ ss) = byte_of s ∷ plain ss

no_gap : (loose : Bool) → Gap loose []
no_gap true = tt
no_gap false = refl

pub spells_plain : (ss : List Step) → Spells ss (plain ss)
spells_plain [] = refl
spells_plain (s ∷ ss) = ([], plain ss, no_gap (is_loose s), spells_plain ss, refl)

abbrev pub Spelled : List Step → Unit {0} → List ℕ → Type 0
Spelled ss a u = Spells ss u

-- the first byte is the step's
this_is : (s : Step) (ss : List Step) (b : ℕ) (t : List ℕ) → eqb b (byte_of s) ≡ true → in_turn (s ∷ ss) (b ∷ t) ≡ in_turn ss (gap (is_loose s) t)
unfolding in_turn
this_is s ss b t e = ap (λ x. and_then x (λ _ rest. in_turn ss (gap (is_loose s) rest))) (cond-true (eqb b (byte_of s)) (good tt t) (bad Byte (b ∷ t)) e)

this_isnt : (s : Step) (ss : List Step) (b : ℕ) (t : List ℕ) → eqb b (byte_of s) ≡ false → in_turn (s ∷ ss) (b ∷ t) ≡ bad Byte (b ∷ t)
unfolding in_turn
this_isnt s ss b t e = ap (λ x. and_then x (λ _ rest. in_turn ss (gap (is_loose s) rest))) (cond-false (eqb b (byte_of s)) (good tt t) (bad Byte (b ∷ t)) e)

-- what the steps after the first show, shown of all of them
after_one : (s : Step) (ss : List Step) (b : ℕ) (t : List ℕ) → eqb b (byte_of s) ≡ true → (r : Scan (Unit {0})) → Seen Same (Spelled ss) (in_turn ss) (gap (is_loose s) t) r → Seen Same (Spelled (s ∷ ss)) (in_turn (s ∷ ss)) (b ∷ t) r
after_one s ss b t e (good a rest) h =
    let g = gap_split (is_loose s) t in
    let same = eqb-true b (byte_of s) e in
    let self = eq-eqb (byte_of s) (byte_of s) refl in (
      byte_of s ∷ (g.0 ++ h.0),
      (g.0, h.0, g.1, h.1, refl),
      ap (λ x. x ∷ t) same ∙ ap (λ x. byte_of s ∷ x) (g.2 ∙ ap (λ x. g.0 ++ x) h.2 ∙ sym (append_assoc g.0 h.0 rest)),
      λ c r v f.
          let here = h.3 c r v f in (
            here.0,
            this_is s ss (byte_of s) ((g.0 ++ h.0) ++ (c ∷ v)) self
                ∙ ap (λ x. in_turn ss (gap (is_loose s) x)) (append_assoc g.0 h.0 (c ∷ v))
                ∙ ap (in_turn ss) (gap_stays (is_loose s) g.0 t h.0 c r v g.1 (h.2 ∙ ap (λ x. h.0 ++ x) f))
                ∙ here.1,
            here.2,
          ),
    )
after_one s ss b t e (bad TooLong rest) h = absurd h
after_one s ss b t e (bad Byte rest) h =
    let g = gap_split (is_loose s) t in
    let same = eqb-true b (byte_of s) e in
    let self = eq-eqb (byte_of s) (byte_of s) refl in (
      byte_of s ∷ (g.0 ++ h.0),
      h.1,
      h.2,
      h.3,
      ap (λ x. x ∷ t) same ∙ ap (λ x. byte_of s ∷ x) (g.2 ∙ ap (λ x. g.0 ++ x) h.4 ∙ sym (append_assoc g.0 h.0 rest)),
      (tt, h.5.1, (g.0, h.0 ++ h.5.1, g.1, h.5.2, ap (λ x. byte_of s ∷ x) (append_assoc g.0 h.0 h.5.1))),
      λ v.
          this_is s ss (byte_of s) ((g.0 ++ h.0) ++ (h.1 ∷ v)) self
          ∙ ap (λ x. in_turn ss (gap (is_loose s) x)) (append_assoc g.0 h.0 (h.1 ∷ v))
          ∙ ap (in_turn ss) (gap_stays (is_loose s) g.0 t h.0 h.1 h.2 v g.1 (h.4 ∙ ap (λ x. h.0 ++ x) h.3))
          ∙ h.6 v,
    )
after_one s ss b t e (bad Size rest) h = tt
after_one s ss b t e (bad Outside rest) h = absurd h
after_one s ss b t e (bad Ended rest) h =
    let g = gap_split (is_loose s) t in
    let left = gap (is_loose s) t in
    let same = eqb-true b (byte_of s) e in
    let split : (b ∷ t) ++ h.1.1 ≡ byte_of s ∷ (g.0 ++ (left ++ h.1.1)) = ap (λ x. (x ∷ t) ++ h.1.1) same ∙ ap (λ x. byte_of s ∷ (x ++ h.1.1)) g.2 ∙ ap (λ x. byte_of s ∷ x) (append_assoc g.0 left h.1.1) in
    (h.0, (tt, h.1.1, (g.0, left ++ h.1.1, g.1, h.1.2, split)))

by_first : (s : Step) (ss : List Step) (b : ℕ) (t : List ℕ) (x : Bool) → eqb b (byte_of s) ≡ x → Seen Same (Spelled ss) (in_turn ss) (gap (is_loose s) t) (in_turn ss (gap (is_loose s) t)) → Seen Same (Spelled (s ∷ ss)) (in_turn (s ∷ ss)) (b ∷ t) (in_turn (s ∷ ss) (b ∷ t))
by_first s ss b t true e h =
    let P : Scan (Unit {0}) → Type 0 = Seen Same (Spelled (s ∷ ss)) (in_turn (s ∷ ss)) (b ∷ t) in
    subst P (sym (this_is s ss b t e)) (after_one s ss b t e (in_turn ss (gap (is_loose s) t)) h)
by_first s ss b t false e h =
    let P : Scan (Unit {0}) → Type 0 = Seen Same (Spelled (s ∷ ss)) (in_turn (s ∷ ss)) (b ∷ t) in
    subst P (sym (this_isnt s ss b t e)) ([], b, t, refl, refl, (tt, plain (s ∷ ss), spells_plain (s ∷ ss)), λ v. this_isnt s ss b v e)

pub see_turn : (ss : List Step) (t : List ℕ) → Seen Same (Spelled ss) (in_turn ss) t (in_turn ss t)
unfolding in_turn
see_turn [] t = ([], refl, refl, λ b r v e. (tt, refl, refl))
see_turn (s ∷ ss) [] = (refl, (tt, plain (s ∷ ss), spells_plain (s ∷ ss)))
see_turn (s ∷ ss) (b ∷ t) = by_first s ss b t (eqb b (byte_of s)) refl (see_turn ss (gap (is_loose s) t))

-- the bytes of steps are no blanks
abbrev pub Solid : List Step → Type 0
Solid [] = Unit {0}
Solid (s ∷ ss) = (blank (byte_of s) ≡ false) × Solid ss

-- what follows begins with no blank
starts : (ss : List Step) (u v : List ℕ) → Solid ss → Spells ss u → past blank v ≡ v → past blank (u ++ v) ≡ u ++ v
starts [] u v solid h e = ap (λ x. past blank (x ++ v)) h ∙ e ∙ ap (λ x. x ++ v) (sym h)
starts (s ∷ ss) u v solid h e =
    ap (λ x. past blank (x ++ v)) h.4 ∙ past_stop blank (byte_of s) ((h.0 ++ h.1) ++ v) solid.0 ∙ ap (λ x. x ++ v) (sym h.4)

over_gap : (loose : Bool) (g x : List ℕ) → Gap loose g → past blank x ≡ x → gap loose (g ++ x) ≡ x
over_gap true g x h e = past_over blank g x h ∙ e
over_gap false g x h e = ap (λ y. y ++ x) h

-- a spelling is read, before anything that does not begin with a blank
pub turn_reads : (ss : List Step) (u v : List ℕ) → Solid ss → Spells ss u → past blank v ≡ v → in_turn ss (u ++ v) ≡ good tt v
unfolding in_turn
turn_reads [] u v solid h e = ap (λ x. good tt (x ++ v)) h
turn_reads (s ∷ ss) u v solid h e =
    ap (λ x. in_turn (s ∷ ss) (x ++ v)) h.4
    ∙ this_is s ss (byte_of s) ((h.0 ++ h.1) ++ v) (eq-eqb (byte_of s) (byte_of s) refl)
    ∙ ap (λ x. in_turn ss (gap (is_loose s) x)) (append_assoc h.0 h.1 v)
    ∙ ap (in_turn ss) (over_gap (is_loose s) h.0 (h.1 ++ v) h.2 (starts ss h.1 v solid.1 h.3 e))
    ∙ turn_reads ss h.1 v solid.1 h.3 e

-- after a loose step no blank is left
abbrev pub EndsLoose : List Step → Type 0
EndsLoose [] = ⊥
EndsLoose (s ∷ []) = is_loose s ≡ true
EndsLoose (s ∷ z ∷ ss) = EndsLoose (z ∷ ss)

past_by : (s : Step) (b : ℕ) (t rest : List ℕ) (x : Bool) → eqb b (byte_of s) ≡ x → is_loose s ≡ true → in_turn (s ∷ []) (b ∷ t) ≡ good tt rest → past blank rest ≡ rest
unfolding in_turn
past_by s b t rest true e l h =
    let here : good tt (gap (is_loose s) t) ≡ good tt rest = sym (this_is s [] b t e) ∙ h in
    let same : past blank t ≡ rest = sym (ap (λ y. gap y t) l) ∙ (cc) in
    subst (λ y. past blank y ≡ y) same (past_past blank t)
past_by s b t rest false e l h = let z : bad Byte (b ∷ t) ≡ good tt rest = sym (this_isnt s [] b t e) ∙ h in cc

other_steps : (s z : Step) (ss : List Step) (b : ℕ) (t rest : List ℕ) (x : Bool) → eqb b (byte_of s) ≡ x → in_turn (s ∷ z ∷ ss) (b ∷ t) ≡ good tt rest → in_turn (z ∷ ss) (gap (is_loose s) t) ≡ good tt rest
other_steps s z ss b t rest true e h = sym (this_is s (z ∷ ss) b t e) ∙ h
other_steps s z ss b t rest false e h = let w : bad Byte (b ∷ t) ≡ good tt rest = sym (this_isnt s (z ∷ ss) b t e) ∙ h in cc

pub turn_past : (ss : List Step) → EndsLoose ss → (t rest : List ℕ) → in_turn ss t ≡ good tt rest → past blank rest ≡ rest
unfolding in_turn
turn_past [] l t rest h = absurd l
turn_past (s ∷ []) l [] rest h = cc
turn_past (s ∷ []) l (b ∷ t) rest h = past_by s b t rest (eqb b (byte_of s)) refl l h
turn_past (s ∷ z ∷ ss) l [] rest h = cc
turn_past (s ∷ z ∷ ss) l (b ∷ t) rest h = turn_past (z ∷ ss) l (gap (is_loose s) t) rest (other_steps s z ss b t rest (eqb b (byte_of s)) refl h)
