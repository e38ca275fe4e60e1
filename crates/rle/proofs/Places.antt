-- Lines and columns count what stands before.
use Rattle.std.proofs.Common.{◌≡◌, ℕ, ◌+◌, ◌-◌, eqb, List, [], ◌∷◌, ◌++◌, length, take, sym, refl, ap, ◌∙◌, subst, ⊎_elim, arith, length-append}
use Rattle.std.specs.List.{flat_map}
use Rattle.std.proofs.Math.Seq.{take-append_seam}
use Rattle.std.proofs.lemmas.Bool.{cases_Bool, cond-true, cond-false, eqb-true, not_from_false, not-true}
use Rattle.std.proofs.lemmas.List.{append_assoc, append-nil}
use Rattle.rle.specs.Forms.{Each, on_line, ended}
use Rattle.rle.specs.declared.fault.ReadCause.{ReadCause}
use Rattle.rle.specs.declared.fault.ReadCause.TheVariants.{TooLong, Byte, Size, Outside, Ended}
use Rattle.rle.specs.Laws.{AtFault, OnLines, Placed, PlacesCount}
use Rattle.rle.specs.Spots.{Spot, corner, next_spot, spot_past, spot_before}
use Rattle.rle.proofs.Lines.{each_both}

pub spot_append : (s : Spot) (xs ys : List ℕ) → spot_past s (xs ++ ys) ≡ spot_past (spot_past s xs) ys
unfolding spot_past
spot_append s [] ys = refl
spot_append s (x ∷ xs) ys = spot_append (next_spot s x) xs ys

abbrev spot : ℕ → ℕ → Spot
spot l c = record { line = l; column = c }

-- bytes after a part of a line, as whole lines and a part of one, and where what follows them stands
abbrev Counts : ℕ → List ℕ → List ℕ → Type 0
Counts l front bytes =
    (lines : List (List ℕ)) × (part : List ℕ) × OnLines lines × Each on_line part × (front ++ bytes ≡ flat_map ended lines ++ part)
    × (spot_past (spot l (length front + 1)) bytes ≡ spot (l + length lines) (length part + 1))

counts : (l : ℕ) (front bytes : List ℕ) → Each on_line front → Counts l front bytes
unfolding spot_past
counts l front [] h = let same : l ≡ l + 0 = omega arith in ([], front, tt, h, append-nil front, ap (λ x. spot x (length front + 1)) same)
counts l front (b ∷ bytes) h =
    let here = spot l (length front + 1) in
    ⊎_elim
    (λ e.
    let newline = eqb-true b 10 e in
    let more = counts (l + 1) [] bytes tt in
    let sum : (l + 1) + length more.0 ≡ l + length (front ∷ more.0) = omega arith in (
      front ∷ more.0,
      more.1,
      (h, more.2),
      more.3,
      ap (λ x. front ++ (x ∷ bytes)) newline ∙ ap (λ x. front ++ (10 ∷ x)) more.4 ∙ sym (append_assoc front (10 ∷ []) (flat_map ended more.0 ++ more.1)) ∙ sym (append_assoc (ended front) (flat_map ended more.0) more.1),
      ap (λ x. spot_past x bytes) (cond-true (eqb b 10) (spot (l + 1) 1) (spot l (length front + 1 + 1)) e) ∙ more.5 ∙ ap (λ x. spot x (length more.1 + 1)) sum,
    ))
    (λ e.
    let more = counts l (front ++ (b ∷ [])) bytes (each_both on_line front (b ∷ []) h (not_from_false (eqb b 10) e, tt)) in
    let longer : length front + 1 + 1 ≡ length (front ++ (b ∷ [])) + 1 = omega (arith, length-append front (b ∷ [])) in (
      more.0,
      more.1,
      more.2,
      more.3,
      sym (append_assoc front (b ∷ []) bytes) ∙ more.4,
      ap (λ x. spot_past x bytes) (cond-false (eqb b 10) (spot (l + 1) 1) (spot l (length front + 1 + 1)) e ∙ ap (spot l) longer) ∙ more.5,
    ))
    (cases_Bool (eqb b 10))

-- what stands before the last bytes
before_last : (before at : List ℕ) → take (length (before ++ at) - length at) (before ++ at) ≡ before
before_last before at =
    let many : length (before ++ at) - length at ≡ length before = omega (arith, length-append before at) in
    ap (λ n. take n (before ++ at)) many ∙ take-append_seam before at

-- where the last bytes start is past what stands before them
pub spot_after : (before at : List ℕ) → spot_before (before ++ at) at ≡ spot_past corner before
spot_after before at = ap (spot_past corner) (before_last before at)

-- in one line only the column goes on
pub spot_on_line : (s : Spot) (u : List ℕ) → Each on_line u → spot_past s u ≡ spot s.line (s.column + length u)
unfolding spot_past
spot_on_line s [] h = let same : s.column + 0 ≡ s.column = omega arith in ap (spot s.line) (sym same)
spot_on_line s (b ∷ u) h =
    let sum : (s.column + 1) + length u ≡ s.column + length (b ∷ u) = omega arith in
    ap (λ x. spot_past x u) (cond-false (eqb b 10) (spot (s.line + 1) 1) (spot s.line (s.column + 1)) (not-true (eqb b 10) h.0)) ∙ spot_on_line (spot s.line (s.column + 1)) u h.1 ∙ ap (spot s.line) sum

pub places_count : PlacesCount
places_count before at =
    let all = counts 1 [] before tt in
    let is : spot_before (before ++ at) at ≡ spot (1 + length all.0) (length all.1 + 1) = spot_after before at ∙ all.5 in
    record {
      lines = all.0;
      part = all.1;
      lined = all.2;
      parted = all.3;
      whole = ap (λ x. x ++ at) all.4 ∙ append_assoc (flat_map ended all.0) all.1 at;
      line = let e : (spot_before (before ++ at) at).line ≡ 1 + length all.0 = ap (λ (s : Spot). s.line) is in omega (arith, e);
      column = ap (λ (s : Spot). s.column) is;
    }

-- the bytes from a fault on are the last of the text
pub fault_last : (text : List ℕ) (cause : ReadCause) (at : List ℕ) → AtFault text cause at → (before : List ℕ) × (text ≡ before ++ at)
fault_last text TooLong at h = ([], sym h.1)
fault_last text Byte at h = (h.before, h.whole)
fault_last text Size at h = let front = flat_map ended h.remarks in (front ++ h.before, h.whole ∙ sym (append_assoc front h.before at))
fault_last text Outside at h =
    let front = flat_map ended h.remarks in
    (front ++ (h.line ++ (10 ∷ h.before)), h.whole ∙ ap (λ x. front ++ x) (sym (append_assoc h.line (10 ∷ h.before) at)) ∙ sym (append_assoc front (h.line ++ (10 ∷ h.before)) at))
fault_last text Ended at h = (text, sym (append-nil text) ∙ ap (λ x. text ++ x) (sym h.last))

pub fault_placed : (text : List ℕ) (cause : ReadCause) (at : List ℕ) → AtFault text cause at → Placed text at (spot_before text at)
fault_placed text cause at h = let l = fault_last text cause at h in subst (λ x. Placed x at (spot_before x at)) (sym l.1) (places_count l.0 at)
