-- The find, cell by cell, and its text.
use Rattle.std.specs.Prelude.{unwrap_or}
use Rattle.std.proofs.Common.{◌≡◌, ℕ, zero, suc, ◌+◌, ◌*◌, ◌<◌, ◌≤◌, Bool, false, List, [], ◌∷◌, ◌++◌, map, length, take, get_or, set, slice_index, Some, Ok, Err, Option, Result, refl, sym, ap, ◌∙◌, subst, inl, inr, arith}
use Rattle.std.proofs.lemmas.Bool.{cases_eq, cases_lt}
use Rattle.std.proofs.Math.Nat.{le-mul_of_pos_right, mul-le-mul_right}
use Rattle.std.proofs.lemmas.Grind.{get_or-set_at}
use Rattle.std.proofs.lemmas.List.{ext_get_or, get_or-map, get_or-set_other, get_or-take, length-map, length-take}
use Rattle.codes.specs.declared.value.Value.{Value}
use Rattle.rules.specs.declared.rule.Rule.{Rule}
use Rattle.rules.specs.Forms.{written}
use Rattle.rle.specs.Back.{ReadsAs}
use Rattle.rle.specs.Marks.{marks_from}
use Rattle.rle.specs.Texts.{body_text, heading_text, pattern_text}
use Rattle.rle.proofs.Written.{round_trip}
use Rattle.frames.specs.declared.frame.Cell.{Cell}
use Rattle.frames.specs.declared.frame.Frame.{Frame}
use Rattle.frames.specs.Frames.{cells}
use Rattle.rolls.specs.Rolls.{Surface}
use Rattle.systems.specs.Systems.{at}
use Rattle.settling.specs.Boards.{labels_of, values_of}
use Rattle.systems.specs.Spaces.{spread}
use Rattle.pages.specs.Pages.{Written}
use Rattle.pages.specs.declared.fault.PageFault.{PageFault}
use Rattle.pages.specs.declared.fault.PageFault.TheVariants.{Short}
use Rattle.search.specs.declared.fault.WriteFault.{WriteFault}
use Rattle.search.specs.declared.fault.WriteFault.TheVariants.{Page}
use Rattle.std.specs.Option.{option_map_or}
use Rattle.search.specs.Calls.{IsOpen, WriteText, cell_answer, cell_found, find_of, found_by, text_of}
use Rattle.search.specs.Opening.{Searches, found_cells, found_text}
use Rattle.search.specs.declared.search.Search.{Search}
use Rattle.search.specs.Stacks.{find_in, is_on}
use Rattle.search.specs.declared.record.Record.{Record}

-- ---- a cell of the find
pub on_at : (ws : List Value) (x : ℕ) → get_or (find_in ws) x false ≡ is_on (at ws x)
on_at [] x = refl
on_at (w ∷ ws) zero = refl
on_at (w ∷ ws) (suc x) = on_at ws x

pub cell_on : (r : Record) (cell class : ℕ) → class ≡ slice_index (labels_of r.board) cell → cell < length (labels_of r.board) → is_on (at (values_of r.board) class) ≡ get_or (found_cells r) cell false
cell_on r cell class e l =
    ap (λ (x : ℕ). is_on (at (values_of r.board) x)) e
    ∙ sym (on_at (values_of r.board) _)
    ∙ sym (get_or-map (λ class. get_or (find_in (values_of r.board)) class false) (labels_of r.board) cell 0 false l)

-- ---- the same cells have the same text
pub text_same : (w h : ℕ) (name : List ℕ) (xs ys : List Bool) → w * h ≤ length xs → w * h ≤ length ys → ((k : ℕ) → k < w * h → get_or xs k false ≡ get_or ys k false) → pattern_text w h name xs ≡ pattern_text w h name ys
text_same w h name xs ys l m same = ap (λ (cells : List Bool). heading_text w h name ++ body_text (marks_from w w cells)) front
  where
    front : take (w * h) xs ≡ take (w * h) ys
    front =
        ext_get_or false (take (w * h) xs) (take (w * h) ys)
        (omega (arith, length-take (w * h) xs, length-take (w * h) ys))
        (λ k q. get_or-take (w * h) xs k false (omega (arith, length-take (w * h) xs)) ∙ same k (omega (arith, length-take (w * h) xs)) ∙ sym (get_or-take (w * h) ys k false (omega (arith, length-take (w * h) xs))))

-- one cell more is set
pub set_more : (xs : List Bool) (n : ℕ) (b : Bool) (ys : List Bool) → n < length xs → b ≡ get_or ys n false → ((k : ℕ) → k < n → get_or xs k false ≡ get_or ys k false) → (k : ℕ) → k < n + 1 → get_or (set xs n b) k false ≡ get_or ys k false
set_more xs n b ys l e h k m =
    elim (cases_eq k n) [
      | inl q ↦ get_or-set_at xs n k b false q l ∙ e ∙ ap (λ (j : ℕ). get_or ys j false) (sym q)
      | inr o ↦ get_or-set_other xs n k b false o ∙ h k (not_last o)
    ]
  where
    not_last : (k ≡ n → ⊥) → k < n
    not_last o = elim (cases_lt k n) [ inl q ↦ q | inr q ↦ absurd (o (omega arith)) ]

-- the places of a box, and that its cells are as many or more
places_few : (f : Frame) → f.width * f.height ≤ 1024
places_few f = omega (arith, mul-le-mul_right f.height f.narrow, f.low)

pub places_within : (f : Frame) → f.width * f.height ≤ cells f
places_within f = le-mul_of_pos_right (f.width * f.height) f.lasting

-- the cells that were asked have the text of the find
pub asked_text : (r : Record) (pattern : List Bool) → length pattern ≡ 1024 → ((k : ℕ) → k < r.frame.width * r.frame.height → get_or pattern k false ≡ get_or (found_cells r) k false) →
    pattern_text r.frame.width r.frame.height (written r.rule.births r.rule.survivals) pattern ≡ found_text r
asked_text r pattern l same = text_same r.frame.width r.frame.height (written r.rule.births r.rule.survivals) pattern (found_cells r) (omega (arith, l, few)) (omega (arith, few, enough)) same
  where
    few : r.frame.width * r.frame.height ≤ 1024
    few = places_few r.frame

    enough : r.frame.width * r.frame.height ≤ length (found_cells r)
    enough = omega (arith, places_within r.frame, r.classed, length-map (labels_of r.board) (λ class. get_or (find_in (values_of r.board)) class false))

pub text_ok : (old text text' new : List ℕ) (at end : ℕ) → text' ≡ text → Written old at text' new (Ok end) → WriteText text old at new (Ok end)
text_ok old text text' new at end e w = subst (λ (t : List ℕ). Written old at t new (Ok end)) e w

pub text_err : (old text text' new : List ℕ) (at : ℕ) (fault : PageFault) (result : Result ℕ WriteFault) → text' ≡ text → Written old at text' new (Err fault) → result ≡ Err (Page fault) → WriteText text old at new result
text_err old text text' new at Short result e w q = subst (WriteText text old at new) (sym q) (refl, subst (λ (t : List ℕ). Written old at t new (Err Short)) e w)

-- ---- of an opened search
some_same : {r r' : Record} → Some r ≡ Some r' → r ≡ r'
some_same {r} e = ap (λ (o : Option Record). unwrap_or o r) e

-- what an opened search holds
pub opened_by : {q : Search} {s : Surface} {rule : Rule} {cell : ℕ → ℕ} {r : Record} → IsOpen q s rule cell → q.record ≡ Some r → Searches r s rule cell
opened_by {s = s} {rule = rule} {cell = cell} {r = r} (r', e, h) f = subst (λ (r : Record). Searches r s rule cell) (some_same (sym e ∙ f)) h

-- its text is that of the find, and reads as the find
module _ (r : Record) (s : Surface) (rule : Rule) (cell : ℕ → ℕ) (h : Searches r s rule cell) where
  pub text_is : found_text r ≡ pattern_text s.frame.width s.frame.height (written rule.births rule.survivals) (spread s (find_in (values_of r.board)))
  text_is =
      ap (λ (f : Frame). pattern_text f.width f.height (written r.rule.births r.rule.survivals) (found_cells r)) h.frame
      ∙ ap (λ (t : Rule). pattern_text s.frame.width s.frame.height (written t.births t.survivals) (found_cells r)) h.same_rule
      ∙ ap (λ (classes : List ℕ). pattern_text s.frame.width s.frame.height (written rule.births rule.survivals) (map (λ class. get_or (find_in (values_of r.board)) class false) classes)) h.classes

  pub reads_as : ReadsAs s.frame.width s.frame.height (written rule.births rule.survivals) (spread s (find_in (values_of r.board))) (found_text r)
  reads_as =
      subst (ReadsAs s.frame.width s.frame.height (written rule.births rule.survivals) (spread s (find_in (values_of r.board)))) (sym text_is)
      (round_trip s.frame.width s.frame.height rule.births rule.survivals (spread s (find_in (values_of r.board))) (omega arith) (omega arith) (omega arith) (omega arith))

-- the same of the search
pub opened_text : (q : Search) (s : Surface) (rule : Rule) (cell : ℕ → ℕ) → IsOpen q s rule cell →
    text_of q ≡ pattern_text s.frame.width s.frame.height (written rule.births rule.survivals) (spread s (find_of q))
opened_text q s rule cell (r, e, h) =
    ap (λ (o : Option Record). option_map_or found_text o []) e
    ∙ text_is r s rule cell h
    ∙ ap (λ (o : Option Record). pattern_text s.frame.width s.frame.height (written rule.births rule.survivals) (spread s (option_map_or (λ (r : Record). find_in (values_of r.board)) o []))) (sym e)

pub opened_reads : (q : Search) (s : Surface) (rule : Rule) (cell : ℕ → ℕ) → IsOpen q s rule cell →
    ReadsAs s.frame.width s.frame.height (written rule.births rule.survivals) (spread s (find_of q)) (text_of q)
opened_reads q s rule cell (r, e, h) =
    subst (λ (o : Option Record). ReadsAs s.frame.width s.frame.height (written rule.births rule.survivals) (spread s (option_map_or (λ (r : Record). find_in (values_of r.board)) o [])) (option_map_or found_text o [])) (sym e) (reads_as r s rule cell h)

-- a cell is that of the find
pub opened_cell : (q : Search) (s : Surface) (rule : Rule) (cell : ℕ → ℕ) → IsOpen q s rule cell → (c : Cell) → cell_answer q.record c ≡ cell_found (found_by q) s.frame (spread s (find_of q)) c
opened_cell q s rule cell (r, e, h) c =
    ap (λ (o : Option Record). cell_answer o c) e
    ∙ ap (λ (f : Frame). cell_found r.found f (found_cells r) c) h.frame
    ∙ ap (λ (classes : List ℕ). cell_found r.found s.frame (map (λ class. get_or (find_in (values_of r.board)) class false) classes) c) h.classes
    ∙ ap (λ (o : Option Record). cell_found (option_map_or (λ (r : Record). r.found) o false) s.frame (spread s (option_map_or (λ (r : Record). find_in (values_of r.board)) o [])) c) (sym e)
