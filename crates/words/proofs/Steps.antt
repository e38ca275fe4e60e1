-- Going through a line word by word: what is read was written so, and what is written so is read.
use Rattle.std.proofs.Common.{◌≡◌, ℕ, ◌<◌, true, List, [], ◌∷◌, ◌++◌, length, get_or, take, drop, Some, None, Option, sym, refl, ap, subst, ◌∙◌, ◌-◌, ⊎_elim, arith, length-append}
use Rattle.std.specs.List.{position_or_len}
use Rattle.std.proofs.Math.ListN.{get_or-append}
use Rattle.std.proofs.Math.Seq.{drop-append_seam, take-append_seam}
use Rattle.std.proofs.lemmas.Bool.{cases_Bool, cond-false, cond-true}
use Rattle.std.proofs.lemmas.List.{get_or-drop, get_or-take, length-drop, length-take-le, take-append-drop}
use Rattle.std.proofs.lemmas.List.Sums.{fails_before_first, passes_at_first, position_or_len_is, prefix_len-le-length}
use Rattle.lines.specs.Lines.{blank}
use Rattle.words.specs.Forms.{NoWord, Solid, Spaced, WordNext}
use Rattle.words.specs.Words.{Got, and_then, cut, given, left_of, next_word, word_left}

at_seam : (w more : List ℕ) → get_or (w ++ more) (length w) 0 ≡ get_or more 0 0
at_seam [] more = refl
at_seam (x ∷ xs) more = at_seam xs more

-- words end at a blank or at the end
edge : (ws : List (List ℕ)) (more : List ℕ) → Spaced ws more → 0 < length more → blank (get_or more 0 0) ≡ true
edge [] more e h = absurd (omega (arith, ap length e))
edge (w ∷ ws) more (b, rest, is, e, s) h = ap (λ l. blank (get_or l 0 0)) e ∙ is

pub word_front : (b : ℕ) (w more : List ℕ) → blank b ≡ true → Solid w → (0 < length more → blank (get_or more 0 0) ≡ true) → next_word (b ∷ (w ++ more)) ≡ Some (record { value = w; rest = more })
word_front b w more is solid stop =
    let n : position_or_len blank (w ++ more) ≡ length w = position_or_len_is blank (w ++ more) (length w) 0 (omega (arith, length-append w more)) (λ k h. ap blank (get_or-append w more 0 k h) ∙ solid k h) (λ h. ap blank (at_seam w more) ∙ stop (omega (arith, length-append w more))) in
    ap cut (cond-true (blank b) (Some (w ++ more)) None is)
    ∙ ap (λ i. given (Some (take i (w ++ more))) (drop i (w ++ more))) n
    ∙ ap (λ l. given (Some l) (drop (length w) (w ++ more))) (take-append_seam w more)
    ∙ ap (λ l. given (Some w) l) (drop-append_seam w more)

pub word_only : (t w more : List ℕ) → next_word t ≡ Some (record { value = w; rest = more }) → (b : ℕ) × (blank b ≡ true) × (t ≡ b ∷ (w ++ more))
word_only [] w more e = absurd (cc)
word_only (b ∷ bs) w more e =
    let n = position_or_len blank bs in
    let read : Got (List ℕ) = record { value = take n bs; rest = drop n bs } in
    let wanted : Got (List ℕ) = record { value = w; rest = more } in
    ⊎_elim
    (λ is. let some : Some read ≡ Some wanted = sym (ap cut (cond-true (blank b) (Some bs) None is)) ∙ e in let same : read ≡ wanted = cc in (b, is, ap (λ l. b ∷ l) (sym (take-append-drop n bs) ∙ ap (λ (g : Got (List ℕ)). g.value ++ g.rest) same)))
    (λ no. let none : None ≡ Some wanted = sym (ap cut (cond-false (blank b) (Some bs) None no)) ∙ e in absurd (cc))
    (cases_Bool (blank b))

-- a word that comes next is given and passed
pub word_read : (w more line : List ℕ) → WordNext w more line → (next_word line ≡ Some (record { value = w; rest = more })) × (word_left line ≡ more)
word_read w more line n =
    let e = ap next_word n.whole ∙ word_front n.mark w more n.is_blank n.solid n.ends in
    (e, ap (left_of line) e)

-- the word up to the next blank
word_cut : (b : ℕ) (bs : List ℕ) → blank b ≡ true → WordNext (take (position_or_len blank bs) bs) (drop (position_or_len blank bs) bs) (b ∷ bs)
word_cut b bs is =
    let n = position_or_len blank bs in
    let long : length (take n bs) ≡ n = length-take-le n bs (prefix_len-le-length _ bs) in
    let left : length (drop n bs) ≡ length bs - n = length-drop n bs in
    record {
      mark = b;
      is_blank = is;
      whole = ap (λ l. b ∷ l) (sym (take-append-drop n bs));
      solid = λ k h. ap blank (get_or-take n bs k 0 (omega (arith, h, long))) ∙ fails_before_first blank bs k 0 (omega (arith, h, long));
      ends = λ h. ap blank (get_or-drop n bs 0 0) ∙ ap (λ i. blank (get_or bs i 0)) (omega arith) ∙ passes_at_first blank bs 0 (omega (arith, h, left));
    }

pub word_was : (w more line : List ℕ) → next_word line ≡ Some (record { value = w; rest = more }) → WordNext w more line
word_was w more [] e = absurd (cc)
word_was w more (b ∷ bs) e =
    let n = position_or_len blank bs in
    let read : Got (List ℕ) = record { value = take n bs; rest = drop n bs } in
    let wanted : Got (List ℕ) = record { value = w; rest = more } in
    ⊎_elim
    (λ is. let some : Some read ≡ Some wanted = sym (ap cut (cond-true (blank b) (Some bs) None is)) ∙ e in let same : read ≡ wanted = cc in subst (λ (g : Got (List ℕ)). WordNext g.value g.rest (b ∷ bs)) same (word_cut b bs is))
    (λ no. let none : None ≡ Some wanted = sym (ap cut (cond-false (blank b) (Some bs) None no)) ∙ e in absurd (cc))
    (cases_Bool (blank b))

-- and where none comes next nothing is passed
pub word_missing : (line : List ℕ) → NoWord line → (next_word line ≡ None) × (word_left line ≡ line)
word_missing [] other = (refl, refl)
word_missing (b ∷ bs) other =
    let e : next_word (b ∷ bs) ≡ None = ap cut (cond-false (blank b) (Some bs) None (other (omega arith))) in
    (e, ap (left_of (b ∷ bs)) e)

-- what a word is read as
given_is : {A B : Type 0} (p : Option A) (rest : List ℕ) (next : A → List ℕ → Option B) (b : B) → and_then (given p rest) next ≡ Some b → (a : A) × (p ≡ Some a) × (next a rest ≡ Some b)
given_is None rest next b e = absurd (cc)
given_is (Some a) rest next b e = (a, refl, e)

got_is : {A B : Type 0} (read : List ℕ → Option A) (o : Option (Got (List ℕ))) (next : A → List ℕ → Option B) (b : B) → and_then (and_then o (λ w rest. given (read w) rest)) next ≡ Some b → (w : List ℕ) × (rest : List ℕ) × (a : A) × (o ≡ Some (record { value = w; rest = rest })) × (read w ≡ Some a) × (next a rest ≡ Some b)
got_is read None next b e = absurd (cc)
got_is read (Some g) next b e = let is = given_is (read g.value) g.rest next b e in (g.value, g.rest, is.0, refl, is.1, is.2)

-- what is read of the next word and of those after it, where anything is
pub record Step {A B : Type 0} (read : List ℕ → Option A) (t : List ℕ) (next : A → List ℕ → Option B) (b : B) : Type 0 where
  pub value : A
  pub word : List ℕ
  pub rest : List ℕ
  pub is : read word ≡ Some value
  pub more : next value rest ≡ Some b
  pub spaced : (ws : List (List ℕ)) → Spaced ws rest → Spaced (word ∷ ws) t

pub step_only : {A B : Type 0} (read : List ℕ → Option A) (t : List ℕ) (next : A → List ℕ → Option B) (b : B) → and_then (and_then (next_word t) (λ w rest. given (read w) rest)) next ≡ Some b → Step read t next b
step_only read t next b e =
    let is = got_is read (next_word t) next b e in
    let front = word_only t is.0 is.1 is.3 in
    record {
      value = is.2;
      word = is.0;
      rest = is.1;
      is = is.4;
      more = is.5;
      spaced = λ ws s. (front.0, is.1, front.1, front.2, s);
    }

-- and what is written so
pub step_front : {A B : Type 0} (read : List ℕ → Option A) (w : List ℕ) (a : A) (ws : List (List ℕ)) (t : List ℕ) (next : A → List ℕ → Option B) → Solid w → read w ≡ Some a → Spaced (w ∷ ws) t → (rest : List ℕ) × Spaced ws rest × (and_then (and_then (next_word t) (λ v rest. given (read v) rest)) next ≡ next a rest)
step_front read w a ws t next solid is (b, rest, here, e, s) =
    let word = ap next_word e ∙ word_front b w rest here solid (edge ws rest s) in
    (rest, s, ap (λ o. and_then (and_then o (λ v more. given (read v) more)) next) word ∙ ap (λ o. and_then (given o rest) next) is)
