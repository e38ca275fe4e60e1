-- The steps of reading a text, at the front of what is left, and of writing one.
use Rattle.std.proofs.Common.{◌≡◌, ℕ, ◌+◌, ◌-◌, ◌*◌, ◌%◌, ◌^◌, ◌<◌, ◌≤◌, true, false, List, [], ◌∷◌, ◌++◌, length, get_or, drop, Err, sym, refl, ap, ◌∙◌, arith}
use Rattle.std.specs.List.{range_with_len, flat_map}
use Rattle.std.proofs.lemmas.Nat.{one_shl}
use Rattle.std.proofs.lemmas.List.FromFn.{map-range_with_len_more}
use Rattle.std.proofs.lemmas.List.{map-id, flat_map_more, append_assoc, append-nil}
use Rattle.std.proofs.lemmas.Bool.{cond-true, cond-false, and_from, and_left, and_right, le-leb, lt-leb, eq-eqb, ne_eqb}
use Rattle.rules.specs.Answers.{holds}
use Rattle.rules.specs.Forms.{rising, ended, divided, parsed, quiet_only, digit_in, digits_below}
use Rattle.rules.specs.declared.fault.RuleFault.TheVariants.{Form}

-- a byte that rises is read
pub digit_read : (t rest : List ℕ) (least set : ℕ) → 0 < length t → rest ≡ drop 1 t → 48 ≤ least → least ≤ get_or t 0 0 → get_or t 0 0 ≤ 56 → rising (get_or t 0 0 + 1 - 48) (set + (1 * 2 ^ (get_or t 0 0 - 48)) % 65536) rest ≡ rising (least - 48) set t
unfolding rising
digit_read [] rest least set some is from low high = absurd (omega arith)
digit_read (b ∷ bs) rest least set some is from low high =
    let one : (1 * 2 ^ (b - 48)) % 65536 ≡ 2 ^ (b - 48) = one_shl (b - 48) 16 (omega arith) in
    let next : b + 1 - 48 ≡ b - 48 + 1 = omega arith in
    let at : 48 + (least - 48) ≤ b = omega arith in
    ap (λ l. rising (b + 1 - 48) (set + (1 * 2 ^ (b - 48)) % 65536) l) is
    ∙ ap (λ n. rising n (set + (1 * 2 ^ (b - 48)) % 65536) bs) next
    ∙ ap (λ n. rising (b - 48 + 1) (set + n) bs) one
    ∙ sym (cond-true _ _ _ (and_from _ _ (le-leb (48 + (least - 48)) b at) (le-leb b 56 high)))

-- any other ends the row
pub row_ends_low : (t : List ℕ) (least set : ℕ) → 0 < length t → 48 ≤ least → get_or t 0 0 < least → rising (least - 48) set t ≡ record { set = set; rest = t }
unfolding rising
row_ends_low [] least set some from low = refl
row_ends_low (b ∷ bs) least set some from low =
    let at : b < 48 + (least - 48) = omega arith in
    cond-false _ _ _ (and_left _ _ (lt-leb (48 + (least - 48)) b at))

pub row_ends_high : (t : List ℕ) (least set : ℕ) → 0 < length t → 56 < get_or t 0 0 → rising (least - 48) set t ≡ record { set = set; rest = t }
unfolding rising
row_ends_high [] least set some high = refl
row_ends_high (b ∷ bs) least set some high = cond-false _ _ _ (and_right _ _ (lt-leb b 56 high))

-- and so does the end of the text
pub text_ends : (t : List ℕ) (least set : ℕ) → length t < 1 → rising least set t ≡ record { set = set; rest = t }
unfolding rising
text_ends [] least set none = refl
text_ends (b ∷ bs) least set none = absurd (omega arith)

pub empty_text : (t : List ℕ) → length t < 1 → parsed t ≡ Err Form
unfolding parsed
empty_text [] none = refl
empty_text (b ∷ bs) none = absurd (omega arith)

pub other_front : (t : List ℕ) → (get_or t 0 0 ≡ 66 → ⊥) → parsed t ≡ Err Form
unfolding parsed
other_front [] other = refl
other_front (b ∷ bs) other = cond-false _ _ _ (ne_eqb b 66 other)

-- after `B` the births are read
pub births_read : (t after rest : List ℕ) (births : ℕ) → 0 < length t → get_or t 0 0 ≡ 66 → after ≡ drop 1 t → rising 0 0 after ≡ record { set = births; rest = rest } → parsed t ≡ divided births rest
unfolding parsed
births_read [] after rest births some front is row = absurd (omega arith)
births_read (b ∷ bs) after rest births some front is row =
    cond-true _ _ _ (eq-eqb b 66 front) ∙ ap (λ l. divided (rising 0 0 l).set (rising 0 0 l).rest) (sym is) ∙ ap (λ r. divided r.set r.rest) row

-- fewer than two bytes follow
pub births_last : (births : ℕ) (rest : List ℕ) → length rest < 2 → divided births rest ≡ Err Form
unfolding divided
births_last births [] short = refl
births_last births (x ∷ []) short = refl
births_last births (x ∷ y ∷ bs) short = absurd (omega arith)

pub no_slash : (births : ℕ) (rest : List ℕ) → 2 ≤ length rest → (get_or rest 0 0 ≡ 47 → ⊥) → divided births rest ≡ Err Form
unfolding divided
no_slash births [] two other = refl
no_slash births (x ∷ []) two other = refl
no_slash births (x ∷ y ∷ bs) two other = cond-false _ _ _ (and_left _ _ (ne_eqb x 47 other))

pub no_letter : (births : ℕ) (rest : List ℕ) → 2 ≤ length rest → (get_or rest 1 0 ≡ 83 → ⊥) → divided births rest ≡ Err Form
unfolding divided
no_letter births [] two other = refl
no_letter births (x ∷ []) two other = refl
no_letter births (x ∷ y ∷ bs) two other = cond-false _ _ _ (and_right _ _ (ne_eqb y 83 other))

-- after `/S` the survivals are read
survivals_read : (rest after last : List ℕ) (births survivals : ℕ) → 2 ≤ length rest → get_or rest 0 0 ≡ 47 → get_or rest 1 0 ≡ 83 → after ≡ drop 2 rest → rising 0 0 after ≡ record { set = survivals; rest = last } → divided births rest ≡ ended births survivals last
unfolding divided
survivals_read [] after last births survivals two slash letter is row = absurd (omega arith)
survivals_read (x ∷ []) after last births survivals two slash letter is row = absurd (omega arith)
survivals_read (x ∷ y ∷ bs) after last births survivals two slash letter is row =
    cond-true _ _ _ (and_from _ _ (eq-eqb x 47 slash) (eq-eqb y 83 letter))
    ∙ ap (λ l. ended births (rising 0 0 l).set (rising 0 0 l).rest) (sym is)
    ∙ ap (λ r. ended births r.set r.rest) row

-- both rows are read
pub both_read : (t after rest next last : List ℕ) (births survivals : ℕ) → 0 < length t → get_or t 0 0 ≡ 66 → after ≡ drop 1 t → rising 0 0 after ≡ record { set = births; rest = rest } → 2 ≤ length rest → get_or rest 0 0 ≡ 47 → get_or rest 1 0 ≡ 83 → next ≡ drop 2 rest → rising 0 0 next ≡ record { set = survivals; rest = last } → parsed t ≡ ended births survivals last
both_read t after rest next last births survivals some front is row two slash letter at row2 = births_read t after rest births some front is row ∙ survivals_read rest next last births survivals two slash letter at row2

pub text_left : (births survivals : ℕ) (last : List ℕ) → 0 < length last → ended births survivals last ≡ Err Form
unfolding ended
text_left births survivals [] more = absurd (omega arith)
text_left births survivals (x ∷ bs) more = refl

pub text_read : (births survivals : ℕ) (last : List ℕ) → length last ≡ 0 → ended births survivals last ≡ quiet_only births survivals
unfolding ended
text_read births survivals [] none = refl
text_read births survivals (x ∷ bs) none = absurd (omega arith)

-- the digits below n + 1 are those below n and n itself
digits_more : (n s : ℕ) → digits_below (n + 1) s ≡ digits_below n s ++ digit_in s n
unfolding digits_below
digits_more n s =
    let more : range_with_len 0 (n + 1) ≡ range_with_len 0 n ++ n ∷ [] = sym (map-id (range_with_len 0 (n + 1))) ∙ map-range_with_len_more (λ (k : ℕ). k) 0 n n (omega arith) ∙ ap (λ l. l ++ n ∷ []) (map-id (range_with_len 0 n)) in
    ap (flat_map (digit_in s)) more ∙ sym (flat_map_more (digit_in s) [] (range_with_len 0 n) n)

-- a turn of writing digits, `front` before them
module _ (front so_far : List ℕ) (n s : ℕ) (is : so_far ≡ front ++ digits_below n s) where
  turned_over : (more : List ℕ) → digit_in s n ≡ more → so_far ++ more ≡ front ++ digits_below (n + 1) s
  turned_over more e = ap (λ l. l ++ more) is ∙ append_assoc front (digits_below n s) more ∙ ap (λ l. front ++ l) (ap (λ l. digits_below n s ++ l) (sym e) ∙ sym (digits_more n s))

  pub digit_put : holds s n ≡ true → so_far ++ (48 + n) ∷ [] ≡ front ++ digits_below (n + 1) s
  digit_put held = turned_over ((48 + n) ∷ []) (cond-true (holds s n) ((48 + n) ∷ []) [] held)

  pub digit_passed : holds s n ≡ false → so_far ≡ front ++ digits_below (n + 1) s
  digit_passed lacking = sym (append-nil so_far) ∙ turned_over [] (cond-false (holds s n) ((48 + n) ∷ []) [] lacking)
