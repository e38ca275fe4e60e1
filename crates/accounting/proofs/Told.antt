-- What calls one after another have told once done was answered, and that an opened search stays opened.
use Rattle.std.proofs.Common.{◌≡◌, ℕ, Bool, List, [], ◌∷◌, ◌++◌, map, Ok, refl, sym, subst, ◌⊎◌, inl, inr}
use Rattle.std.proofs.lemmas.List.{map-append}
use Rattle.rules.specs.declared.rule.Rule.{Rule}
use Rattle.rolls.specs.Rolls.{Surface, Roll}
use Rattle.systems.specs.Systems.{In, here, there}
use Rattle.systems.proofs.Base.{never}
use Rattle.search.specs.declared.answer.Answer.TheVariants.{Done}
use Rattle.calls.specs.Asked.{Asked}
use Rattle.calls.specs.Ledgers.{Answered, Book, Called, Ledger, Made, Run, blank, opened, blank_count, blank_go, blank_read, blank_write, calls_on, counts, ends, many_rows, no_calls, no_cell, no_memory, no_room, no_steps, none_to_read, none_to_write, not_blank, opens, pauses, reads, tells, writes}
use Rattle.calls.specs.declared.call.Reply.TheVariants.{Went}
use Rattle.accounting.specs.Accounts.{Ended}

-- ---- among answers
-- what is among answers and one more is among them, or is that one
in_more : {A : Type 0} {a b : A} (xs : List A) → In a (xs ++ b ∷ []) → In a xs ⊎ (a ≡ b)
in_more [] here = inr refl
in_more [] (there m) = elim m [ ]
in_more (x ∷ xs) here = inl here
in_more (x ∷ xs) (there m) = elim (in_more xs m) [ inl i ↦ inl (there i) | inr e ↦ inr e ]

in_longer : {A : Type 0} {a : A} {xs : List A} (ys : List A) → In a xs → In a (xs ++ ys)
in_longer ys here = here
in_longer ys (there m) = there (in_longer ys m)

-- done was answered before an answer that is another
earlier : (xs : List Answered) (a : Answered) → ((k : ℕ) → a ≡ Ok (Went (Done k)) → ⊥) → Ended (xs ++ a ∷ []) → Ended xs
earlier xs a other (k, m) = elim (in_more xs m) [ inl i ↦ (k, i) | inr e ↦ absurd (other k (sym e)) ]

-- ---- once done was answered, all is told
abbrev pub AllTold : List Answered → Ledger → Type 0
AllTold xs blank = Ended xs → ⊥
AllTold xs (opened s r at b) = Ended xs → (f : List Bool) → Roll s r f → In f b.told

told_then : {l l' : Ledger} {p p' : List ℕ} {c : Asked} {a : Answered} (xs : List Answered) → AllTold xs l → Called l p c a l' p' → AllTold (xs ++ a ∷ []) l'
told_then xs h (opens rank i o few) = λ e. absurd (h (earlier xs _ (λ k q. never (cc)) e))
told_then xs h (many_rows m) = λ e. h (earlier xs _ (λ k q. never (cc)) e)
told_then xs h (no_memory m) = λ e. h (earlier xs _ (λ k q. never (cc)) e)
told_then xs h blank_go = λ e. h (earlier xs _ (λ k q. never (cc)) e)
told_then xs h blank_read = λ e. h (earlier xs _ (λ k q. never (cc)) e)
told_then xs h blank_write = λ e. h (earlier xs _ (λ k q. never (cc)) e)
told_then xs h blank_count = λ e. h (earlier xs _ (λ k q. never (cc)) e)
told_then xs h not_blank = λ e. h (earlier xs _ (λ k q. never (cc)) e)
told_then xs h (tells g w go) = λ e f m. in_longer _ (h (earlier xs _ (λ k q. never (cc)) e) f m)
told_then xs h (ends g w go all) = λ e. all
told_then xs h (pauses g go) = λ e. h (earlier xs _ (λ k q. never (cc)) e)
told_then xs h (no_steps g) = λ e. h (earlier xs _ (λ k q. never (cc)) e)
told_then xs h (reads f n) = λ e. h (earlier xs _ (λ k q. never (cc)) e)
told_then xs h (no_cell f n) = λ e. h (earlier xs _ (λ k q. never (cc)) e)
told_then xs h (none_to_read f) = λ e. h (earlier xs _ (λ k q. never (cc)) e)
told_then xs h (writes f w) = λ e. h (earlier xs _ (λ k q. never (cc)) e)
told_then xs h (no_room f w) = λ e. h (earlier xs _ (λ k q. never (cc)) e)
told_then xs h (none_to_write f) = λ e. h (earlier xs _ (λ k q. never (cc)) e)
told_then xs h counts = λ e. h (earlier xs _ (λ k q. never (cc)) e)

pub all_told : {l l' : Ledger} {made : List Made} → AllTold [] l → Run l made l' → AllTold (map (λ (m : Made). m.answer) made) l'
all_told h no_calls = h
all_told {l' = l'} h (calls_on {made = made} run called) = subst (λ (xs : List Answered). AllTold xs l') (sym (map-append (λ (m : Made). m.answer) made _)) (told_then (map (λ (m : Made). m.answer) made) (all_told h run) called)

-- nothing was answered yet
pub none_ended : Ended [] → ⊥
none_ended e = elim e.1 [ ]

-- ---- an opened search stays opened on what it was opened on
pub still_opened : {s : Surface} {r : Rule} {at : ℕ → ℕ} {b : Book} {l : Ledger} {p p' : List ℕ} {c : Asked} {a : Answered} → Called (opened s r at b) p c a l p' → (b' : Book) × (l ≡ opened s r at b')
still_opened not_blank = (_, refl)
still_opened (tells g w go) = (_, refl)
still_opened (ends g w go all) = (_, refl)
still_opened (pauses g go) = (_, refl)
still_opened (no_steps g) = (_, refl)
still_opened (reads f n) = (_, refl)
still_opened (no_cell f n) = (_, refl)
still_opened (none_to_read f) = (_, refl)
still_opened (writes f w) = (_, refl)
still_opened (no_room f w) = (_, refl)
still_opened (none_to_write f) = (_, refl)
still_opened counts = (_, refl)

pub opened_on : {s : Surface} {r : Rule} {at : ℕ → ℕ} {b : Book} {l : Ledger} {made : List Made} → Run (opened s r at b) made l → (b' : Book) × (l ≡ opened s r at b')
opened_on no_calls = (_, refl)
opened_on {s = s} {r = r} {at = at} (calls_on {l' = l'} {p = p} {p' = p'} {c = c} {a = a} run called) =
    let before = opened_on run in
    still_opened {b = before.0} (subst (λ (l : Ledger). Called l p c a l' p') before.1 called)
