-- What is asked on which pages decides what is answered.
use Rattle.std.proofs.Common.{◌≡◌, ℕ, Bool, List, [], ◌∷◌, ◌++◌, map, Ok, Err, Result, refl, sym, ap, ◌∙◌, subst, arith}
use Rattle.std.proofs.lemmas.List.{map-append}
use Rattle.frames.specs.declared.frame.Cell.{Cell}
use Rattle.rules.specs.declared.rule.Rule.{Rule}
use Rattle.rolls.specs.Rolls.{Surface}
use Rattle.pages.specs.Pages.{Written}
use Rattle.pages.specs.declared.fault.PageFault.{PageFault}
use Rattle.pages.specs.declared.fault.PageFault.TheVariants.{Short}
use Rattle.systems.specs.Spaces.{spread, system_of}
use Rattle.systems.specs.Systems.{Proper}
use Rattle.systems.proofs.Base.{never}
use Rattle.systems.proofs.Spaces.{solutions_right}
use Rattle.histories.specs.Searches.{State, Reply, tells_find, done, paused, Go}
use Rattle.histories.proofs.Calls.{go_one}
use Rattle.search.specs.declared.answer.Answer.TheVariants.{Found, Done, Paused}
use Rattle.search.specs.declared.fault.GoFault.TheVariants as go
use Rattle.calls.specs.Asked.{Asked, to_open, to_go, to_read, to_write, to_count}
use Rattle.calls.specs.Laws.{Brought, brought, wants_memory}
use Rattle.calls.specs.Ledgers.{Answered, Book, Called, Granted, Ledger, Made, Run, blank, opened, blank_count, blank_go, blank_read, blank_write, calls_on, counts, ends, found_book, idle_book, many_rows, no_calls, no_cell, no_memory, no_room, no_steps, none_to_read, none_to_write, not_blank, opens, pauses, reads, tells, text_in, writes}
use Rattle.calls.specs.declared.call.Reply.TheVariants.{Went}
use Rattle.calls.specs.declared.fault.CallFault.TheVariants.{Go as GoRefused}

-- ---- the system that an opened search goes by is one
abbrev pub Sound : Ledger → Type 0
Sound blank = Unit {0}
Sound (opened s r at b) = Proper (system_of s r at)

sound_then : {l l' : Ledger} {p p' : List ℕ} {c : Asked} {a : Answered} → Sound l → Called l p c a l' p' → Sound l'
sound_then h (opens {s = s} {r = r} {at = at} rank inside orders few) = (solutions_right s r at inside).proper rank orders
sound_then h (many_rows m) = tt
sound_then h (no_memory f) = tt
sound_then h blank_go = tt
sound_then h blank_read = tt
sound_then h blank_write = tt
sound_then h blank_count = tt
sound_then h not_blank = h
sound_then h (tells g w go) = h
sound_then h (ends g w go all) = h
sound_then h (pauses g go) = h
sound_then h (no_steps g) = h
sound_then h (reads f n) = h
sound_then h (no_cell f n) = h
sound_then h (none_to_read f) = h
sound_then h (writes f w) = h
sound_then h (no_room f w) = h
sound_then h (none_to_write f) = h
sound_then h counts = h

sound : {xs : List Made} {l : Ledger} → Run blank xs l → Sound l
sound no_calls = tt
sound (calls_on run called) = sound_then (sound run) called

-- ---- one call
-- what comes of two calls is the same
abbrev pub Same : Answered → Answered → Ledger → Ledger → List ℕ → List ℕ → Type 0
Same a a' l l' p p' = (a ≡ a') × (l ≡ l') × (p ≡ p')

-- an opening of a blank search
open_one : {s : Surface} {r : Rule} {at : ℕ → ℕ} {p q q' : List ℕ} {a a' : Answered} {l l' : Ledger} → Called blank p (to_open s r at) a l q → Called blank p (to_open s r at) a' l' q' → wants_memory a ≡ wants_memory a' → Same a a' l l' q q'
open_one (opens rank i o few) (opens rank' i' o' few') w = (refl, refl, refl)
open_one (opens rank i o few) (many_rows m) w = never (omega (arith, few, m))
open_one (opens rank i o few) (no_memory f) w = never (cc)
open_one (many_rows m) (opens rank i o few) w = never (omega (arith, few, m))
open_one (many_rows m) (many_rows n) w = (refl, refl, refl)
open_one (many_rows m) (no_memory f) w = never (omega (arith, f, m))
open_one (no_memory f) (opens rank i o few) w = never (cc)
open_one (no_memory f) (many_rows m) w = never (omega (arith, f, m))
open_one (no_memory f) (no_memory g) w = (refl, refl, refl)

-- going: what a go has come to, by what it says, its steps and the state then
abbrev pub answer_of : Reply → ℕ → Answered
answer_of (tells_find f) k = Ok (Went (Found k))
answer_of done k = Ok (Went (Done k))
answer_of paused k = Ok (Went (Paused k))

abbrev pub book_of : Surface → Book → Reply → ℕ → State → Book
book_of s b (tells_find f) k to = found_book b to k (spread s f)
book_of s b done k to = idle_book b to k
book_of s b paused k to = idle_book b to k

data Gone (s : Surface) (r : Rule) (at : ℕ → ℕ) (b : Book) (n : ℕ) (p : List ℕ) : Answered → Ledger → List ℕ → Type 0 where
  moved : (k : ℕ) (reply : Reply) (to : State) → Granted n → Go (system_of s r at) n b.state reply k to → Gone s r at b n p (answer_of reply k) (opened s r at (book_of s b reply k to)) p
  stayed : (Granted n → ⊥) → Gone s r at b n p (Err (GoRefused go.Steps)) (opened s r at b) p

gone : {s : Surface} {r : Rule} {at : ℕ → ℕ} {b : Book} {n : ℕ} {p q : List ℕ} {a : Answered} {l : Ledger} → Called (opened s r at b) p (to_go n) a l q → Gone s r at b n p a l q
gone (tells {k = k} {to = to} {f = f} granted w m) = moved k (tells_find f) to granted m
gone (ends {k = k} {to = to} granted w m all) = moved k done to granted m
gone (pauses {n = n} {to = to} granted m) = moved n paused to granted m
gone (no_steps refused) = stayed refused

gone_one : {s : Surface} {r : Rule} {at : ℕ → ℕ} {b : Book} {n : ℕ} {p q q' : List ℕ} {a a' : Answered} {l l' : Ledger} → Proper (system_of s r at) → Gone s r at b n p a l q → Gone s r at b n p a' l' q' → Same a a' l l' q q'
gone_one {s = s} {r = r} {at = at} {b = b} {n = n} proper (moved k a to g m) (moved i c at' h o) =
    let one = go_one (system_of s r at) proper n k i a c b.state to at' m o in
    (rw (one.0, one.1) refl, rw (one.0, one.1, one.2) refl, refl)
gone_one proper (moved k a to g m) (stayed h) = absurd (h g)
gone_one proper (stayed h) (moved k a to g m) = absurd (h g)
gone_one proper (stayed g) (stayed h) = (refl, refl, refl)

-- reading a cell
read_one : {s : Surface} {r : Rule} {at : ℕ → ℕ} {b : Book} {p q q' : List ℕ} {c : Cell} {a a' : Answered} {l l' : Ledger} → Called (opened s r at b) p (to_read c) a l q → Called (opened s r at b) p (to_read c) a' l' q' → Same a a' l l' q q'
read_one (reads {f = f} {n = n} e m) (reads {f = g} {n = k} d o) = let same : f ≡ g = cc (e, d) in let alike : n ≡ k = cc (m, o) in (rw (same, alike) refl, refl, refl)
read_one (reads e m) (no_cell d o) = never (cc (m, o))
read_one (reads e m) (none_to_read d) = never (cc (e, d))
read_one (no_cell e m) (reads d o) = never (cc (m, o))
read_one (no_cell e m) (no_cell d o) = (refl, refl, refl)
read_one (no_cell e m) (none_to_read d) = never (cc (e, d))
read_one (none_to_read e) (reads d o) = never (cc (e, d))
read_one (none_to_read e) (no_cell d o) = never (cc (e, d))
read_one (none_to_read e) (none_to_read d) = (refl, refl, refl)

-- writing: of the same find, the same text
same_text : (s : Surface) (r : Rule) (p q : List ℕ) (from : ℕ) (f g : List Bool) (end : Result ℕ PageFault) → f ≡ g → Written p from (text_in s r g) q end → Written p from (text_in s r f) q end
same_text s r p q from f g end e w = subst (λ (h : List Bool). Written p from (text_in s r h) q end) (sym e) w

write_one : {s : Surface} {r : Rule} {at : ℕ → ℕ} {b : Book} {p q q' : List ℕ} {from : ℕ} {a a' : Answered} {l l' : Ledger} → Called (opened s r at b) p (to_write from) a l q → Called (opened s r at b) p (to_write from) a' l' q' → Same a a' l l' q q'
write_one {s = s} {r = r} {p = p} {q' = q'} {from = from} (writes {end = end} {f = f} e w) (writes {end = end'} {f = g} d v) =
    let alike = same_text s r p q' from f g (Ok end') (cc (e, d)) v in
    let place : end ≡ end' = w.1.0 ∙ sym alike.1.0 in
    (rw place refl, refl, w.1.1 ∙ sym alike.1.1)
write_one {s = s} {r = r} {p = p} {q' = q'} {from = from} (writes {f = f} e w) (no_room {f = g} d v) =
    let alike = same_text s r p q' from f g (Err Short) (cc (e, d)) v in
    never (omega (arith, w.0, w.1.0, alike.0))
write_one (writes e w) (none_to_write d) = never (cc (e, d))
write_one {s = s} {r = r} {p = p} {q' = q'} {from = from} (no_room {f = f} e w) (writes {end = end} {f = g} d v) =
    let alike = same_text s r p q' from f g (Ok end) (cc (e, d)) v in
    never (omega (arith, w.0, alike.0, alike.1.0))
write_one (no_room e w) (no_room d v) = (refl, refl, w.1 ∙ sym v.1)
write_one (no_room e w) (none_to_write d) = never (cc (e, d))
write_one (none_to_write e) (writes d v) = never (cc (e, d))
write_one (none_to_write e) (no_room d v) = never (cc (e, d))
write_one (none_to_write e) (none_to_write d) = (refl, refl, refl)

-- any call
one : (l : Ledger) (c : Asked) {p q q' : List ℕ} {a a' : Answered} {m k : Ledger} → Sound l → Called l p c a m q → Called l p c a' k q' → wants_memory a ≡ wants_memory a' → Same a a' m k q q'
one blank (to_open s r at) h x y w = open_one x y w
one blank (to_go n) h blank_go blank_go w = (refl, refl, refl)
one blank (to_read c) h blank_read blank_read w = (refl, refl, refl)
one blank (to_write from) h blank_write blank_write w = (refl, refl, refl)
one blank to_count h blank_count blank_count w = (refl, refl, refl)
one (opened s r at b) (to_open t q by) h not_blank not_blank w = (refl, refl, refl)
one (opened s r at b) (to_go n) h x y w = gone_one h (gone x) (gone y)
one (opened s r at b) (to_read c) h x y w = read_one x y
one (opened s r at b) (to_write from) h x y w = write_one x y
one (opened s r at b) to_count h counts counts w = (refl, refl, refl)

-- ---- calls one after another
last_two : {A : Type 0} (xs ys : List A) (x y : A) → xs ++ x ∷ [] ≡ ys ++ y ∷ [] → (xs ≡ ys) × (x ≡ y)
last_two [] [] x y e = (refl, cc e)
last_two [] (b ∷ []) x y e = never (cc e)
last_two [] (b ∷ c ∷ ys) x y e = never (cc e)
last_two (a ∷ []) [] x y e = never (cc e)
last_two (a ∷ b ∷ xs) [] x y e = never (cc e)
last_two (a ∷ xs) (b ∷ ys) x y e =
    let first : a ≡ b = cc e in
    let rest : xs ++ x ∷ [] ≡ ys ++ y ∷ [] = cc e in
    let both = last_two xs ys x y rest in
    (rw (first, both.0) refl, both.1)

none_longer : {A : Type 0} (xs : List A) (x : A) → [] ≡ xs ++ x ∷ [] → ⊥
none_longer [] x e = never (cc e)
none_longer (a ∷ xs) x e = never (cc e)

pub decided : (xs ys : List Made) (l k : Ledger) → Run blank xs l → Run blank ys k → map brought xs ≡ map brought ys → (xs ≡ ys) × (l ≡ k)
decided xs ys l k no_calls no_calls e = (refl, refl)
decided xs ys l k no_calls (calls_on {made = made} run called) e = absurd (none_longer (map brought made) _ (e ∙ map-append brought made _))
decided xs ys l k (calls_on {made = made} run called) no_calls e = absurd (none_longer (map brought made) _ (sym e ∙ map-append brought made _))
decided xs ys l k (calls_on {made = made} {l = n} {l' = n'} {p = p} {p' = p'} {c = c} {a = a} run called) (calls_on {made = others} {l = m} {l' = m'} {p = q} {p' = q'} {c = d} {a = b} run' called') e =
    let both = last_two (map brought made) (map brought others) _ _ (sym (map-append brought made _) ∙ e ∙ map-append brought others _) in
    let before = decided made others n m run run' both.0 in
    let page : p ≡ q = ap (λ (b : Brought). b.page) both.1 in
    let call : c ≡ d = ap (λ (b : Brought). b.call) both.1 in
    let wanting : wants_memory a ≡ wants_memory b = ap (λ (b : Brought). b.wanting) both.1 in
    let there : Called n p c b m' q' = rw (before.1, page, call) called' in
    let same = one n c (sound run) called there wanting in
    (rw (before.0, page, call, same.0, same.2) refl, same.1)
