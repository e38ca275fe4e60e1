-- What a listing hands on, however it ends.
use Rattle.std.proofs.Common.{◌≡◌, ℕ, ◌+◌, ◌<◌, Bool, List, [], ◌∷◌, ◌++◌, drop, length, take, Some, None, Ok, Err, Option, Result, refl, sym, ap, ◌∙◌, subst, append-nil, append_assoc}
use Rattle.std.specs.Prelude.{unwrap_or}
use Rattle.std.proofs.Math.Nat.{zero-add}
use Rattle.std.proofs.Math.Seq.{take-append_seam}
use Rattle.std.proofs.lemmas.List.{map-append}
use Rattle.pages.specs.Pages.{Written}
use Rattle.pages.specs.declared.fault.PageFault.{PageFault}
use Rattle.pages.specs.declared.fault.PageFault.TheVariants.{Short}
use Rattle.rules.specs.declared.rule.Rule.{Rule}
use Rattle.rolls.specs.Rolls.{Surface, Roll}
use Rattle.printing.specs.Printed.{Printed, found_line}
use Rattle.systems.specs.Spaces.{spread}
use Rattle.systems.specs.Systems.{In}
use Rattle.systems.proofs.Base.{never}
use Rattle.histories.specs.Searches.{State}
use Rattle.search.specs.declared.answer.Answer.{Answer}
use Rattle.search.specs.declared.answer.Answer.TheVariants.{Found, Done, Paused}
use Rattle.search.specs.declared.fault.GoFault.TheVariants.{Blank}
use Rattle.search.specs.declared.fault.WriteFault.TheVariants.{Page}
use Rattle.search.specs.declared.search.Search.{Search}
use Rattle.calls.specs.Asked.{Asked, to_count, to_go, to_write}
use Rattle.calls.specs.Histories.{Keeps, Performed, Stands}
use Rattle.calls.specs.Kinds.{Kind}
use Rattle.calls.specs.Ledgers.{Book, Called, Granted, Ledger, blank, blank_go, counts, ends, found_book, idle_book, no_room, no_steps, none_to_write, opened, pauses, tally_of, tells, text_in, writes}
use Rattle.calls.specs.declared.call.Reply.{Reply}
use Rattle.calls.specs.declared.call.Reply.TheVariants.{Counted, Went, Wrote}
use Rattle.calls.specs.declared.fault.CallFault.{CallFault}
use Rattle.calls.specs.declared.fault.CallFault.TheVariants as calling
use Rattle.listing.specs.declared.fault.ListFault.{ListFault}
use Rattle.listing.specs.declared.fault.ListFault.TheVariants as listing
use Rattle.listing.specs.Handing.{Begun, BegunBy, Broken, Ended, Handed, RanBy, Settled, TextHanded, HandedBy, at_rest, at_text, fronted, in_full, nothing, overwritten, page_after, rested, so_far, texts_of, took}

-- ---- texts taken after others
pub handed_then : {A : Type 0} {takes : A → List ℕ → A → Type 0} {rests : A → A → Type 0} {a b c : A} {xs ys : List (List ℕ)} → Handed takes rests a xs b → Handed takes rests b ys c → Handed takes rests a (xs ++ ys) c
handed_then {xs = xs} h nothing = rw (append-nil xs) h
handed_then {xs = xs} h (took {texts = ys} text k t) = rw (← append_assoc xs ys (text ∷ [])) (took text (handed_then h k) t)
handed_then h (rested k r) = rested (handed_then h k) r

-- rests change nothing of what was taken
pub handed_still : {A : Type 0} {takes : A → List ℕ → A → Type 0} {rests : A → A → Type 0} {a b c : A} {xs : List (List ℕ)} → Handed takes rests a xs b → Handed takes rests b [] c → Handed takes rests a xs c
handed_still {takes = takes} {rests = rests} {a = a} {c = c} {xs = xs} h k = subst (λ (xs : List (List ℕ)). Handed takes rests a xs c) (append-nil xs) (handed_then h k)

-- the sink failed after others
pub broken_then : {A : Type 0} {takes : A → List ℕ → A → Type 0} {rests : A → A → Type 0} {fails : A → List ℕ → A → Type 0} {a b c : A} {xs ys : List (List ℕ)} → Handed takes rests a xs b → Broken takes rests fails b ys c → Broken takes rests fails a (xs ++ ys) c
broken_then {xs = xs} h (at_text {texts = ys} text k f) = rw (← append_assoc xs ys (text ∷ [])) (at_text text (handed_then h k) f)
broken_then h (at_rest k f) = at_rest (handed_then h k) f

-- what was handed on by a fault is so whatever the call would have answered, and so it is after others
pub handed_by : {A : Type 0} (B C : Type 0) (takes : A → List ℕ → A → Type 0) (rests : A → A → Type 0) (fails : A → List ℕ → A → Type 0) (a b : A) (fault : ListFault) → HandedBy {B = B} takes rests fails a (Err fault) b → HandedBy {B = C} takes rests fails a (Err fault) b
handed_by B C takes rests fails a b listing.Closed h = h
handed_by B C takes rests fails a b (listing.Call fault) h = h
handed_by B C takes rests fails a b (listing.Foot fault) h = h

pub handed_by_then : {A : Type 0} (B : Type 0) (takes : A → List ℕ → A → Type 0) (rests : A → A → Type 0) (fails : A → List ℕ → A → Type 0) (a b c : A) (xs : List (List ℕ)) (fault : ListFault) → Handed takes rests a xs b → HandedBy {B = B} takes rests fails b (Err fault) c → HandedBy {B = B} takes rests fails a (Err fault) c
handed_by_then B takes rests fails a b c xs listing.Closed h k = (xs ++ k.0, broken_then h k.1)
handed_by_then B takes rests fails a b c xs (listing.Call fault) h k = (xs ++ k.0, handed_then h k.1)
handed_by_then B takes rests fails a b c xs (listing.Foot fault) h k = (xs ++ k.0, handed_then h k.1)

-- ---- texts put at a page's front
pub overwritten_last : (p : List ℕ) (xs : List (List ℕ)) (text : List ℕ) → overwritten p (xs ++ text ∷ []) ≡ fronted (overwritten p xs) text
overwritten_last p [] text = refl
overwritten_last p (x ∷ xs) text = overwritten_last (fronted p x) xs text

pub put_at_front : (p text p' : List ℕ) → p' ≡ take 0 p ++ (text ++ drop (0 + length text) p) → p' ≡ fronted p text
put_at_front p text p' new = new ∙ ap (λ (n : ℕ). text ++ drop n p) (zero-add (length text))

-- what was put there
pub text_taken : (p text p' : List ℕ) (end : ℕ) → end ≡ 0 + length text → p' ≡ take 0 p ++ (text ++ drop (0 + length text) p) → take end p' ≡ text
text_taken p text p' end after new = rw (after, new, zero-add (length text), take-append_seam text (drop (length text) p))

-- ---- what a call comes to, by its answer: of an opened search
module _ {s : Surface} {rule : Rule} {cell : ℕ → ℕ} {b : Book} {p : List ℕ} where
  told : {n k : ℕ} {p' : List ℕ} {l : Ledger} {q : Search} → Called (opened s rule cell b) p (to_go n) (Ok (Went (Found k))) l p' → Stands l q → (to : State) × (f : List Bool) × Keeps s rule cell (found_book b to k f) q
  told (tells {to = to} {f = f} granted few go) stands = (to, spread s f, stands)

  ended : {n k : ℕ} {p' : List ℕ} {l : Ledger} {q : Search} → Called (opened s rule cell b) p (to_go n) (Ok (Went (Done k))) l p' → Stands l q → (to : State) × Keeps s rule cell (idle_book b to k) q × ((f : List Bool) → Roll s rule f → In f b.told)
  ended (ends {to = to} granted few go all) stands = (to, stands, all)

  paused : {n k : ℕ} {p' : List ℕ} {l : Ledger} {q : Search} → Called (opened s rule cell b) p (to_go n) (Ok (Went (Paused k))) l p' → Stands l q → (to : State) × Keeps s rule cell (idle_book b to k) q
  paused (pauses {to = to} granted go) stands = (to, stands)

  not_gone : {n : ℕ} {p' : List ℕ} {l : Ledger} {fault : CallFault} → Granted n → Called (opened s rule cell b) p (to_go n) (Err fault) l p' → ⊥
  not_gone granted (no_steps out) = out granted

  wrote : {from end : ℕ} {p' : List ℕ} {l : Ledger} → Called (opened s rule cell b) p (to_write from) (Ok (Wrote end)) l p' → (f : List Bool) × (b.find ≡ Some f) × Written p from (text_in s rule f) p' (Ok end)
  wrote (writes {f = f} find written) = (f, find, written)

  not_written : {from : ℕ} {p' : List ℕ} {l : Ledger} {fault : CallFault} {f : List Bool} → b.find ≡ Some f → Called (opened s rule cell b) p (to_write from) (Err fault) l p' → (fault ≡ calling.Write (Page Short)) × Written p from (text_in s rule f) p' (Err Short)
  not_written {from = from} {p' = p'} {f = g} e (no_room {f = f} find written) =
      (refl, subst (λ (o : Option (List Bool)). Written p from (text_in s rule (unwrap_or o g)) p' (Err Short)) (sym find ∙ e) written)
  not_written e (none_to_write none) = never (cc)

  counted : {n : ℕ} {p' : List ℕ} {l : Ledger} → Called (opened s rule cell b) p to_count (Ok (Counted n)) l p' → n ≡ tally_of b.told
  counted counts = refl

  not_counted : {p' : List ℕ} {l : Ledger} {fault : CallFault} → Called (opened s rule cell b) p to_count (Err fault) l p' → ⊥
  not_counted called = elim called [ ]

-- of a blank one
blank_goes : {p : List ℕ} {n : ℕ} {p' : List ℕ} {l : Ledger} {reply : Reply} → Called blank p (to_go n) (Ok reply) l p' → ⊥
blank_goes called = elim called [ ]

blank_stays : {p : List ℕ} {n : ℕ} {p' : List ℕ} {l : Ledger} {fault : CallFault} {q : Search} → Called blank p (to_go n) (Err fault) l p' → Stands l q → (fault ≡ calling.Go Blank) × (q.record ≡ None) × (p' ≡ p)
blank_stays blank_go stands = (refl, stands, refl)

-- the same call, where its answer is known
answered : (q q' : Search) (p p' : List ℕ) (c : Asked) (reply r : Reply) → reply ≡ r → ((l : Ledger) → Performed l q p c (Ok reply) q' p') → (l : Ledger) → Performed l q p c (Ok r) q' p'
answered q q' p p' c reply r e performed l = subst (λ (r : Reply). Performed l q p c (Ok r) q' p') e (performed l)

-- ---- one text
module _ {s : Surface} {rule : Rule} {cell : ℕ → ℕ} {q q' : Search} {p p' : List ℕ} {b : Book} (keeps : Keeps s rule cell b q) where
  -- the text of the find stands at the page's front, or has no room there
  pub find_put : {reply : Reply} → ((l : Ledger) → Performed l q p (to_write 0) (Ok reply) q' p') → (end : ℕ) → reply ≡ Wrote end → (f : List Bool) → b.find ≡ Some f → (take end p' ≡ text_in s rule f) × (p' ≡ fronted p (text_in s rule f))
  find_put {reply = reply} performed end e f found = by (wrote (answered q q' p p' (to_write 0) reply (Wrote end) e performed (opened s rule cell b) keeps).1)
    where
      by : (f : List Bool) × (b.find ≡ Some f) × Written p 0 (text_in s rule f) p' (Ok end) → (take end p' ≡ text_in s rule f) × (p' ≡ fronted p (text_in s rule f))
      by (f', find, written) =
          let same : text_in s rule f' ≡ text_in s rule f = ap (λ (o : Option (List Bool)). text_in s rule (unwrap_or o f)) (sym find ∙ found) in
          (text_taken p (text_in s rule f') p' end written.1.0 written.1.1 ∙ same, put_at_front p (text_in s rule f') p' written.1.1 ∙ ap (fronted p) same)

  pub find_not_put : {fault : CallFault} → ((l : Ledger) → Performed l q p (to_write 0) (Err fault) q' p') → (f : List Bool) → b.find ≡ Some f → (fault ≡ calling.Write (Page Short)) × (length p < length (text_in s rule f)) × (p' ≡ p)
  find_not_put performed f found =
      let refused = not_written found (performed (opened s rule cell b) keeps).1 in
      (refused.0, subst (λ (n : ℕ). length p < n) (zero-add (length (text_in s rule f))) refused.1.0, refused.1.1)

  -- how many finds were told
  pub finds_counted : {reply : Reply} → ((l : Ledger) → Performed l q p to_count (Ok reply) q' p') → (n : ℕ) → reply ≡ Counted n → n ≡ tally_of b.told
  finds_counted {reply = reply} performed n e = counted (answered q q' p p' to_count reply (Counted n) e performed (opened s rule cell b) keeps).1

  pub finds_not_counted : {fault : CallFault} → ((l : Ledger) → Performed l q p to_count (Err fault) q' p') → ⊥
  finds_not_counted performed = not_counted (performed (opened s rule cell b) keeps).1

-- the last line stands at the page's front, or has no room there
module _ (q q' : Search) (p p' p2 : List ℕ) (reply : Reply) (n : ℕ) (kind : Kind q p to_count (Ok reply) q' p') (is : reply ≡ Counted n) (b : Book) (counted : n ≡ tally_of b.told) where
  kept : p' ≡ p
  kept = (subst (λ (r : Reply). Kind q p to_count (Ok r) q' p') is kind).1

  line : found_line n ≡ found_line (tally_of b.told)
  line = ap found_line counted

  pub line_put : (end : ℕ) → Printed p' 0 (found_line n) p2 (Ok end) → (take end p2 ≡ found_line (tally_of b.told)) × (p2 ≡ fronted p (found_line (tally_of b.told)))
  line_put end printed = (
    text_taken p' (found_line n) p2 end printed.0 printed.2 ∙ line,
    put_at_front p' (found_line n) p2 printed.2 ∙ ap (λ (x : List ℕ). fronted x (found_line n)) kept ∙ ap (fronted p) line,
  )

  pub line_not_put : (fault : PageFault) → Printed p' 0 (found_line n) p2 (Err fault) → (listing.Foot fault ≡ listing.Foot Short) × (length p < length (found_line (tally_of b.told))) × (p2 ≡ p)
  line_not_put Short printed = (
    refl,
    subst (λ (p : List ℕ). length p < length (found_line (tally_of b.told))) kept (subst (λ (text : List ℕ). length p' < length text) line (subst (λ (k : ℕ). length p' < k) (zero-add (length (found_line n))) printed.0)),
    printed.1 ∙ kept,
  )

-- a go that is granted leaves the page as it was
pub kept_by_go : (q q' : Search) (p p' : List ℕ) (n : ℕ) (reply : Reply) (a : Answer) → Kind q p (to_go n) (Ok reply) q' p' → reply ≡ Went a → p' ≡ p
kept_by_go q q' p p' n reply a kind is = (subst (λ (r : Reply). Kind q p (to_go n) (Ok r) q' p') is kind).0

-- ---- one go
module _ {A : Type 0} (takes : A → List ℕ → A → Type 0) (rests : A → A → Type 0) (fails : A → List ℕ → A → Type 0) (p : List ℕ) (from a : A) (q q' : Search) (p1 p2 : List ℕ) (n : ℕ) where
  -- it is refused
  pub not_begun : (fault : CallFault) → ((l : Ledger) → Performed l q p1 (to_go n) (Err fault) q' p2) → Granted n → (l : Ledger) → BegunBy takes rests l p from q p1 a → RanBy takes rests fails l p from (Err (listing.Call fault)) q' p2 a
  not_begun fault performed granted blank h =
      let made = performed blank h.0 in
      let stays = blank_stays made.1 made.2 in
      (ap (λ (f : CallFault). Err (listing.Call f)) stays.0, stays.1, stays.2 ∙ h.1, h.2)
  not_begun fault performed granted (opened s rule cell b) h = elim (not_gone granted (performed (opened s rule cell h.book) h.keeps).1) [ ]

  module _ (reply : Reply) (performed : (l : Ledger) → Performed l q p1 (to_go n) (Ok reply) q' p2) (same : p2 ≡ p1) where
    module _ {s : Surface} {rule : Rule} {cell : ℕ → ℕ} {b : Book} (h : Begun takes rests s rule cell b p from q p1 a) where
      now : (r : Reply) → reply ≡ r → (l : Ledger) × Called (opened s rule cell h.book) p1 (to_go n) (Ok r) l p2 × Stands l q'
      now r e = answered q q' p1 p2 (to_go n) reply r e performed (opened s rule cell h.book) h.keeps

      -- the find that is told comes last
      told_last : (f : List Bool) → h.book.told ++ f ∷ [] ≡ b.told ++ (h.finds ++ f ∷ [])
      told_last f = ap (λ (fs : List (List Bool)). fs ++ f ∷ []) h.told ∙ append_assoc b.told h.finds (f ∷ [])

      -- and so does its text
      text_last : (f : List Bool) → texts_of s rule h.finds ++ text_in s rule f ∷ [] ≡ texts_of s rule (h.finds ++ f ∷ [])
      text_last f = sym (map-append (text_in s rule) h.finds (f ∷ []))

      -- a text that is put at the front now
      put_last : (p3 text : List ℕ) → p3 ≡ fronted p2 text → p3 ≡ overwritten p (texts_of s rule h.finds ++ text ∷ [])
      put_last p3 text put = put ∙ ap (λ (x : List ℕ). fronted x text) (same ∙ h.page) ∙ sym (overwritten_last p (texts_of s rule h.finds) text)

      -- the last line
      foot_line : found_line (tally_of h.book.told) ≡ found_line (tally_of (b.told ++ h.finds))
      foot_line = ap (λ (fs : List (List Bool)). found_line (tally_of fs)) h.told

      all_told : ((f : List Bool) → Roll s rule f → In f h.book.told) → (f : List Bool) → Roll s rule f → In f (b.told ++ h.finds)
      all_told all f member = subst (In f) h.told (all f member)

      -- a find is told: by what book the search stands then, and which find it is
      found_now : (k : ℕ) → reply ≡ Went (Found k) → (book : Book) × (f : List Bool) × Keeps s rule cell book q' × (book.find ≡ Some f) × (book.told ≡ b.told ++ (h.finds ++ f ∷ []))
      found_now k e =
          let made = now (Went (Found k)) e in
          let after = told made.1 made.2 in
          (found_book h.book after.0 k after.1, after.1, after.2, refl, told_last after.1)

      -- its text was handed on, with rests after it
      text_on : (f : List Bool) (p3 : List ℕ) (c d : A) → TextHanded takes rests fails (listing.Call (calling.Write (Page Short))) (text_in s rule f) p2 a (Ok tt) p3 c → Handed takes rests c [] d → Handed takes rests from (texts_of s rule (h.finds ++ f ∷ [])) d
      text_on f p3 c d text rest = subst (λ (ts : List (List ℕ)). Handed takes rests from ts d) (text_last f) (handed_still (handed_then h.handed text.1) rest)

      -- it was not
      text_off : (fault : ListFault) (f : List Bool) (p3 : List ℕ) (c : A) → TextHanded takes rests fails (listing.Call (calling.Write (Page Short))) (text_in s rule f) p2 a (Err fault) p3 c → Ended takes rests fails s rule b.told (h.finds ++ f ∷ []) p from (Err fault) p3 c
      text_off listing.Closed f p3 c text =
          record {
            texts = texts_of s rule (h.finds ++ f ∷ []);
            shown = so_far;
            broken = subst (λ (ts : List (List ℕ)). Broken takes rests fails from ts c) (text_last f) (broken_then h.handed text.1);
            page = put_last p3 (text_in s rule f) text.0 ∙ ap (overwritten p) (text_last f);
          }
      text_off (listing.Call fault) f p3 c text = (
        cc,
        record {
          first = h.finds;
          last = f;
          told = refl;
          long = subst (λ (n : ℕ). n < length (text_in s rule f)) (ap length same ∙ h.as_long) text.1;
          handed = subst (λ (a : A). Handed takes rests from (texts_of s rule h.finds) a) (sym text.3) h.handed;
          page = text.2 ∙ same ∙ h.page;
        },
      )
      text_off (listing.Foot fault) f p3 c text = never (cc)

      -- the last line was not handed on
      foot_off : (fault : ListFault) (p3 : List ℕ) (c : A) → ((f : List Bool) → Roll s rule f → In f (b.told ++ h.finds)) → TextHanded takes rests fails (listing.Foot Short) (found_line (tally_of (b.told ++ h.finds))) p2 a (Err fault) p3 c → Ended takes rests fails s rule b.told h.finds p from (Err fault) p3 c
      foot_off listing.Closed p3 c all text =
          record {
            texts = page_after s rule b.told h.finds;
            shown = in_full all;
            broken = broken_then h.handed text.1;
            page = put_last p3 (found_line (tally_of (b.told ++ h.finds))) text.0;
          }
      foot_off (listing.Call fault) p3 c all text = never (cc)
      foot_off (listing.Foot fault) p3 c all text =
          record {
            all = all;
            long = subst (λ (n : ℕ). n < length (found_line (tally_of (b.told ++ h.finds)))) (ap length same ∙ h.as_long) text.1;
            handed = subst (λ (a : A). Handed takes rests from (texts_of s rule h.finds) a) (sym text.3) h.handed;
            page = text.2 ∙ same ∙ h.page;
          }

    -- what `hand_find` promises of every find that stands
    abbrev pub FindHanded : Result (Unit {0}) ListFault → List ℕ → A → Type 0
    FindHanded result p3 c = (s : Surface) (rule : Rule) (cell : ℕ → ℕ) (book : Book) (f : List Bool) → Keeps s rule cell book q' → book.find ≡ Some f → TextHanded takes rests fails (listing.Call (calling.Write (Page Short))) (text_in s rule f) p2 a result p3 c

    -- and `hand_foot` of the last line
    abbrev pub FootHanded : Result (Unit {0}) ListFault → List ℕ → A → Type 0
    FootHanded result p3 c = (s : Surface) (rule : Rule) (cell : ℕ → ℕ) (book : Book) → Keeps s rule cell book q' → TextHanded takes rests fails (listing.Foot Short) (found_line (tally_of book.told)) p2 a result p3 c

    -- and that the sink rested after it
    abbrev pub FootSettled : A → Type 0
    FootSettled c = (s : Surface) (rule : Rule) (cell : ℕ → ℕ) (book : Book) → Keeps s rule cell book q' → Settled takes rests a (found_line (tally_of book.told) ∷ []) c

    -- a find is told and handed on
    pub found_on : (l : Ledger) → BegunBy takes rests l p from q p1 a → (k : ℕ) → reply ≡ Went (Found k) → (q'' : Search) (p3 : List ℕ) (c d : A) → q'' ≡ q' → length p3 ≡ length p2 → FindHanded (Ok tt) p3 c → Handed takes rests c [] d → BegunBy takes rests l p from q'' p3 d
    found_on blank h k e q'' p3 c d still long handing rest = elim (blank_goes (performed blank h.0).1) [ ]
    found_on (opened s rule cell b) h k e q'' p3 c d still long handing rest =
        let found = found_now h k e in
        let f = found.1 in
        let text = handing s rule cell found.0 f found.2 found.3 in
        record {
          finds = h.finds ++ f ∷ [];
          book = found.0;
          keeps = subst (Keeps s rule cell found.0) (sym still) found.2;
          told = found.4;
          handed = text_on h f p3 c d text rest;
          page = put_last h p3 (text_in s rule f) text.0 ∙ ap (overwritten p) (text_last h f);
          as_long = long ∙ ap length same ∙ h.as_long;
        }

    -- the sink failed as it rested after that
    pub found_unrested : (l : Ledger) → BegunBy takes rests l p from q p1 a → (k : ℕ) → reply ≡ Went (Found k) → (q'' : Search) (p3 : List ℕ) (c d : A) → q'' ≡ q' → FindHanded (Ok tt) p3 c → fails c [] d → RanBy takes rests fails l p from (Err listing.Closed) q'' p3 d
    found_unrested blank h k e q'' p3 c d still handing failed = elim (blank_goes (performed blank h.0).1) [ ]
    found_unrested (opened s rule cell b) h k e q'' p3 c d still handing failed =
        let found = found_now h k e in
        let f = found.1 in
        let text = handing s rule cell found.0 f found.2 found.3 in
        record {
          finds = h.finds ++ f ∷ [];
          book = found.0;
          keeps = subst (Keeps s rule cell found.0) (sym still) found.2;
          told = found.4;
          idle = tt;
          ended = record {
            texts = texts_of s rule (h.finds ++ f ∷ []);
            shown = so_far;
            broken = at_rest (text_on h f p3 c c text nothing) failed;
            page = put_last h p3 (text_in s rule f) text.0 ∙ ap (overwritten p) (text_last h f);
          };
        }

    -- it is told and not handed on
    pub found_off : (l : Ledger) → BegunBy takes rests l p from q p1 a → (k : ℕ) → reply ≡ Went (Found k) → (fault : ListFault) (q'' : Search) (p3 : List ℕ) (c : A) → q'' ≡ q' → FindHanded (Err fault) p3 c → RanBy takes rests fails l p from (Err fault) q'' p3 c
    found_off blank h k e fault q'' p3 c still handing = elim (blank_goes (performed blank h.0).1) [ ]
    found_off (opened s rule cell b) h k e fault q'' p3 c still handing =
        let found = found_now h k e in
        let f = found.1 in
        record {
          finds = h.finds ++ f ∷ [];
          book = found.0;
          keeps = subst (Keeps s rule cell found.0) (sym still) found.2;
          told = found.4;
          idle = tt;
          ended = text_off h fault f p3 c (handing s rule cell found.0 f found.2 found.3);
        }

    -- nothing is told
    pub paused_on : (l : Ledger) → BegunBy takes rests l p from q p1 a → (k : ℕ) → reply ≡ Went (Paused k) → (q'' : Search) (p3 : List ℕ) (c d : A) → q'' ≡ q' → p3 ≡ p2 → c ≡ a → Handed takes rests c [] d → BegunBy takes rests l p from q'' p3 d
    paused_on blank h k e q'' p3 c d still unwritten sink rest = elim (blank_goes (performed blank h.0).1) [ ]
    paused_on (opened s rule cell b) h k e q'' p3 c d still unwritten sink rest =
        let made = now h (Went (Paused k)) e in
        let after = paused made.1 made.2 in
        record {
          finds = h.finds;
          book = idle_book h.book after.0 k;
          keeps = subst (Keeps s rule cell (idle_book h.book after.0 k)) (sym still) after.1;
          told = h.told;
          handed = handed_still h.handed (subst (λ (c : A). Handed takes rests c [] d) sink rest);
          page = unwritten ∙ same ∙ h.page;
          as_long = ap length (unwritten ∙ same) ∙ h.as_long;
        }

    -- the sink failed as it rested after that
    pub paused_unrested : (l : Ledger) → BegunBy takes rests l p from q p1 a → (k : ℕ) → reply ≡ Went (Paused k) → (q'' : Search) (p3 : List ℕ) (c d : A) → q'' ≡ q' → p3 ≡ p2 → c ≡ a → fails c [] d → RanBy takes rests fails l p from (Err listing.Closed) q'' p3 d
    paused_unrested blank h k e q'' p3 c d still unwritten sink failed = elim (blank_goes (performed blank h.0).1) [ ]
    paused_unrested (opened s rule cell b) h k e q'' p3 c d still unwritten sink failed =
        let made = now h (Went (Paused k)) e in
        let after = paused made.1 made.2 in
        record {
          finds = h.finds;
          book = idle_book h.book after.0 k;
          keeps = subst (Keeps s rule cell (idle_book h.book after.0 k)) (sym still) after.1;
          told = h.told;
          idle = tt;
          ended = record {
            texts = texts_of s rule h.finds;
            shown = so_far;
            broken = at_rest h.handed (subst (λ (c : A). fails c [] d) sink failed);
            page = unwritten ∙ same ∙ h.page;
          };
        }

    -- all is told, and the last line handed on
    pub done_on : (l : Ledger) → BegunBy takes rests l p from q p1 a → (k : ℕ) → reply ≡ Went (Done k) → (q'' : Search) (p3 : List ℕ) (c : A) → q'' ≡ q' → FootHanded (Ok tt) p3 c → FootSettled c → RanBy takes rests fails l p from (Ok tt) q'' p3 c
    done_on blank h k e q'' p3 c still handing settling = elim (blank_goes (performed blank h.0).1) [ ]
    done_on (opened s rule cell b) h k e q'' p3 c still handing settling =
        let made = now h (Went (Done k)) e in
        let after = ended made.1 made.2 in
        let book = idle_book h.book after.0 k in
        let text = handing s rule cell book after.1 in
        let line = foot_line h in
        let settled = settling s rule cell book after.1 in
        record {
          finds = h.finds;
          book = book;
          keeps = subst (Keeps s rule cell book) (sym still) after.1;
          told = h.told;
          idle = refl;
          ended = record {
            all = all_told h after.2;
            handed = subst (λ (text : List ℕ). Handed takes rests from (texts_of s rule h.finds ++ text ∷ []) c) line (handed_then h.handed text.1);
            settled = (settled.0, subst (λ (text : List ℕ). Handed takes rests from (texts_of s rule h.finds ++ text ∷ []) settled.0) line (handed_then h.handed settled.1), settled.2);
            page = put_last h p3 (found_line (tally_of book.told)) text.0 ∙ ap (λ (text : List ℕ). overwritten p (texts_of s rule h.finds ++ text ∷ [])) line;
          };
        }

    -- all is told, and the last line is not handed on
    pub done_off : (l : Ledger) → BegunBy takes rests l p from q p1 a → (k : ℕ) → reply ≡ Went (Done k) → (fault : ListFault) (q'' : Search) (p3 : List ℕ) (c : A) → q'' ≡ q' → FootHanded (Err fault) p3 c → RanBy takes rests fails l p from (Err fault) q'' p3 c
    done_off blank h k e fault q'' p3 c still handing = elim (blank_goes (performed blank h.0).1) [ ]
    done_off (opened s rule cell b) h k e fault q'' p3 c still handing =
        let made = now h (Went (Done k)) e in
        let after = ended made.1 made.2 in
        let book = idle_book h.book after.0 k in
        record {
          finds = h.finds;
          book = book;
          keeps = subst (Keeps s rule cell book) (sym still) after.1;
          told = h.told;
          idle = tt;
          ended = foot_off h fault p3 c (all_told h after.2) (subst (λ (text : List ℕ). TextHanded takes rests fails (listing.Foot Short) text p2 a (Err fault) p3 c) (foot_line h) (handing s rule cell book after.1));
        }

-- ---- at the opening nothing is handed on
pub begun : {A : Type 0} (takes : A → List ℕ → A → Type 0) (rests : A → A → Type 0) (q : Search) (p : List ℕ) (a : A) (l : Ledger) → Stands l q → BegunBy takes rests l p a q p a
begun takes rests q p a blank h = (h, refl, refl)
begun takes rests q p a (opened s rule cell b) h = record { finds = []; book = b; keeps = h; told = sym (append-nil b.told); handed = nothing; page = refl; as_long = refl }
