-- The account of a list of calls and a list of texts.
use Rattle.std.proofs.Common.{◌≡◌, ℕ, suc, ◌+◌, ◌*◌, ◌<◌, ◌≤◌, Bool, Bor, List, [], ◌∷◌, ◌++◌, ◌⊎◌, inl, inr, map, length, take, get_or, None, Ok, Err, Result, refl, sym, ap, ◌∙◌, subst, arith}
use Rattle.std.specs.Global.{Vec}
use Rattle.std.proofs.Math.Seq.{take-suc}
use Rattle.std.proofs.lemmas.List.{map-append, take_all}
use Rattle.rules.specs.declared.rule.Rule.{Rule}
use Rattle.rolls.specs.Rolls.{Surface, Lawful, Roll}
use Rattle.systems.specs.Systems.{In, here, there}
use Rattle.systems.proofs.Base.{never}
use Rattle.histories.specs.Listed.{Listed}
use Rattle.checking.specs.declared.fault.CheckFault.{CheckFault}
use Rattle.checking.specs.declared.fault.CheckFault.TheVariants.{Rows}
use Rattle.checking.proofs.Verdicts.{verdicts_right}
use Rattle.checking.specs.Verdicts.{VerdictOn, accepts, breaks_instance, breaks_tie, many_rows, misread, no_memory, no_rule, other_rule, shown, too_large}
use Rattle.search.specs.declared.search.Search.{Search}
use Rattle.calls.specs.Asked.{Asked, to_open}
use Rattle.calls.specs.Histories.{Keeps, Performed, Stands}
use Rattle.calls.specs.Ledgers.{Answered, Book, Called, Ledger, Made, Run, blank, calls_on, many_rows as over_rows, new_book, no_calls, no_memory as unopened, opened, opens, tally_of}
use Rattle.calls.specs.declared.call.Reply.TheVariants.{Opened}
use Rattle.accounting.specs.Accounts.{Accounted, AcceptsNone, Agreed, Both, EachJudged, Ended, Neither, OnePage, Unopened}
use Rattle.accounting.specs.declared.report.Report.{Report}
use Rattle.accounting.proofs.Told.{AllTold, all_told, none_ended, opened_on}

-- ---- texts, one after another
pub judged_then : (s : Surface) (rule : Rule) (texts : List (List ℕ)) (verdicts : List (Result (Vec Bool) CheckFault)) (text : List ℕ) (verdict : Result (Vec Bool) CheckFault) → EachJudged s rule texts verdicts → VerdictOn s rule text (shown verdict) →
    EachJudged s rule (texts ++ text ∷ []) (verdicts ++ verdict ∷ [])
judged_then s rule [] [] text verdict h v = (v, tt)
judged_then s rule [] (w ∷ verdicts) text verdict h v = absurd h
judged_then s rule (t ∷ texts) [] text verdict h v = absurd h
judged_then s rule (t ∷ texts) (w ∷ verdicts) text verdict h v = (h.0, judged_then s rule texts verdicts text verdict h.1 v)

pub none_judged : (s : Surface) (rule : Rule) (verdicts : List (Result (Vec Bool) CheckFault)) → length verdicts ≡ 0 → EachJudged s rule [] verdicts
none_judged s rule [] e = tt
none_judged s rule (v ∷ verdicts) e = never (omega (arith, e))

-- over more than 8 rows of ties each verdict is that
too_many : {s : Surface} {rule : Rule} {text : List ℕ} {verdict : Result (List Bool) CheckFault} → 8 < s.rows → VerdictOn s rule text verdict → verdict ≡ Err Rows
too_many more (many_rows m) = refl
too_many more (misread fault few h) = never (omega (arith, more, few))
too_many more (no_rule p cause few h) = never (omega (arith, more, few))
too_many more (other_rule p other few h k) = never (omega (arith, more, few))
too_many more (too_large p few h k) = never (omega (arith, more, few))
too_many more (breaks_instance p at fits h) = never (omega (arith, more, fits.few))
too_many more (breaks_tie p at fits h k) = never (omega (arith, more, fits.few))
too_many more (accepts p fits h) = never (omega (arith, more, fits.few))
too_many more (no_memory p e fits) = never (omega (arith, more, fits.few))

-- ---- calls, one after another
-- on the page as it was left
page_on : (from p p' : List ℕ) (made : List Made) (c : Asked) (a : Answered) → OnePage from made p → OnePage from (made ++ record { before = p; call = c; answer = a; after = p' } ∷ []) p'
page_on from p p' [] c a h = (h, refl)
page_on from p p' (m ∷ made) c a h = (h.0, page_on m.after p p' made c a h.1)

-- a run behind a call
behind : {l l' k : Ledger} {p p' : List ℕ} {c : Asked} {a : Answered} {made : List Made} → Called l p c a l' p' → Run l' made k → Run l (record { before = p; call = c; answer = a; after = p' } ∷ made) k
behind called no_calls = calls_on no_calls called
behind called (calls_on run next) = calls_on (behind called run) next

-- what stands between two calls: an opening was asked, which left the page as it was, and the calls behind it were made on that page
pub record Ongoing (s : Surface) (rule : Rule) (at : ℕ → ℕ) (from : List ℕ) (calls : List Asked) (opening : Answered) (answers : List Answered) (q : Search) (page : List ℕ) : Type 0 where
  pub begun : Ledger
  pub opens : Called blank from (to_open s rule at) opening begun from
  pub made : List Made
  pub asked : map (λ (m : Made). m.call) made ≡ calls
  pub answered : map (λ (m : Made). m.answer) made ≡ answers
  pub on_page : OnePage from made page
  pub ledger : Ledger
  pub run : Run begun made ledger
  pub stands : Stands ledger q

module _ (s : Surface) (rule : Rule) (at : ℕ → ℕ) where
  -- the opening leaves the page as it is
  page_kept : {a : Answered} {l : Ledger} {p p' : List ℕ} → Called blank p (to_open s rule at) a l p' → p' ≡ p
  page_kept (opens rank i o few) = refl
  page_kept (over_rows m) = refl
  page_kept (unopened f) = refl

  -- the opening is made
  pub begun : (q q' : Search) (p p' : List ℕ) (a : Answered) → q.record ≡ None → Performed blank q p (to_open s rule at) a q' p' → (answers : List Answered) → answers ≡ [] → Ongoing s rule at p [] a answers q' p'
  begun q q' p p' a h performed answers none =
      let now = performed h in
      let same : p' ≡ p = page_kept now.1 in
      record {
        begun = now.0;
        opens = subst (λ (page : List ℕ). Called blank p (to_open s rule at) a now.0 page) same now.1;
        made = [];
        asked = refl;
        answered = sym none;
        on_page = same;
        ledger = now.0;
        run = no_calls;
        stands = now.2;
      }

  -- one call more
  pub onward : (from p p' : List ℕ) (calls calls' : List Asked) (opening a : Answered) (answers answers' : List Answered) (q q' : Search) (c : Asked) → Ongoing s rule at from calls opening answers q p → ((l : Ledger) → Performed l q p c a q' p') →
      calls' ≡ calls ++ c ∷ [] → answers' ≡ answers ++ a ∷ [] → Ongoing s rule at from calls' opening answers' q' p'
  onward from p p' calls calls' opening a answers answers' q q' c h performed more longer =
      let now = performed h.ledger h.stands in
      record {
        begun = h.begun;
        opens = h.opens;
        made = h.made ++ record { before = p; call = c; answer = a; after = p' } ∷ [];
        asked = map-append (λ (m : Made). m.call) h.made _ ∙ ap (λ (calls : List Asked). calls ++ c ∷ []) h.asked ∙ sym more;
        answered = map-append (λ (m : Made). m.answer) h.made _ ∙ ap (λ (answers : List Answered). answers ++ a ∷ []) h.answered ∙ sym longer;
        on_page = page_on from p p' h.made c a h.on_page;
        ledger = now.0;
        run = calls_on h.run now.1;
        stands = now.2;
      }

-- a list with nothing in it
pub emptied : {A : Type 0} (xs : List A) → length xs ≡ 0 → xs ≡ []
emptied [] e = refl
emptied (x ∷ xs) e = never (omega (arith, e))

one_more : (i : ℕ) → i + 1 ≡ suc i
one_more i = omega arith

-- what is asked by one more
pub asked_more : {A B : Type 0} (ask : A → B) (calls : List A) (i : ℕ) (call d : A) → i < length calls → call ≡ get_or calls i d → map ask (take (i + 1) calls) ≡ map ask (take i calls) ++ ask call ∷ []
asked_more ask calls i call d less e = ap (λ (n : ℕ). map ask (take n calls)) (one_more i) ∙ ap (map ask) (take-suc calls i d less) ∙ map-append ask (take i calls) _ ∙ ap (λ c. map ask (take i calls) ++ ask c ∷ []) (sym e)

pub asked_all : {A B : Type 0} (ask : A → B) (calls : List A) (i : ℕ) → length calls ≤ i → map ask (take i calls) ≡ map ask calls
asked_all ask calls i all = ap (map ask) (take_all i calls all)

-- the verdict on one text more
pub judged_more : (s : Surface) (rule : Rule) (texts : List (Bor (List ℕ))) (i : ℕ) (d : Bor (List ℕ)) (verdicts verdicts' : List (Result (Vec Bool) CheckFault)) (verdict : Result (Vec Bool) CheckFault) → i < length texts →
    EachJudged s rule (map (λ text. text.now) (take i texts)) verdicts → VerdictOn s rule (get_or texts i d).now (shown verdict) → verdicts' ≡ verdicts ++ verdict ∷ [] → EachJudged s rule (map (λ text. text.now) (take (i + 1) texts)) verdicts'
judged_more s rule texts i d verdicts verdicts' verdict less was v longer =
    subst (λ (verdicts : List (Result (Vec Bool) CheckFault)). EachJudged s rule (map (λ text. text.now) (take (i + 1) texts)) verdicts) (sym longer)
    (subst (λ (texts : List (List ℕ)). EachJudged s rule texts (verdicts ++ verdict ∷ [])) (sym (asked_more (λ text. text.now) texts i (get_or texts i d) d less refl)) (judged_then s rule (map (λ text. text.now) (take i texts)) verdicts (get_or texts i d).now verdict was v))

-- ---- the roll and the checker
none_told : (fs : List (List Bool)) → tally_of fs ≡ 0 → fs ≡ []
none_told [] e = refl
none_told (f ∷ fs) e = never (omega (arith, e))

not_in : {A : Type 0} {a : A} {xs : List A} → xs ≡ [] → In a xs → ⊥
not_in e here = never (cc)
not_in e (there m) = never (cc)

module _ (s : Surface) (rule : Rule) (at : ℕ → ℕ) (law : Lawful s) where
  module _ (few : s.rows ≤ 8) where
    accepts_none : (told : List (List Bool)) → ((f : List Bool) → Roll s rule f → In f told) → tally_of told ≡ 0 → AcceptsNone s rule
    accepts_none told all none text first accepted = let f = (verdicts_right.roll s rule first law few).1 (text, accepted) in not_in (none_told told none) (all f.0 f.1)

    tells_none : (told : List (List Bool)) → ((f : List Bool) → In f told → Roll s rule f) → AcceptsNone s rule → tally_of told ≡ 0
    tells_none [] members none = refl
    tells_none (f ∷ fs) members none =
        let text = (verdicts_right.roll s rule (take (s.frame.width * s.frame.height) f) law few).0 (f, members f here, refl) in
        absurd (none text.0 _ text.1)

    agreed : (answers : List Answered) (b : Book) → Listed s rule at b.steps b.told → (Ended answers → (f : List Bool) → Roll s rule f → In f b.told) → Agreed s rule at answers b
    agreed answers b listed whole =
        record {
          listed = listed;
          whole = whole;
          none = λ ended. (accepts_none b.told (whole ended), tells_none b.told listed.members);
        }

  -- ---- both of them
  module _ (a : Report) (q : Search) where
    -- a search that was opened
    both : s.rows ≤ 8 → (made : List Made) (ledger : Ledger) → a.opened ≡ Ok Opened → map (λ (m : Made). m.answer) made ≡ a.answers.items → Run (opened s rule at new_book) made ledger → Stands ledger q → Both s rule at a ledger
    both few made ledger granted answered run stands =
        let on = opened_on run in
        let told : AllTold (map (λ (m : Made). m.answer) made) ledger = all_told (λ e. absurd (none_ended e)) run in
        let whole : AllTold a.answers.items (opened s rule at on.0) = subst (λ (l : Ledger). AllTold a.answers.items l) on.1 (subst (λ (answers : List Answered). AllTold answers ledger) answered told) in
        let keeps : Keeps s rule at on.0 q = subst (λ (l : Ledger). Stands l q) on.1 stands in
        record {
          granted = granted;
          book = on.0;
          ledger = on.1;
          agreed = agreed few a.answers.items on.0 keeps.listed whole;
        }

    -- by what the opening came to
    less_rows : (p p' : List ℕ) (made : List Made) (opening : Answered) (first ledger : Ledger) → Called blank p (to_open s rule at) opening first p' → a.opened ≡ opening → map (λ (m : Made). m.answer) made ≡ a.answers.items → Run first made ledger → Stands ledger q → s.rows ≤ 8 → Both s rule at a ledger ⊎ Unopened a made ledger
    less_rows p p' made opening first ledger (opens rank i o few) granted answered run stands less = inl (both few made ledger granted answered run stands)
    less_rows p p' made opening first ledger (over_rows m) granted answered run stands less = never (omega (arith, m, less))
    less_rows p p' made opening first ledger (unopened f) wanting answered run stands less = inr (record { wanting = wanting; blank_on = run })

    more_rows : (p p' : List ℕ) (made : List Made) (opening : Answered) (first ledger : Ledger) → Called blank p (to_open s rule at) opening first p' → a.opened ≡ opening → Run first made ledger → 8 < s.rows → Neither s rule a made ledger
    more_rows p p' made opening first ledger (opens rank i o few) granted run more = never (omega (arith, few, more))
    more_rows p p' made opening first ledger (over_rows m) refused run more =
        record { opening = refused; blank_on = run; checks = λ text verdict due. too_many m due }
    more_rows p p' made opening first ledger (unopened f) wanting run more = never (omega (arith, f, more))

  pub accounted : (from to : List ℕ) (calls asked : List Asked) (texts : List (List ℕ)) (a : Report) (q : Search) → EachJudged s rule texts a.verdicts.items → asked ≡ calls → Ongoing s rule at from asked a.opened a.answers.items q to →
      Accounted s rule at calls texts a from to
  accounted from to calls asked texts a q verdicts whole h =
      record {
        verdicts = verdicts;
        opening = record { before = from; call = to_open s rule at; answer = a.opened; after = from };
        made = h.made;
        asked = ap (λ (calls : List Asked). to_open s rule at ∷ calls) (h.asked ∙ whole);
        answered = ap (λ (answers : List Answered). a.opened ∷ answers) h.answered;
        on_page = (refl, h.on_page);
        ledger = h.ledger;
        run = behind h.opens h.run;
        few = λ less. less_rows a q from from h.made a.opened h.begun h.ledger h.opens refl h.answered h.run h.stands less;
        many = λ more. more_rows a q from from h.made a.opened h.begun h.ledger h.opens refl h.run more;
        exactly = λ less first. verdicts_right.roll s rule first law less;
      }
