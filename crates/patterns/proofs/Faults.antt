-- Reading stops at the first fault of a text, and where a text is first at fault reading stops.
use Rattle.std.proofs.Common.{◌≡◌, ℕ, ◌<◌, ◌≤◌, List, [], ◌∷◌, ◌++◌, length, None, sym, refl, ap, ◌∙◌, subst, inl, inr, arith, append-nil, length-append}
use Rattle.std.specs.List.{flat_map}
use Rattle.std.proofs.lemmas.Bool.{cases_lt}
use Rattle.std.proofs.lemmas.List.{append_assoc}
use Rattle.std.proofs.lemmas.Fmt.{decimal_nonempty}
use Rattle.rle.specs.declared.fault.ReadCause.{ReadCause}
use Rattle.rle.specs.declared.fault.ReadCause.TheVariants.{TooLong, Byte, Size, Outside, Ended}
use Rattle.rle.specs.declared.mark.Run.{Run}
use Rattle.rle.specs.declared.phase.Phase.TheVariants.{Opening}
use Rattle.rle.specs.Forms.{BareForm, BodyForm, CountForm, Numeral, RunsForm, ended}
use Rattle.rle.specs.Items.{Stops, before_height}
use Rattle.rle.specs.Laws.{AtFault, FirstFault, LargeSize, RunOutside, EndsEarly}
use Rattle.rle.specs.Runs.{letter_of}
use Rattle.rle.proofs.Numerals.{one_numeral}
use Rattle.rle.proofs.Places.{fault_last}
use Rattle.rle.proofs.Stopping.{stops_at_fault}
use Rattle.rle.proofs.Stops.{stops_at_large, stops_outside, stops_once}
use Rattle.rle.proofs.Turns.{plain, spells_plain}
use Rattle.patterns.specs.Laws.{FirstAt}

-- some bytes begin a text of the grammar
abbrev Begins : List ℕ → Type 0
Begins u = (rest : List ℕ) × BareForm (u ++ rest)

with_height : (f b d x tail : List ℕ) (n : ℕ) → (f ++ (b ++ d)) ++ (x ++ (n ∷ tail)) ≡ f ++ ((b ++ (d ++ x)) ++ (n ∷ tail))
with_height f b d x tail n = simp append_assoc

with_end : (f a w s d tail : List ℕ) (n : ℕ) → (f ++ ((a ++ (w ++ s)) ++ d)) ++ (n ∷ tail) ≡ f ++ ((a ++ (w ++ (s ++ (d ++ [])))) ++ (n ∷ tail))
with_end f a w s d tail n = simp (append_assoc, append-nil)

-- a size over 32 begins such a text with all its digits
large_begins : (text at : List ℕ) (l : LargeSize text at) → Begins (flat_map ended l.remarks ++ (l.before ++ l.digits))
large_begins text at l =
    let f = flat_map ended l.remarks in
    let one : List ℕ = 49 ∷ [] in
    let body : List ℕ = 33 ∷ [] in
    elim l.leads [
      | inl spelled ↦
          (let more = plain before_height ++ (one ++ []) in
          let line = l.before ++ (l.digits ++ more) in (
            more ++ (10 ∷ body),
            (
              l.remarks,
              l.number,
              1,
              None,
              [],
              record {
                line = line;
                body = body;
                remarked = l.remarked;
                headed = record {
                  first = l.before;
                  width = l.digits;
                  second = plain before_height;
                  height = one;
                  tail = [];
                  first_spelled = spelled;
                  is_width = l.numeral;
                  second_spelled = spells_plain before_height;
                  is_height = one_numeral;
                  ruled = tt;
                  whole = refl;
                };
                bodied = ([], [], tt, refl);
                whole = with_height f l.before l.digits more body 10;
              },
            ),
          ))
      | inr (first, w, width, second, spelled, is_width, narrow, second_spelled, e) ↦
          (let line = first ++ (width ++ (second ++ (l.digits ++ []))) in (
            10 ∷ body,
            (
              l.remarks,
              w,
              l.number,
              None,
              [],
              record {
                line = line;
                body = body;
                remarked = l.remarked;
                headed = record {
                  first = first;
                  width = width;
                  second = second;
                  height = l.digits;
                  tail = [];
                  first_spelled = spelled;
                  is_width = is_width;
                  second_spelled = second_spelled;
                  is_height = l.numeral;
                  ruled = tt;
                  whole = refl;
                };
                bodied = ([], [], tt, refl);
                whole = ap (λ x. (f ++ (x ++ l.digits)) ++ (10 ∷ body)) e ∙ with_end f first width second l.digits body 10;
              },
            ),
          ))
    ]

-- runs and one more, and the end
run_on : (runs : List Run) (before : List ℕ) → RunsForm runs before → (r : Run) (u : List ℕ) → CountForm r.count u → BodyForm (runs ++ (r ∷ [])) (before ++ (u ++ (letter_of r.mark ∷ (33 ∷ []))))
run_on [] before h r u form = (before, u, 33 ∷ [], h, form, ([], [], tt, refl), refl)
run_on (q ∷ qs) before h r u form =
    let t = u ++ (letter_of r.mark ∷ (33 ∷ [])) in (
      h.0,
      h.1,
      h.2 ++ t,
      h.3,
      h.4,
      run_on qs h.2 h.5 r u form,
      ap (λ x. x ++ t) h.6 ∙ append_assoc h.0 (h.1 ++ (letter_of q.mark ∷ h.2)) t ∙ ap (λ x. h.0 ++ x) (append_assoc h.1 (letter_of q.mark ∷ h.2) t),
    )

with_run : (f line before u : List ℕ) (n m e : ℕ) → (f ++ (line ++ (n ∷ (before ++ (u ++ (m ∷ [])))))) ++ (e ∷ []) ≡ f ++ (line ++ (n ∷ (before ++ (u ++ (m ∷ (e ∷ []))))))
with_run f line before u n m e = simp append_assoc

-- so does a run outside with its mark
outside_begins : (text at : List ℕ) (o : RunOutside text at) → Begins (flat_map ended o.remarks ++ (o.line ++ (10 ∷ (o.before ++ (o.count ++ (letter_of o.run.mark ∷ []))))))
outside_begins text at o =
    let body = o.before ++ (o.count ++ (letter_of o.run.mark ∷ (33 ∷ []))) in (
      33 ∷ [],
      (
        o.remarks,
        o.w,
        o.h,
        o.rule,
        o.runs ++ (o.run ∷ []),
        record {
          line = o.line;
          body = body;
          remarked = o.remarked;
          headed = o.headed;
          bodied = run_on o.runs o.before o.spelled o.run o.count o.counted;
          whole = with_run (flat_map ended o.remarks) o.line o.before o.count 10 (letter_of o.run.mark) 33;
        },
      ),
    )

-- of two ways to split a text the longer front goes on where the shorter ends
longer : (a b c d : List ℕ) (x : ℕ) → a ++ b ≡ c ++ (x ∷ d) → length c < length a → (m : List ℕ) × (a ≡ c ++ (x ∷ m))
longer [] b c d x e h = absurd (omega arith)
longer (y ∷ ys) b [] d x e h = let same : y ≡ x = cc in (ys, ap (λ z. z ∷ ys) same)
longer (y ∷ ys) b (z ∷ zs) d x e h =
    let same : y ≡ z = cc in
    let rest : ys ++ b ≡ zs ++ (x ∷ d) = cc in
    let more = longer ys b zs d x rest (omega arith) in
    (more.0, (λ i. same i ∷ more.1 i))

-- what begins a text of the grammar does not go on past a byte that is out of place
not_past : (text u v there : List ℕ) (f : FirstFault text there) → text ≡ u ++ v → Begins u → length v < length there → ⊥
not_past text u v there f e begins less =
    let both : u ++ v ≡ f.before ++ (f.byte ∷ f.after) = sym e ∙ f.whole ∙ ap (λ x. f.before ++ x) f.stands in
    let long = ap length both in
    let counts = length-append u v in
    let other = length-append f.before (f.byte ∷ f.after) in
    let more = longer u v f.before f.after f.byte both (omega (arith, long, counts, other, ap length f.stands)) in
    let whole : u ++ begins.0 ≡ f.before ++ (f.byte ∷ (more.0 ++ begins.0)) = ap (λ x. x ++ begins.0) more.1 ∙ append_assoc f.before (f.byte ∷ more.0) begins.0 in
    f.none (more.0 ++ begins.0) (subst BareForm whole begins.1)

split_size : (f b d a : List ℕ) → f ++ (b ++ (d ++ a)) ≡ (f ++ (b ++ d)) ++ a
split_size f b d a = simp append_assoc

split_run : (f line before count after : List ℕ) (n m : ℕ) → f ++ (line ++ (n ∷ (before ++ (count ++ (m ∷ after))))) ≡ (f ++ (line ++ (n ∷ (before ++ (count ++ (m ∷ [])))))) ++ after
split_run f line before count after n m = simp append_assoc

-- what stands before a fault, and with it a number or a run that is at fault, begins such a text
record Begun (text at : List ℕ) : Type 0 where
  front : List ℕ
  back : List ℕ
  whole : text ≡ front ++ back
  begins : Begins front
  within : length back ≤ length at

begun : (text : List ℕ) (cause : ReadCause) (at : List ℕ) → length text ≤ 65536 → AtFault text cause at → Begun text at
begun text TooLong at short h = absurd (omega (arith, h.0))
begun text Byte at short h = record { front = h.before; back = at; whole = h.whole; begins = h.begins; within = omega arith }
begun text Size at short h =
    let f = flat_map ended h.remarks in record {
      front = f ++ (h.before ++ h.digits);
      back = h.after;
      whole = h.whole ∙ ap (λ x. f ++ (h.before ++ x)) h.stands ∙ split_size f h.before h.digits h.after;
      begins = large_begins text at h;
      within = omega (arith, ap length h.stands, length-append h.digits h.after);
    }
begun text Outside at short h =
    let f = flat_map ended h.remarks in record {
      front = f ++ (h.line ++ (10 ∷ (h.before ++ (h.count ++ (letter_of h.run.mark ∷ [])))));
      back = h.after;
      whole = h.whole ∙ ap (λ x. f ++ (h.line ++ (10 ∷ (h.before ++ x)))) h.stands ∙ split_run f h.line h.before h.count h.after 10 (letter_of h.run.mark);
      begins = outside_begins text at h;
      within = omega (arith, ap length h.stands, length-append h.count (letter_of h.run.mark ∷ h.after));
    }
begun text Ended at short h = record { front = text; back = []; whole = sym (append-nil text); begins = h.begins; within = omega arith }

-- a reader stops at no later byte than any fault
no_later : (text : List ℕ) (cause : ReadCause) (at : List ℕ) → length text ≤ 65536 → Stops Opening text cause at → (other : ReadCause) (there : List ℕ) → AtFault text other there → length there ≤ length at
no_later text cause at short s TooLong there h = absurd (omega (arith, h.0))
no_later text cause at short s Byte there h =
    elim (cases_lt (length at) (length there)) [
      | inl less ↦ (let b = begun text cause at short (stops_at_fault text cause at s) in absurd (not_past text b.front b.back there h b.whole b.begins (omega (arith, b.within, less))))
      | inr more ↦ more
    ]
no_later text cause at short s Size there h = let same = stops_once text Size cause there at (stops_at_large text there h) s in omega (arith, ap length same.1)
no_later text cause at short s Outside there h = let same = stops_once text Outside cause there at (stops_outside text there h) s in omega (arith, ap length same.1)
no_later text cause at short s Ended there h = omega (arith, ap length h.last)

-- so that it stops where the text is first at fault
pub stops_first : (text : List ℕ) (cause : ReadCause) (at : List ℕ) → length text ≤ 65536 → Stops Opening text cause at → FirstAt text cause at
stops_first text cause at short s = record { fault = stops_at_fault text cause at s; first = no_later text cause at short s }

-- some bytes that are the last of a text are known by their number
same_tail : (b c x y : List ℕ) → b ++ x ≡ c ++ y → length x ≡ length y → x ≡ y
same_tail [] [] x y e h = e
same_tail [] (c ∷ cs) x y e h = absurd (omega (arith, ap length e, length-append cs y))
same_tail (b ∷ bs) [] x y e h = absurd (omega (arith, ap length e, length-append bs x))
same_tail (b ∷ bs) (c ∷ cs) x y e h = let rest : bs ++ x ≡ cs ++ y = cc in same_tail bs cs x y rest h

digits_some : (n : ℕ) (u : List ℕ) → Numeral n u → 0 < length u
digits_some n u h = omega (arith, ap length h.2, decimal_nonempty n)

-- a byte out of place is no size, no run outside and no end
byte_alone : (text : List ℕ) (other : ReadCause) (at : List ℕ) → length text ≤ 65536 → FirstFault text at → AtFault text other at → Byte ≡ other
unfolding begun
byte_alone text TooLong at short f h = absurd (omega (arith, h.0))
byte_alone text Byte at short f h = refl
byte_alone text Size at short f h =
    let b = begun text Size at short h in
    absurd (not_past text b.front b.back at f b.whole b.begins (omega (arith, ap length h.stands, length-append h.digits h.after, digits_some h.number h.digits h.numeral)))
byte_alone text Outside at short f h =
    let b = begun text Outside at short h in
    absurd (not_past text b.front b.back at f b.whole b.begins (omega (arith, ap length h.stands, length-append h.count (letter_of h.run.mark ∷ h.after))))
byte_alone text Ended at short f h = absurd (omega (arith, ap length h.last, ap length f.stands))

-- and an end is nothing else
end_alone : (text : List ℕ) (other : ReadCause) (at : List ℕ) → length text ≤ 65536 → EndsEarly text at → AtFault text other at → Ended ≡ other
end_alone text TooLong at short e h = absurd (omega (arith, h.0))
end_alone text Byte at short e h = absurd (omega (arith, ap length e.last, ap length h.stands))
end_alone text Size at short e h = absurd (omega (arith, ap length e.last, ap length h.stands, length-append h.digits h.after, digits_some h.number h.digits h.numeral))
end_alone text Outside at short e h = absurd (omega (arith, ap length e.last, ap length h.stands, length-append h.count (letter_of h.run.mark ∷ h.after)))
end_alone text Ended at short e h = refl

same_cause : (text : List ℕ) (cause other : ReadCause) (at : List ℕ) → length text ≤ 65536 → AtFault text cause at → Stops Opening text other at → cause ≡ other
same_cause text TooLong other at short h s = absurd (omega (arith, h.0))
same_cause text Byte other at short h s = byte_alone text other at short h (stops_at_fault text other at s)
same_cause text Size other at short h s = (stops_once text Size other at at (stops_at_large text at h) s).0
same_cause text Outside other at short h s = (stops_once text Outside other at at (stops_outside text at h) s).0
same_cause text Ended other at short h s = end_alone text other at short h (stops_at_fault text other at s)

-- a text that is first at fault somewhere is one at which a reader stops there, where it stops anywhere
pub first_stops : (text : List ℕ) (cause other : ReadCause) (at there : List ℕ) → length text ≤ 65536 → FirstAt text cause at → Stops Opening text other there → Stops Opening text cause at
first_stops text cause other at there short f s =
    let hit = stops_at_fault text other there s in
    let one = no_later text other there short s cause at f.fault in
    let two = f.first other there hit in
    let a = fault_last text cause at f.fault in
    let b = fault_last text other there hit in
    let same : at ≡ there = same_tail a.0 b.0 at there (sym a.1 ∙ b.1) (omega arith) in
    let here : Stops Opening text other at = subst (Stops Opening text other) (sym same) s in
    subst (λ c. Stops Opening text c at) (sym (same_cause text cause other at short f.fault here)) here

-- and it stops somewhere, since a text that is read is at no fault
pub read_no_fault : (text : List ℕ) (cause : ReadCause) (at : List ℕ) → length text ≤ 65536 → BareForm text → ((c : ReadCause) (a : List ℕ) → Stops Opening text c a → ⊥) → AtFault text cause at → ⊥
read_no_fault text TooLong at short form never h = omega (arith, h.0)
read_no_fault text Byte at short form never h = h.none h.after (subst BareForm (h.whole ∙ ap (λ x. h.before ++ x) h.stands) form)
read_no_fault text Size at short form never h = never Size at (stops_at_large text at h)
read_no_fault text Outside at short form never h = never Outside at (stops_outside text at h)
read_no_fault text Ended at short form never h = h.none form
