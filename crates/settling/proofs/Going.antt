-- Settling instance by instance and class by class: what was looked at is quiet since, unless a class was set that it names.
use Rattle.std.proofs.Common.{◌≡◌, ℕ, zero, suc, ◌+◌, ◌<◌, ◌≤◌, ◌≢◌, Bool, false, List, [], ◌∷◌, ◌++◌, length, get_or, drop, sym, refl, ap, ◌∙◌, subst, inl, inr, append_assoc, arith}
use Rattle.std.proofs.lemmas.Bool.{cases_eq}
use Rattle.std.proofs.lemmas.List.{drop_at, drop-append-le, drop_more, drop_all}
use Rattle.codes.specs.declared.value.Value.{Value}
use Rattle.systems.specs.declared.instance.Instance.{Instance}
use Rattle.systems.specs.Systems.{In, there, Sys, at, code_for, Mentions, Proper}
use Rattle.systems.specs.Settling.{Steps, stop, no_fit, Settles}
use Rattle.systems.specs.Trails.{Held, hold_by, Grows, QuietUnless, QuietBut}
use Rattle.systems.proofs.Base.{get_d_in}
use Rattle.systems.proofs.Gathered.{in_right}
use Rattle.systems.proofs.Settle.{steps_then}
use Rattle.systems.proofs.Trails.{trailed_long, trail_laws, grows_then}
use Rattle.codes.specs.declared.table.Table.{Table}
use Rattle.codes.specs.Tables.{code_in}
use Rattle.gathering.specs.Bounds.{nowhere}
use Rattle.gathering.specs.Rendering.{AllTouching}
use Rattle.gathering.specs.Systems.{class_count, instances_of}
use Rattle.gathering.specs.declared.system.System.{System}
use Rattle.settling.specs.Boards.{Kept, MeetsAt, Serves}
use Rattle.settling.specs.Knowing.{Around, Through}
use Rattle.settling.specs.declared.board.Board.{Board}

-- fewer classes to look out for
weaker : (rule : Bool → ℕ → Bool) (v : ℕ → Value) (xs ys : List ℕ) (i : Instance) → ((x : ℕ) → In x xs → In x ys) → QuietUnless rule v xs i → QuietUnless rule v ys i
weaker rule v xs ys i sub q out = q (λ x m k. out x m (sub x k))

-- what was added since is the end of the trail
pub added_is : (h k : Held) (g : Grows h k) → drop (length h.trail) k.trail ≡ g.added
added_is h k g = ap (drop (length h.trail)) g.trail ∙ drop_at h.trail g.added (length h.trail) refl

both_added : (h k l : Held) (g : Grows h k) (m : Grows k l) → drop (length h.trail) l.trail ≡ g.added ++ m.added
both_added h k l g m =
    ap (drop (length h.trail)) (m.trail ∙ ap (λ (t : List ℕ). t ++ m.added) g.trail ∙ append_assoc h.trail g.added m.added)
    ∙ drop_at h.trail (g.added ++ m.added) (length h.trail) refl

-- an instance is quiet, unless it names a class that was set since h
abbrev pub Since : Sys → Held → Held → Instance → Type 0
Since S h k i = QuietUnless S.rule (at k.values) (drop (length h.trail) k.trail) i

since_more : (S : Sys) (h k l : Held) (i : Instance) → Grows h k → Grows k l → Since S h k i → Since S h l i
since_more S h k l i g m q =
    let e : drop (length h.trail) l.trail ≡ g.added ++ m.added = both_added h k l g m in
    let old : QuietUnless S.rule (at k.values) g.added i = subst (λ (xs : List ℕ). QuietUnless S.rule (at k.values) xs i) (added_is h k g) q in
    subst (λ (xs : List ℕ). QuietUnless S.rule (at l.values) xs i) (sym e) (trail_laws.still S.rule k.values l.values g.added m.added i old m.values)

since_now : (S : Sys) → Proper S → (h k l : Held) (i : Instance) → In i S.instances → length k.values ≡ length S.start → Grows h k →
    (code_for S.rule (at k.values) i ≢ 1) → l ≡ hold_by (code_for S.rule (at k.values) i) i k → Since S h l i
since_now S proper h k l i m z g o e =
    let n : Held = hold_by (code_for S.rule (at k.values) i) i k in
    let more : Grows k n = trail_laws.grows S proper i m k z in
    let now : QuietUnless S.rule (at n.values) more.added i = trail_laws.looked S proper i m k z o more in
    let d : drop (length h.trail) n.trail ≡ g.added ++ more.added = both_added h k n g more in
    let wide : QuietUnless S.rule (at n.values) (g.added ++ more.added) i = weaker S.rule (at n.values) more.added (g.added ++ more.added) i (λ x q. in_right g.added q) now in
    let there : Since S h n i = subst (λ (xs : List ℕ). QuietUnless S.rule (at n.values) xs i) (sym d) wide in
    subst (λ (t : Held). Since S h t i) (sym e) there

-- the instance of a number, and that of the number at a place of a list
unfoldable pub numbered : List Instance → ℕ → Instance
numbered is k = get_or is k nowhere

unfoldable pub picked : List Instance → List ℕ → ℕ → Instance
picked is numbers j = get_or is (get_or numbers j 0) nowhere

pub numbered_is : (is : List Instance) (k : ℕ) → numbered is k ≡ get_or is k nowhere
unfolding numbered
numbered_is is k = refl

pub picked_is : (is : List Instance) (numbers : List ℕ) (j k : ℕ) → k ≡ get_or numbers j 0 → picked is numbers j ≡ get_or is k nowhere
unfolding picked
picked_is is numbers j k e = ap (λ (n : ℕ). get_or is n nowhere) (sym e)

-- the first k of some instances were looked at, beginning at old
pub record Seen (S : Sys) (f : ℕ → Instance) (k : ℕ) (old new : Held) : Type 0 where
  pub grows : Grows old new
  pub steps : Steps S old.values new.values
  pub quiet : (j : ℕ) → j < k → Since S old new (f j)

pub seen_none : (S : Sys) (f : ℕ → Instance) (h : Held) (g : Grows h h) → Seen S f 0 h h
seen_none S f h g = record { grows = g; steps = stop; quiet = λ j l. absurd (omega arith) }

module _ (S : Sys) (proper : Proper S) (f : ℕ → Instance) (k : ℕ) (i : Instance) (is : f k ≡ i) (old mid : Held) (long : length old.values ≡ length S.start) (inside : In i S.instances) (s : Seen S f k old mid) where
  mid_long : length mid.values ≡ length S.start
  mid_long = trailed_long s.grows.values ∙ long

  pub seen_more : (new : Held) → Grows mid new → (code_for S.rule (at mid.values) i ≢ 1) → new ≡ hold_by (code_for S.rule (at mid.values) i) i mid → Seen S f (k + 1) old new
  seen_more new m o e =
      let more : Steps S mid.values (hold_by (code_for S.rule (at mid.values) i) i mid).values = trail_laws.looks S i inside mid in
      record {
        grows = grows_then s.grows m;
        steps = steps_then s.steps (subst (λ (h : Held). Steps S mid.values h.values) (sym e) more);
        quiet = λ j l. elim (cases_eq j k) [
          | inl q ↦ subst (Since S old new) (sym (ap f q ∙ is)) (since_now S proper old mid new i inside mid_long s.grows o e)
          | inr n ↦ since_more S old mid new (f j) s.grows m (s.quiet j (omega arith))
        ];
      }

  pub seen_refused : (new : Held) → code_for S.rule (at mid.values) i ≡ 1 → new ≡ mid → MeetsAt S old.values new.values
  seen_refused new e q = subst (λ (h : Held). MeetsAt S old.values h.values) (sym q) (record { steps = s.steps; contra = no_fit inside e })

-- ---- all instances, and all that name a class
-- what is left of a list later on is left of it before
in_drop : {x : ℕ} (n : ℕ) (xs : List ℕ) → In x (drop n xs) → In x xs
in_drop zero xs m = m
in_drop (suc n) [] m = m
in_drop (suc n) (y ∷ ys) m = there (in_drop n ys m)

in_dropped : {x : ℕ} (k n : ℕ) (xs : List ℕ) → k ≤ n → In x (drop n xs) → In x (drop k xs)
in_dropped zero n xs l m = in_drop n xs m
in_dropped (suc k) zero xs l m = absurd (omega arith)
in_dropped (suc k) (suc n) [] l m = m
in_dropped (suc k) (suc n) (y ∷ ys) l m = in_dropped k n ys (omega arith) m

-- every instance was looked at, so that it is quiet, unless it names a class of the trail from any place that was there before
pub all_looked : (S : Sys) (old new : Held) (k : ℕ) → k ≤ length old.trail → Through S old new → QuietBut S (at new.values) (drop k new.trail)
all_looked S old new k l t i m = weaker S.rule (at new.values) (drop (length old.trail) new.trail) (drop k new.trail) i (λ x n. in_dropped k (length old.trail) new.trail l n) (t.quiet i m)

pub seen_all : (S : Sys) (is : List Instance) (k : ℕ) (old new : Held) → ((i : Instance) → In i S.instances → In i is) → length is ≤ k → Seen S (numbered is) k old new → Through S old new
unfolding numbered
seen_all S is k old new all l s =
    record {
      steps = s.steps;
      quiet = λ i m. let q = get_d_in is nowhere i (all i m) in subst (Since S old new) q.2 (s.quiet q.0 (omega (arith, q.1)));
    }

pub seen_around : (S : Sys) (is : List Instance) (numbers : List ℕ) (class k : ℕ) (old new : Held) → ((i : Instance) → In i S.instances → In i is) →
    AllTouching is class numbers → length numbers ≤ k → Seen S (picked is numbers) k old new → Around S class old new
unfolding picked
seen_around S is numbers class k old new all touched l s =
    record {
      steps = s.steps;
      quiet = λ i m names.
          let q = get_d_in is nowhere i (all i m) in
          let n = get_d_in numbers 0 q.0 (touched q.0 q.1 (subst (λ (a : Instance). Mentions a class) (sym q.2) names)) in
          subst (Since S old new) (ap (λ (x : ℕ). get_or is x nowhere) n.2 ∙ q.2) (s.quiet n.0 (omega (arith, n.1)));
    }

-- the same instances by another name
pub touched_same : (is js : List Instance) (numbers : List ℕ) (class : ℕ) → is ≡ js → AllTouching js class numbers → AllTouching is class numbers
touched_same is js numbers class e t n l m =
    t n (subst (λ (ks : List Instance). n < length ks) e l) (subst (λ (ks : List Instance). Mentions (get_or ks n nowhere) class) e m)

-- ---- a class of the trail is settled
pub class_settled : (S : Sys) (old new : Held) (k class : ℕ) → k < length old.trail → class ≡ get_or old.trail k 0 → Grows old new → Around S class old new →
    QuietBut S (at old.values) (drop k old.trail) → QuietBut S (at new.values) (drop (k + 1) new.trail)
class_settled S old new k class l e g a q =
    let rest : List ℕ = drop (k + 1) old.trail in
    let first : drop k old.trail ≡ class ∷ rest = drop_more old.trail k 0 l ∙ ap (λ (x : ℕ). x ∷ rest) (sym e) in
    let left : drop (k + 1) new.trail ≡ rest ++ g.added = ap (drop (k + 1)) g.trail ∙ drop-append-le (k + 1) old.trail g.added (omega arith) in
    let was : QuietBut S (at old.values) (class ∷ rest) = subst (QuietBut S (at old.values)) first q in
    let still : QuietBut S (at new.values) (class ∷ (rest ++ g.added)) = λ i m. trail_laws.still S.rule old.values new.values (class ∷ rest) g.added i (was i m) g.values in
    let seen : (i : Instance) → In i S.instances → Mentions i class → QuietUnless S.rule (at new.values) (rest ++ g.added) i =
    λ i m names. weaker S.rule (at new.values) (drop (length old.trail) new.trail) (rest ++ g.added) i (λ x n. in_right rest (subst (In x) (added_is old new g) n)) (a.quiet i m names) in
    subst (QuietBut S (at new.values)) (sym left) (trail_laws.next S (at new.values) class (rest ++ g.added) still seen)

-- nothing is left to settle
pub all_settled : (S : Sys) (ρ : List Value) (h : Held) (k : ℕ) → S.torn ≡ false → Steps S ρ h.values → length h.trail ≤ k → QuietBut S (at h.values) (drop k h.trail) → Settles S ρ h.values
all_settled S ρ h k t s l q = record { steps = s; closed = trail_laws.none_left S (at h.values) t (subst (QuietBut S (at h.values)) (drop_all k h.trail l) q) }

-- a contradiction later on is one from the start
pub meets_then : (S : Sys) (ρ σ τ : List Value) → Steps S ρ σ → MeetsAt S σ τ → MeetsAt S ρ τ
meets_then S ρ σ τ s m = record { steps = steps_then s m.steps; contra = m.contra }

-- where more is set, nothing but the instances that name what is not settled, or was set since, can have become loud
pub quiet_grown : (S : Sys) (old new : Held) (k : ℕ) → k ≤ length old.trail → Grows old new → QuietBut S (at old.values) (drop k old.trail) → QuietBut S (at new.values) (drop k new.trail)
quiet_grown S old new k l g q =
    let left : drop k new.trail ≡ drop k old.trail ++ g.added = ap (drop k) g.trail ∙ drop-append-le k old.trail g.added l in
    subst (QuietBut S (at new.values)) (sym left) (λ i m. trail_laws.still S.rule old.values new.values (drop k old.trail) g.added i (q i m) g.values)

pub settles_then : (S : Sys) (ρ σ τ : List Value) → Steps S ρ σ → Settles S σ τ → Settles S ρ τ
settles_then S ρ σ τ s m = record { steps = steps_then s m.steps; closed = m.closed }

pub none_yet : (S : Sys) (ρ : List Value) → Steps S ρ ρ
none_yet S ρ = stop

-- the same system under the same rule serves as well
pub serves_kept : (a b : Board) (S : Sys) → Kept a b → Serves a S → Serves b S
serves_kept a b S k s =
    record {
      rule = λ n. ap (λ (t : Table). code_in t n) k.table ∙ s.rule n;
      there = λ i m. subst (λ (y : System). In i (instances_of y)) (sym k.system) (s.there i m);
      back = λ i m. s.back i (subst (λ (y : System). In i (instances_of y)) k.system m);
      sized = s.sized ∙ ap (λ (y : System). class_count y + 1) (sym k.system);
      proper = s.proper;
      whole = s.whole;
    }
