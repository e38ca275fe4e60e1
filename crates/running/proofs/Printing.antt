-- What a printer passed on and holds back, over all texts that it was handed.
use Rattle.std.proofs.Common.{◌≡◌, ℕ, List, [], ◌∷◌, ◌++◌, Option, refl, sym, ap, ◌∙◌, subst, append_assoc, append-nil}
use Rattle.std.specs.List.{concat}
use Rattle.std.proofs.KnownBytes.{Appends-nil, Appends-trans}
use Rattle.listing.specs.Handing.{Broken, Handed, at_rest, at_text, nothing, rested, took}
use Rattle.running.specs.Written.{AppendsPart, Took}

-- texts one after another, with one more
pub concat-last : (texts : List (List ℕ)) (text : List ℕ) → concat (texts ++ text ∷ []) ≡ concat texts ++ text
concat-last [] text = append-nil text
concat-last (t ∷ ts) text = ap (λ (rest : List ℕ). t ++ rest) (concat-last ts text) ∙ sym (append_assoc t (concat ts) text)

-- two texts taken one after the other
took_then : (a b c : Option (List ℕ)) (h k l x y : List ℕ) → Took a h x b k → Took b k y c l → Took a h (x ++ y) c l
took_then a b c h k l x y t u = record {
  part = t.part ++ u.part;
  whole = append_assoc t.part u.part l ∙ ap (λ (z : List ℕ). t.part ++ z) u.whole ∙ sym (append_assoc t.part k y) ∙ ap (λ (z : List ℕ). z ++ y) t.whole ∙ append_assoc h x y;
  grown = Appends-trans a b c t.part u.part t.grown u.grown;
}

-- a text was taken, and then a first part of what was held back and another text was passed on
broke_then : (a b c : Option (List ℕ)) (h k x y : List ℕ) → Took a h x b k → AppendsPart b c (k ++ y) → AppendsPart a c (h ++ (x ++ y))
broke_then a b c h k x y t u = record {
  part = t.part ++ u.part;
  rest = u.rest;
  whole = append_assoc t.part u.part u.rest ∙ ap (λ (z : List ℕ). t.part ++ z) u.whole ∙ sym (append_assoc t.part k y) ∙ ap (λ (z : List ℕ). z ++ y) t.whole ∙ append_assoc h x y;
  grown = Appends-trans a b c t.part u.part t.grown u.grown;
}

module _ {A N : Type 0} (name : A → N) (written : A → Option (List ℕ)) (held : A → List ℕ) where
  abbrev pub Takes : A → List ℕ → A → Type 0
  Takes a text b = (name b ≡ name a) × Took (written a) (held a) text (written b) (held b)

  abbrev pub Rests : A → A → Type 0
  Rests a b = (name b ≡ name a) × Took (written a) (held a) [] (written b) [] × (held b ≡ [])

  abbrev pub Fails : A → List ℕ → A → Type 0
  Fails a text b = (name b ≡ name a) × AppendsPart (written a) (written b) (held a ++ text)

  -- a rest takes nothing
  still : (a b : A) → Rests a b → Takes a [] b
  still a b r = (r.0, subst (λ (left : List ℕ). Took (written a) (held a) [] (written b) left) (sym r.2) r.1)

  then : (a b c : A) (x y : List ℕ) → Takes a x b → Takes b y c → Takes a (x ++ y) c
  then a b c x y t u = (u.0 ∙ t.0, took_then (written a) (written b) (written c) (held a) (held b) (held c) x y t.1 u.1)

  fails_then : (a b c : A) (x y : List ℕ) → Takes a x b → Fails b y c → Fails a (x ++ y) c
  fails_then a b c x y t u = (u.0 ∙ t.0, broke_then (written a) (written b) (written c) (held a) (held b) x y t.1 u.1)

  pub handed : (from to : A) (texts : List (List ℕ)) → Handed Takes Rests from texts to → Takes from (concat texts) to
  handed from to texts nothing = (refl, record { part = []; whole = sym (append-nil (held from)); grown = Appends-nil (written from) })
  handed from to texts (took {texts = before} {a = a} text h t) = subst (λ (x : List ℕ). Takes from x to) (sym (concat-last before text)) (then from a to (concat before) text (handed from a before h) t)
  handed from to texts (rested {a = a} h r) = subst (λ (x : List ℕ). Takes from x to) (append-nil (concat texts)) (then from a to (concat texts) [] (handed from a texts h) (still a to r))

  -- and the printer then rested
  pub handed_still : (from mid to : A) (texts : List (List ℕ)) → Handed Takes Rests from texts mid → Rests mid to → Takes from (concat texts) to
  handed_still from mid to texts h r = subst (λ (x : List ℕ). Takes from x to) (append-nil (concat texts)) (then from mid to (concat texts) [] (handed from mid texts h) (still mid to r))

  -- and the printer then failed at a rest
  pub handed_broke : (from mid to : A) (texts : List (List ℕ)) → Handed Takes Rests from texts mid → Fails mid [] to → Fails from (concat texts) to
  handed_broke from mid to texts h f = subst (λ (x : List ℕ). Fails from x to) (append-nil (concat texts)) (fails_then from mid to (concat texts) [] (handed from mid texts h) f)

  pub broke : (from to : A) (texts : List (List ℕ)) → Broken Takes Rests Fails from texts to → Fails from (concat texts) to
  broke from to texts (at_text {texts = before} {a = a} text h f) = subst (λ (x : List ℕ). Fails from x to) (sym (concat-last before text)) (fails_then from a to (concat before) text (handed from a before h) f)
  broke from to texts (at_rest {a = a} h f) = handed_broke from a to texts h f
