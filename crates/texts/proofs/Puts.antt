-- Texts written one after the other into a page, or into a part of it that is lent on.
use Rattle.std.proofs.Common.{◌≡◌, ℕ, ◌+◌, ◌-◌, ◌≤◌, eqb, List, [], ◌∷◌, ◌++◌, length, take, drop, codes, decimal, sym, ap, ◌∙◌, subst, append_assoc, append-nil, arith, length-append, length-drop}
use borrow.Rule.Slice.PartMut.{put_mid}
use Rattle.std.proofs.lemmas.List.{length-take-le, drop-drop, drop_all, take_rest, take_at, drop_at, take-append-drop}
use Rattle.std.proofs.lemmas.Bool.{cond-true, cond-false, eq-eqb, ne_eqb}
use Rattle.pages.specs.Pages.{Placed, PlacedIfFits}
use Rattle.rle.specs.Texts.{count_text, heading_text}

pub placed_then : (old mid new s t : List ℕ) (at e f : ℕ) → at ≤ length old → Placed old at s mid e → Placed mid e t new f → Placed old at (s ++ t) new f
placed_then old mid new s t at e f low p q =
    let front : List ℕ = take at old ++ s in
    let is : mid ≡ front ++ drop (at + length s) old = p.1 ∙ sym (append_assoc (take at old) s (drop (at + length s) old)) in
    let long : length front ≡ e = length-append (take at old) s ∙ omega (arith, length-take-le at old low) in
    let kept : take e mid ≡ front = ap (take e) is ∙ take_at front (drop (at + length s) old) e long in
    let sum : length (s ++ t) ≡ length s + length t = length-append s t in
    let rest : drop (e + length t) mid ≡ drop (at + length (s ++ t)) old = sym (drop-drop (length t) e mid) ∙ ap (drop (length t)) (ap (drop e) is ∙ drop_at front (drop (at + length s) old) e long) ∙ drop-drop (length t) (at + length s) old ∙ ap (λ n. drop n old) (omega arith) in (
      omega arith,
      q.1 ∙ ap (λ l. l ++ (t ++ drop (e + length t) mid)) kept ∙ ap (λ l. front ++ (t ++ l)) rest ∙ append_assoc (take at old) s (t ++ drop (at + length (s ++ t)) old) ∙ ap (λ l. take at old ++ l) (sym (append_assoc s t (drop (at + length (s ++ t)) old))),
    )

placed_length : (old new text : List ℕ) (at e : ℕ) → at + length text ≤ length old → Placed old at text new e → length new ≡ length old
placed_length old new text at e fits p =
    let tail : List ℕ = drop (at + length text) old in
    omega (arith, ap length p.1, length-append (take at old) (text ++ tail), length-append text tail, length-take-le at old (omega arith), length-drop (at + length text) old)

-- one text more, where it was put if it fits
pub put_next : (old mid new s t : List ℕ) (at e f : ℕ) → at + length (s ++ t) ≤ length old → Placed old at s mid e → PlacedIfFits mid e t new f → Placed old at (s ++ t) new f
put_next old mid new s t at e f fits p q =
    let both = length-append s t in
    let same = placed_length old mid s at e (omega arith) p in
    placed_then old mid new s t at e f (omega arith) p (q.fits (omega (arith, p.0)))

-- and where the tail from the place on was lent
pub placed_lent : (old lent text : List ℕ) (at n : ℕ) → Placed (take (length old - at) (drop at old)) 0 text lent n → Placed old at text (put_mid at (length old - at) old lent) (at + n)
placed_lent old lent text at n p =
    let none : drop (length old - at) (drop at old) ≡ [] = drop-drop (length old - at) at old ∙ drop_all _ old (omega arith) in
    let back : drop (0 + length text) (take (length old - at) (drop at old)) ≡ drop (at + length text) old = ap (λ l. drop (0 + length text) l) (take_rest old at) ∙ drop-drop (0 + length text) at old ∙ ap (λ k. drop k old) (omega arith) in (
      omega arith,
      ap (λ z. take at old ++ (lent ++ z)) none ∙ ap (λ z. take at old ++ z) (append-nil lent ∙ p.1 ∙ ap (λ z. text ++ z) back),
    )

-- a count is put unless it is 1

pub counted_one : (n : ℕ) (old new : List ℕ) (at e : ℕ) → n ≡ 1 → new ≡ old → e ≡ at → Placed old at (count_text n) new e
counted_one n old new at e one same stays =
    let none : count_text n ≡ [] = cond-true (eqb n 1) [] (decimal n) (eq-eqb n 1 one) in
    let P : List ℕ → Type 0 = λ text. Placed old at text new e in
    subst P (sym none) (omega (arith, stays), same ∙ sym (take-append-drop at old) ∙ ap (λ k. take at old ++ drop k old) (omega arith))

pub counted_more : (n : ℕ) (old mid new : List ℕ) (at d e : ℕ) → (n ≡ 1 → ⊥) → at + length (count_text n) ≤ length old → PlacedIfFits old at (decimal n) mid d → new ≡ mid → e ≡ d → Placed old at (count_text n) new e
counted_more n old mid new at d e more fits put same goes =
    let is : count_text n ≡ decimal n = cond-false (eqb n 1) [] (decimal n) (ne_eqb n 1 more) in
    let P : List ℕ → Type 0 = λ text. Placed old at text new e in
    let done = put.fits (omega (arith, ap length is)) in
    subst P (sym is) (goes ∙ done.0, same ∙ done.1)

-- the heading, part by part, from what width, height and name were said to be
pub heading_placed : (w h v g : ℕ) (name bytes t0 t1 t2 t3 t4 t5 t6 t7 : List ℕ) (e1 e2 e3 e4 e5 e6 e7 : ℕ) → v ≡ w → g ≡ h → bytes ≡ name → length (heading_text w h name) ≤ length t0 → PlacedIfFits t0 0 (codes "x = ") t1 e1 → PlacedIfFits t1 e1 (decimal v) t2 e2 → PlacedIfFits t2 e2 (codes ", y = ") t3 e3 → PlacedIfFits t3 e3 (decimal g) t4 e4 → PlacedIfFits t4 e4 (codes ", rule = ") t5 e5 → PlacedIfFits t5 e5 bytes t6 e6 → PlacedIfFits t6 e6 (10 ∷ []) t7 e7 → Placed t0 0 (heading_text w h name) t7 e7
heading_placed w h v g name bytes t0 t1 t2 t3 t4 t5 t6 t7 e1 e2 e3 e4 e5 e6 e7 vw gh bn fits p1 p2 p3 p4 p5 p6 p7 =
    let s2 : List ℕ = codes "x = " ++ decimal w in
    let s3 : List ℕ = s2 ++ codes ", y = " in
    let s4 : List ℕ = s3 ++ decimal h in
    let s5 : List ℕ = s4 ++ codes ", rule = " in
    let s6 : List ℕ = s5 ++ name in
    let long = length-append s6 (10 ∷ []) in
    let long6 = length-append s5 name in
    let long5 = length-append s4 (codes ", rule = ") in
    let long4 = length-append s3 (decimal h) in
    let long3 = length-append s2 (codes ", y = ") in
    let long2 = length-append (codes "x = ") (decimal w) in
    let q1 = p1.fits (omega arith) in
    let q2 = put_next t0 t1 t2 (codes "x = ") (decimal w) 0 e1 e2 (omega arith) q1 (rw vw at p2) in
    let q3 = put_next t0 t2 t3 s2 (codes ", y = ") 0 e2 e3 (omega arith) q2 p3 in
    let q4 = put_next t0 t3 t4 s3 (decimal h) 0 e3 e4 (omega arith) q3 (rw gh at p4) in
    let q5 = put_next t0 t4 t5 s4 (codes ", rule = ") 0 e4 e5 (omega arith) q4 p5 in
    let q6 = put_next t0 t5 t6 s5 name 0 e5 e6 (omega arith) q5 (rw bn at p6) in
    put_next t0 t6 t7 s6 (10 ∷ []) 0 e6 e7 (omega arith) q6 p7

-- a head, and a body into the tail after it
pub placed_both : (old mid lent head body : List ℕ) (n m : ℕ) → Placed old 0 head mid n → Placed (take (length mid - n) (drop n mid)) 0 body lent m → Placed old 0 (head ++ body) (put_mid n (length mid - n) mid lent) (n + m)
placed_both old mid lent head body n m p q = placed_then old mid (put_mid n (length mid - n) mid lent) head body 0 n (n + m) (omega arith) p (placed_lent mid lent body n m q)
