-- Lines of their forms: what is written so is read, and what is read was written so.
use Rattle.std.proofs.Common.{◌≡◌, ℕ, Bool, true, false, cond, eqb, leb, List, [], ◌∷◌, length, Some, None, Option, ℤ, sym, refl, ap, subst, ◌∙◌, ⊎_elim, arith}
use Rattle.std.specs.Prelude.{bytes_eq, codes}
use Rattle.std.proofs.lemmas.Bool.{cases_Bool, cond-false, cond-true, eqb-true, le-leb, leb-true, ne_eqb}
use Rattle.std.proofs.lemmas.Slice.Eq.{bytes_eq-Decides}
use Rattle.choices.specs.declared.any_order.AnyOrder.{AnyOrder}
use Rattle.choices.specs.declared.any_order.AnyOrder.TheVariants.{Rows, Columns, Generations}
use Rattle.planes.specs.Layers.{kind_of}
use Rattle.planes.specs.declared.mirror.MirrorKind.{MirrorKind}
use Rattle.words.specs.Forms.{Digits, KeyAndValue}
use Rattle.words.specs.Words.{and_then, after_key, next_number, next_signed, number_of, signed_of, value_after}
use Rattle.words.proofs.Keys.{key_found, key_only}
use Rattle.words.proofs.Numbers.{digits_number, number_digits}
use Rattle.words.proofs.Signed.{digits_solid, signed_only, signed_read, signed_solid, value_only, value_read}
use Rattle.words.proofs.Steps.{step_front, step_only}
use Rattle.problem.specs.Forms.{ended, fix_in, kind_in, mirror_in, named_order, named_space, order_in, size_in, space_in, switch, told_by}
use Rattle.problem.specs.Written.{BoxForm, FixForm, MirrorForm, bit, order_name, plane_name}
use Rattle.problem.specs.declared.forms.Fixing.{Fixing}
use Rattle.problem.specs.declared.forms.Named.{Named}
use Rattle.problem.specs.declared.forms.Named.TheVariants.{Plain, Torus, Cylinder}
use Rattle.problem.specs.declared.forms.Size.{Size}

-- what is told was told by something
told_is : {A B : Type 0} (o : Option A) (next : A → Option B) (b : B) → told_by o next ≡ Some b → (a : A) × (o ≡ Some a) × (next a ≡ Some b)
told_is None next b e = absurd (cc)
told_is (Some a) next b e = (a, refl, e)

-- a line is over where nothing is left
ended_is : {A : Type 0} (a b : A) (rest : List ℕ) → ended a rest ≡ Some b → (rest ≡ []) × (a ≡ b)
ended_is a b [] e = (refl, cc)
ended_is a b (x ∷ xs) e =
    let none : None ≡ Some b = sym (cond-false (eqb (length (x ∷ xs)) 0) (Some a) None (ne_eqb (length (x ∷ xs)) 0 (λ h. omega (arith, h)))) ∙ e in
    absurd (cc)

ended_at : {A : Type 0} (a : A) (rest : List ℕ) → rest ≡ [] → ended a rest ≡ Some a
ended_at a rest e = ap (ended a) e

-- what a box line is read as from each of its words on
abbrev from_dy : ℕ → ℕ → ℕ → ℤ → ℤ → List ℕ → Option Size
from_dy w h p dx dy t = ended (record { width = w; height = h; period = p; dx = dx; dy = dy }) t

abbrev from_dx : ℕ → ℕ → ℕ → ℤ → List ℕ → Option Size
from_dx w h p dx t = and_then (next_signed t) (from_dy w h p dx)

abbrev from_period : ℕ → ℕ → ℕ → List ℕ → Option Size
from_period w h p t = and_then (next_signed t) (from_dx w h p)

abbrev from_height : ℕ → ℕ → List ℕ → Option Size
from_height w h t = and_then (next_number t) (from_period w h)

abbrev from_width : ℕ → List ℕ → Option Size
from_width w t = and_then (next_number t) (from_height w)

abbrev from_box : List ℕ → Option Size
from_box t = and_then (next_number t) from_width

pub size_front : (line : List ℕ) (s : Size) → BoxForm s line → size_in line ≡ Some s
unfolding size_in
size_front line s f =
    let rest = f.whole.0 in
    let w = step_front number_of f.width s.width (f.height ∷ f.period ∷ f.dx ∷ f.dy ∷ []) rest from_width (digits_solid f.width s.width f.is_width) (digits_number f.width s.width f.is_width) f.whole.2 in
    let h = step_front number_of f.height s.height (f.period ∷ f.dx ∷ f.dy ∷ []) w.0 (from_height s.width) (digits_solid f.height s.height f.is_height) (digits_number f.height s.height f.is_height) w.1 in
    let p = step_front number_of f.period s.period (f.dx ∷ f.dy ∷ []) h.0 (from_period s.width s.height) (digits_solid f.period s.period f.is_period) (digits_number f.period s.period f.is_period) h.1 in
    let dx = step_front signed_of f.dx s.dx (f.dy ∷ []) p.0 (from_dx s.width s.height s.period) (signed_solid f.dx s.dx f.is_dx) (signed_read f.dx s.dx f.is_dx) p.1 in
    let dy = step_front signed_of f.dy s.dy [] dx.0 (from_dy s.width s.height s.period s.dx) (signed_solid f.dy s.dy f.is_dy) (signed_read f.dy s.dy f.is_dy) dx.1 in
    ap (λ o. told_by o from_box) (key_found (codes "box") line rest f.whole.1) ∙ w.2 ∙ h.2 ∙ p.2 ∙ dx.2 ∙ dy.2 ∙ ended_at s dy.0 dy.1

pub size_only : (line : List ℕ) (s : Size) → size_in line ≡ Some s → BoxForm s line
unfolding size_in
size_only line s e =
    let key = told_is (after_key (codes "box") line) from_box s e in
    let w = step_only number_of key.0 from_width s key.2 in
    let h = step_only number_of w.rest (from_height w.value) s w.more in
    let p = step_only number_of h.rest (from_period w.value h.value) s h.more in
    let dx = step_only signed_of p.rest (from_dx w.value h.value p.value) s p.more in
    let dy = step_only signed_of dx.rest (from_dy w.value h.value p.value dx.value) s dx.more in
    let over = ended_is (record { width = w.value; height = h.value; period = p.value; dx = dx.value; dy = dy.value }) s dy.rest dy.more in
    subst (λ z. BoxForm z line) over.1 (record {
      width = w.word;
      height = h.word;
      period = p.word;
      dx = dx.word;
      dy = dy.word;
      is_width = number_digits w.word w.value w.is;
      is_height = number_digits h.word h.value h.is;
      is_period = number_digits p.word p.value p.is;
      is_dx = signed_only dx.word dx.value dx.is;
      is_dy = signed_only dy.word dy.value dy.is;
      whole = (key.0, key_only (codes "box") line key.0 key.1, w.spaced (h.word ∷ p.word ∷ dx.word ∷ dy.word ∷ []) (h.spaced (p.word ∷ dx.word ∷ dy.word ∷ []) (p.spaced (dx.word ∷ dy.word ∷ []) (dx.spaced (dy.word ∷ []) (dy.spaced [] over.0)))));
    })

-- names
bytes_same : (a b : List ℕ) → bytes_eq a b ≡ true → a ≡ b
bytes_same a b e = (bytes_eq-Decides a b).0 e

space_names : (name : List ℕ) (n : Named) → named_space name ≡ Some n → name ≡ plane_name n
space_names name n e =
    ⊎_elim
    (λ t. let is : Some Plain ≡ Some n = sym (cond-true (bytes_eq name (codes "plain")) _ _ t) ∙ e in let same : Plain ≡ n = cc in bytes_same name (codes "plain") t ∙ ap plane_name same)
    (λ f. let more = sym (cond-false (bytes_eq name (codes "plain")) (Some Plain) _ f) ∙ e in ⊎_elim
    (λ t. let is : Some Torus ≡ Some n = sym (cond-true (bytes_eq name (codes "torus")) _ _ t) ∙ more in let same : Torus ≡ n = cc in bytes_same name (codes "torus") t ∙ ap plane_name same)
    (λ f2. let last = sym (cond-false (bytes_eq name (codes "torus")) (Some Torus) _ f2) ∙ more in ⊎_elim
    (λ t. let is : Some Cylinder ≡ Some n = sym (cond-true (bytes_eq name (codes "cylinder")) _ _ t) ∙ last in let same : Cylinder ≡ n = cc in bytes_same name (codes "cylinder") t ∙ ap plane_name same)
    (λ f3. let none : None ≡ Some n = sym (cond-false (bytes_eq name (codes "cylinder")) (Some Cylinder) None f3) ∙ last in absurd (cc))
    (cases_Bool (bytes_eq name (codes "cylinder"))))
    (cases_Bool (bytes_eq name (codes "torus"))))
    (cases_Bool (bytes_eq name (codes "plain")))

named_plane : (n : Named) → named_space (plane_name n) ≡ Some n
named_plane Plain = refl
named_plane Torus = refl
named_plane Cylinder = refl

pub space_front : (line : List ℕ) (n : Named) → KeyAndValue (codes "space") (plane_name n) line → space_in line ≡ Some n
unfolding space_in
space_front line n f = ap (λ o. told_by o named_space) (value_read (codes "space") (plane_name n) line f) ∙ named_plane n

pub space_only : (line : List ℕ) (n : Named) → space_in line ≡ Some n → KeyAndValue (codes "space") (plane_name n) line
unfolding space_in
space_only line n e =
    let name = told_is (value_after (codes "space") line) named_space n e in
    subst (λ v. KeyAndValue (codes "space") v line) (space_names name.0 n name.2) (value_only (codes "space") name.0 line name.1)

order_names : (name : List ℕ) (n : AnyOrder) → named_order name ≡ Some n → name ≡ order_name n
order_names name n e =
    ⊎_elim
    (λ t. let is : Some Rows ≡ Some n = sym (cond-true (bytes_eq name (codes "rows")) _ _ t) ∙ e in let same : Rows ≡ n = cc in bytes_same name (codes "rows") t ∙ ap order_name same)
    (λ f. let more = sym (cond-false (bytes_eq name (codes "rows")) (Some Rows) _ f) ∙ e in ⊎_elim
    (λ t. let is : Some Columns ≡ Some n = sym (cond-true (bytes_eq name (codes "columns")) _ _ t) ∙ more in let same : Columns ≡ n = cc in bytes_same name (codes "columns") t ∙ ap order_name same)
    (λ f2. let last = sym (cond-false (bytes_eq name (codes "columns")) (Some Columns) _ f2) ∙ more in ⊎_elim
    (λ t. let is : Some Generations ≡ Some n = sym (cond-true (bytes_eq name (codes "generations")) _ _ t) ∙ last in let same : Generations ≡ n = cc in bytes_same name (codes "generations") t ∙ ap order_name same)
    (λ f3. let none : None ≡ Some n = sym (cond-false (bytes_eq name (codes "generations")) (Some Generations) None f3) ∙ last in absurd (cc))
    (cases_Bool (bytes_eq name (codes "generations"))))
    (cases_Bool (bytes_eq name (codes "columns"))))
    (cases_Bool (bytes_eq name (codes "rows")))

ordered_name : (n : AnyOrder) → named_order (order_name n) ≡ Some n
ordered_name Rows = refl
ordered_name Columns = refl
ordered_name Generations = refl

pub order_front : (line : List ℕ) (n : AnyOrder) → KeyAndValue (codes "order") (order_name n) line → order_in line ≡ Some n
unfolding order_in
order_front line n f = ap (λ o. told_by o named_order) (value_read (codes "order") (order_name n) line f) ∙ ordered_name n

pub order_only : (line : List ℕ) (n : AnyOrder) → order_in line ≡ Some n → KeyAndValue (codes "order") (order_name n) line
unfolding order_in
order_only line n e =
    let name = told_is (value_after (codes "order") line) named_order n e in
    subst (λ v. KeyAndValue (codes "order") v line) (order_names name.0 n name.2) (value_only (codes "order") name.0 line name.1)

-- mirrors
pub mirror_front : (line : List ℕ) (n : ℕ) → MirrorForm n line → mirror_in line ≡ Some (kind_of n)
unfolding mirror_in
mirror_front line n f =
    let rest = f.whole.0 in
    let w = step_front number_of f.word n [] rest kind_in (digits_solid f.word n f.is_number) (digits_number f.word n f.is_number) f.whole.2 in
    ap (λ o. told_by o (λ a. and_then (next_number a) kind_in)) (key_found (codes "mirror") line rest f.whole.1) ∙ w.2 ∙ cond-true (leb n 6) (ended (kind_of n) w.0) None (le-leb n 6 f.most) ∙ ended_at (kind_of n) w.0 w.1

pub mirror_only : (line : List ℕ) (kind : MirrorKind) → mirror_in line ≡ Some kind → (n : ℕ) × MirrorForm n line × (kind ≡ kind_of n)
unfolding mirror_in
mirror_only line kind e =
    let key = told_is (after_key (codes "mirror") line) (λ a. and_then (next_number a) kind_in) kind e in
    let w = step_only number_of key.0 kind_in kind key.2 in
    ⊎_elim
    (λ t. let over = ended_is (kind_of w.value) kind w.rest (sym (cond-true (leb w.value 6) (ended (kind_of w.value) w.rest) None t) ∙ w.more) in (
      w.value,
      record {
        word = w.word;
        most = leb-true w.value 6 t;
        is_number = number_digits w.word w.value w.is;
        whole = (key.0, key_only (codes "mirror") line key.0 key.1, w.spaced [] over.0);
      },
      sym over.1,
    ))
    (λ f. let none : None ≡ Some kind = sym (cond-false (leb w.value 6) (ended (kind_of w.value) w.rest) None f) ∙ w.more in absurd (cc))
    (cases_Bool (leb w.value 6))

-- cells that are fixed
switch_bit : (on : Bool) → switch (bit on) ≡ Some on
switch_bit true = refl
switch_bit false = refl

switch_is : (n : ℕ) (on : Bool) → switch n ≡ Some on → n ≡ bit on
switch_is n on e =
    ⊎_elim
    (λ t. let is : Some false ≡ Some on = sym (cond-true (eqb n 0) (Some false) _ t) ∙ e in let same : false ≡ on = cc in eqb-true n 0 t ∙ ap bit same)
    (λ f. let more = sym (cond-false (eqb n 0) (Some false) (cond (eqb n 1) (Some true) None) f) ∙ e in ⊎_elim
    (λ t. let is : Some true ≡ Some on = sym (cond-true (eqb n 1) (Some true) None t) ∙ more in let same : true ≡ on = cc in eqb-true n 1 t ∙ ap bit same)
    (λ f2. let none : None ≡ Some on = sym (cond-false (eqb n 1) (Some true) None f2) ∙ more in absurd (cc))
    (cases_Bool (eqb n 1)))
    (cases_Bool (eqb n 0))

-- what a fix line is read as from each of its words on
abbrev from_on : ℕ → ℕ → ℕ → List ℕ → Bool → Option Fixing
from_on x y t rest on = ended (record { x = x; y = y; t = t; on = on }) rest

abbrev from_v : ℕ → ℕ → ℕ → ℕ → List ℕ → Option Fixing
from_v x y t v rest = told_by (switch v) (from_on x y t rest)

abbrev from_t : ℕ → ℕ → ℕ → List ℕ → Option Fixing
from_t x y t rest = and_then (next_number rest) (from_v x y t)

abbrev from_y : ℕ → ℕ → List ℕ → Option Fixing
from_y x y rest = and_then (next_number rest) (from_t x y)

abbrev from_x : ℕ → List ℕ → Option Fixing
from_x x rest = and_then (next_number rest) (from_y x)

abbrev from_fix : List ℕ → Option Fixing
from_fix rest = and_then (next_number rest) from_x

pub fix_front : (line : List ℕ) (c : Fixing) → FixForm c line → fix_in line ≡ Some c
unfolding fix_in
fix_front line c f =
    let rest = f.whole.0 in
    let x = step_front number_of f.x c.x (f.y ∷ f.t ∷ f.v ∷ []) rest from_x (digits_solid f.x c.x f.is_x) (digits_number f.x c.x f.is_x) f.whole.2 in
    let y = step_front number_of f.y c.y (f.t ∷ f.v ∷ []) x.0 (from_y c.x) (digits_solid f.y c.y f.is_y) (digits_number f.y c.y f.is_y) x.1 in
    let t = step_front number_of f.t c.t (f.v ∷ []) y.0 (from_t c.x c.y) (digits_solid f.t c.t f.is_t) (digits_number f.t c.t f.is_t) y.1 in
    let v = step_front number_of f.v (bit c.on) [] t.0 (from_v c.x c.y c.t) (digits_solid f.v (bit c.on) f.is_v) (digits_number f.v (bit c.on) f.is_v) t.1 in
    ap (λ o. told_by o from_fix) (key_found (codes "fix") line rest f.whole.1) ∙ x.2 ∙ y.2 ∙ t.2 ∙ v.2 ∙ ap (λ o. told_by o (from_on c.x c.y c.t v.0)) (switch_bit c.on) ∙ ended_at c v.0 v.1

pub fix_only : (line : List ℕ) (c : Fixing) → fix_in line ≡ Some c → FixForm c line
unfolding fix_in
fix_only line c e =
    let key = told_is (after_key (codes "fix") line) from_fix c e in
    let x = step_only number_of key.0 from_x c key.2 in
    let y = step_only number_of x.rest (from_y x.value) c x.more in
    let t = step_only number_of y.rest (from_t x.value y.value) c y.more in
    let v = step_only number_of t.rest (from_v x.value y.value t.value) c t.more in
    let on = told_is (switch v.value) (from_on x.value y.value t.value v.rest) c v.more in
    let over = ended_is (record { x = x.value; y = y.value; t = t.value; on = on.0 }) c v.rest on.2 in
    subst (λ z. FixForm z line) over.1 (record {
      x = x.word;
      y = y.word;
      t = t.word;
      v = v.word;
      is_x = number_digits x.word x.value x.is;
      is_y = number_digits y.word y.value y.is;
      is_t = number_digits t.word t.value t.is;
      is_v = subst (λ n. Digits n v.word) (switch_is v.value on.0 on.1) (number_digits v.word v.value v.is);
      whole = (key.0, key_only (codes "fix") line key.0 key.1, x.spaced (y.word ∷ t.word ∷ v.word ∷ []) (y.spaced (t.word ∷ v.word ∷ []) (t.spaced (v.word ∷ []) (v.spaced [] over.0))));
    })
