-- What the lines of a problem say, where they are of their form.
use Rattle.std.specs.Prelude.{ℕ, Bool, true, false, cond, List, length, Some, None, Option, codes, bytes_eq, nat_le, ◌==◌}
use Rattle.choices.specs.declared.any_order.AnyOrder.{AnyOrder}
use Rattle.choices.specs.declared.any_order.AnyOrder.TheVariants.{Rows, Columns, Generations}
use Rattle.planes.specs.Layers.{kind_of}
use Rattle.planes.specs.declared.mirror.MirrorKind.{MirrorKind}
use Rattle.words.specs.Words.{and_then, after_key, value_after, next_number, next_signed}
use Rattle.problem.specs.declared.forms.Size.{Size}
use Rattle.problem.specs.declared.forms.Fixing.{Fixing}
use Rattle.problem.specs.declared.forms.Named.{Named}
use Rattle.problem.specs.declared.forms.Named.TheVariants.{Plain, Torus, Cylinder}

-- what is said by what was found, if it was found
abbrev pub told_by : {A B : Type 0} → Option A → (A → Option B) → Option B
told_by None next = None
told_by (Some a) next = next a

-- a value, where nothing more stands in the line
abbrev pub ended : {A : Type 0} → A → List ℕ → Option A
ended a rest = cond (length rest == 0) (Some a) None

-- box W H P DX DY
unfoldable pub size_in : List ℕ → Option Size
size_in line =
    told_by (after_key (codes "box") line) (λ a.
    and_then (next_number a) (λ w b. and_then (next_number b) (λ h c. and_then (next_number c) (λ p d.
    and_then (next_signed d) (λ dx e. and_then (next_signed e) (λ dy f.
    ended (record { width = w; height = h; period = p; dx = dx; dy = dy }) f))))))

-- the plane of a name
abbrev pub named_space : List ℕ → Option Named
named_space name =
    cond (bytes_eq name (codes "plain")) (Some Plain)
    (cond (bytes_eq name (codes "torus")) (Some Torus)
    (cond (bytes_eq name (codes "cylinder")) (Some Cylinder) None))

-- space S
unfoldable pub space_in : List ℕ → Option Named
space_in line = told_by (value_after (codes "space") line) named_space

-- the order of a name
abbrev pub named_order : List ℕ → Option AnyOrder
named_order name =
    cond (bytes_eq name (codes "rows")) (Some Rows)
    (cond (bytes_eq name (codes "columns")) (Some Columns)
    (cond (bytes_eq name (codes "generations")) (Some Generations) None))

-- order O
unfoldable pub order_in : List ℕ → Option AnyOrder
order_in line = told_by (value_after (codes "order") line) named_order

-- a mirror's number, where nothing more stands in the line
abbrev pub kind_in : ℕ → List ℕ → Option MirrorKind
kind_in n rest = cond (nat_le n 6) (ended (kind_of n) rest) None

-- mirror M
unfoldable pub mirror_in : List ℕ → Option MirrorKind
mirror_in line = told_by (after_key (codes "mirror") line) (λ a. and_then (next_number a) kind_in)

-- 0 for off, 1 for on
abbrev pub switch : ℕ → Option Bool
switch n = cond (n == 0) (Some false) (cond (n == 1) (Some true) None)

-- fix X Y T V
unfoldable pub fix_in : List ℕ → Option Fixing
fix_in line =
    told_by (after_key (codes "fix") line) (λ a.
    and_then (next_number a) (λ x b. and_then (next_number b) (λ y c. and_then (next_number c) (λ t d. and_then (next_number d) (λ v e.
    told_by (switch v) (λ on. ended (record { x = x; y = y; t = t; on = on }) e))))))
