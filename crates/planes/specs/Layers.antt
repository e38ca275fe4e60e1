-- What a layer's own row asks, and how the row is put after those below.
use Rattle.std.specs.Prelude.{ℕ, ◌+◌, ◌-◌, Bool, cond, ◌&&◌, Some, None, Option, ◌==◌, nat_lt}
use Rattle.frames.specs.declared.frame.Frame.{Frame}
use Rattle.frames.specs.Frames.{cells, cell_number, cell_at}
use Rattle.planes.specs.declared.mirror.MirrorKind.{MirrorKind}
use Rattle.planes.specs.declared.mirror.MirrorKind.TheVariants.{LeftRight, TopBottom, HalfTurn, FallingDiagonal, RisingDiagonal, QuarterTurn, Untied}
use Rattle.planes.specs.declared.place.Place.{Place}
use Rattle.planes.specs.declared.tie.Tie.{Tie}
use Rattle.planes.specs.declared.tie.Tie.TheVariants.{Free, Off, On, Same}
use Rattle.planes.specs.Looks.{boxed}

-- one row more, unless that would make over 1,000
abbrev pub one_more : ℕ → ℕ
one_more rows = cond (nat_lt rows 1000) (rows + 1) rows

-- the ties of a layer: those of the rows below, then its own
abbrev pub layered : ℕ → (ℕ → ℕ → Tie) → (ℕ → Tie) → ℕ → ℕ → Tie
layered rows below own row cell = cond (nat_lt row rows) (below row cell) (cond (row == rows && nat_lt row 1000) (own cell) Free)

-- the kind of a number: 1 to 6 turn the box, every other asks nothing
abbrev pub kind_of : ℕ → MirrorKind
kind_of n =
    cond (n == 1) LeftRight
    (cond (n == 2) TopBottom
    (cond (n == 3) HalfTurn
    (cond (n == 4) FallingDiagonal
    (cond (n == 5) RisingDiagonal
    (cond (n == 6) QuarterTurn
    Untied)))))

-- the image of a place, wherever it lies; nothing left of the box
abbrev pub turned : Frame → MirrorKind → ℕ → ℕ → Option Place
turned f LeftRight x y = Some (record { x = f.width - 1 - x; y = y })
turned f TopBottom x y = Some (record { x = x; y = f.height - 1 - y })
turned f HalfTurn x y = Some (record { x = f.width - 1 - x; y = f.height - 1 - y })
turned f FallingDiagonal x y = Some (record { x = y; y = x })
turned f RisingDiagonal x y = cond (nat_lt y f.width) (Some (record { x = f.width - 1 - y; y = f.width - 1 - x })) None
turned f QuarterTurn x y = cond (nat_lt y f.width) (Some (record { x = f.width - 1 - y; y = x })) None
turned f Untied x y = None

-- the same, where it lies in the box
abbrev pub kept : Frame → Option Place → Option Place
kept f None = None
kept f (Some p) = boxed f p.x p.y

abbrev pub image : Frame → MirrorKind → ℕ → ℕ → Option Place
image f kind x y = kept f (turned f kind x y)

-- a cell is as its image in the same generation; it is off where that lies outside
abbrev pub tie_to : Frame → ℕ → Option Place → Tie
tie_to f t None = Off
tie_to f t (Some p) = Same (cell_number f p.x p.y t)

-- the mirror's row
abbrev pub kind_tie : Frame → MirrorKind → ℕ → Tie
kind_tie f Untied cell = Free
kind_tie f kind cell = cond (nat_lt cell (cells f)) (tie_to f (cell_at f cell).t (image f kind (cell_at f cell).x (cell_at f cell).y)) Free

-- the row of a mirror of the kind with this number
abbrev pub mirror_tie : Frame → ℕ → ℕ → Tie
mirror_tie f number cell = kind_tie f (kind_of number) cell

-- a cell that has to be on or off
abbrev pub must : Bool → Tie
must on = cond on On Off
