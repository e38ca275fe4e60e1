-- Which instances a system has to have, and which of them touch a class.
use Rattle.std.specs.Prelude.{◌≡◌, ℕ, ◌<◌, pos, negsuc, ◌≤ℤ◌, Bool, ◌==◌, ◌||◌, List, length, Some, Vec, slice_get, slice_index_or, vec_items, vec_len}
use Rattle.std.specs.List.{list_any}
use Rattle.std.specs.declared.alloc.Global.{Global}
use Rattle.frames.specs.declared.frame.Frame.{Frame}
use Rattle.frames.specs.Frames.{cells}
use Rattle.planes.specs.declared.neighbours.Offset.{Offset}
use Rattle.planes.specs.declared.tie.Tie.TheVariants.{Free}
use Rattle.planes.specs.Meaning.{Meaning}
use Rattle.rolls.specs.Rolls.{Surface, surface}
use Rattle.classes.specs.declared.classes.Classes.{Classes}
use Rattle.classes.specs.Numbers.{Numbers}
use Rattle.systems.specs.declared.instance.Instance.{Instance}
use Rattle.systems.specs.Alike.{Covers}
use Rattle.systems.specs.Systems.{In, Mentions}
use Rattle.gathering.specs.Bounds.{nowhere}

-- two lists ask the same: each instance of one asks what one of the other asks, however often and in whatever sequence
abbrev pub SameInstances : List Instance → List Instance → Type 0
SameInstances is js = Covers is js × Covers js is

-- a plane without ties
abbrev pub bare : Meaning → Surface
bare plane = surface plane 0 (λ row c. Free)

-- an offset of one place at most
abbrev pub Beside : Offset → Type 0
Beside o = (negsuc 0 ≤ℤ o.dx) × (o.dx ≤ℤ pos 1) × (negsuc 0 ≤ℤ o.dy) × (o.dy ≤ℤ pos 1)

-- the class of each cell and the lowest cell of each class, as classes keep them
abbrev pub kept : Classes → Numbers
kept classes = record { classes = vec_items classes.labels; lowest = vec_items classes.lowest }

-- each cell of a frame has a class
abbrev pub Classed : Frame → Classes → Type 0
Classed frame classes = vec_len classes.labels ≡ cells frame

-- each instance that names a class has its number among these
abbrev pub AllTouching : List Instance → ℕ → List ℕ → Type 0
AllTouching is class numbers = (k : ℕ) → k < length is → Mentions (slice_index_or is k nowhere) class → In k numbers

-- each of these is the number of an instance that names a class
abbrev pub OnlyTouching : List Instance → ℕ → List ℕ → Type 0
OnlyTouching is class numbers = (k : ℕ) → In k numbers → (k < length is) × Mentions (slice_index_or is k nowhere) class

-- whether an instance names a class
abbrev pub names : ℕ → Instance → Bool
names class i = i.centre == class || i.successor == class || list_any (λ n. n == class) i.neighbours

-- whether a number is noted
abbrev pub noted : ℕ → List ℕ → Bool
noted k numbers = list_any (λ n. n == k) numbers

-- of each instance the number is noted exactly if it names a class
abbrev pub Noted : List Instance → ℕ → List ℕ → Type 0
Noted is class numbers = (k : ℕ) → k < length is → noted k numbers ≡ names class (slice_index_or is k nowhere)

-- so in each list, by class
abbrev pub EachNoted : List Instance → List (Vec ℕ Global) → Type 0
EachNoted is each = (class : ℕ) (numbers : Vec ℕ Global) → slice_get each class ≡ Some numbers → Noted is class (vec_items numbers)
