-- What an instance, and the lists kept of instances, have to keep to be read safely.
use Rattle.std.specs.Prelude.{◌≡◌, ℕ, ◌<◌, List, [], length, Some, Vec, slice_get, slice_index, slice_index_or}
use Rattle.std.specs.declared.alloc.Global.{Global}
use Rattle.systems.specs.declared.instance.Instance.{Instance}

-- every class that an instance names is below n
abbrev pub Names : ℕ → Instance → Type 0
Names n i = (i.centre < n) × (i.successor < n) × ((k : ℕ) → k < 8 → slice_index i.neighbours k < n)

-- the instance that names only class 0
abbrev pub nowhere : Instance
nowhere = record { centre = 0; successor = 0; neighbours = [] }

-- every class that an instance of a list names is below n
abbrev pub EachNames : ℕ → List Instance → Type 0
EachNames n is = (k : ℕ) → k < length is → Names n (slice_index_or is k nowhere)

-- each number of a list is below n
abbrev pub Under : ℕ → List ℕ → Type 0
Under n xs = (k : ℕ) → k < length xs → slice_index xs k < n

-- each number of each list is below n
abbrev pub EachUnder : ℕ → List (Vec ℕ Global) → Type 0
EachUnder n each = (c : ℕ) (numbers : Vec ℕ Global) → slice_get each c ≡ Some numbers → Under n numbers.items
