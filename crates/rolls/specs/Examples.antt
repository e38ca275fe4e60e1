-- Worked examples of the roll.
use Rattle.std.specs.Prelude.{◌≡◌, ℕ, ◌+◌, ◌*◌, ◌/◌, ◌%◌, ◌≤◌, Bool, true, false, List, [], ◌∷◌, ◌++◌, ℤ, pos, negsuc, ◌≤ℤ◌, refl}
use Rattle.std.proofs.Common.{lit<, lit≤}
use Rattle.frames.specs.declared.frame.Frame.{Frame}
use Rattle.rules.specs.declared.rule.Rule.{Rule}
use Rattle.planes.specs.declared.tie.Tie.TheVariants.{Free, Off, Same}
use Rattle.planes.specs.Looks.{plain_look, torus_look}
use Rattle.rolls.specs.Laws.{Before}
use Rattle.rolls.specs.Rolls.{Surface, Roll, InstanceHolds, TieHolds, around, successor, total, value}

-- a surface without rows of ties: plain, or a torus
abbrev pub plainly : Frame → Surface
plainly f = record { frame = f; look = plain_look f; rows = 0; tie = λ row c. Free }

abbrev pub around_torus : Frame → Surface
around_torus f = record { frame = f; look = torus_look f; rows = 0; tie = λ row c. Free }

-- the plain plane with one row of ties, which asks every cell to be off
abbrev pub emptied : Frame → Surface
emptied f = record { frame = f; look = plain_look f; rows = 1; tie = λ row c. Off }

-- the frame of small numbers, with its limits
abbrev pub framed : (w h p : ℕ) (dx dy : ℤ) → 1 ≤ w → w ≤ 32 → 1 ≤ h → h ≤ 32 → 1 ≤ p → p ≤ 16 → w * h * p ≤ 4096 → negsuc 7 ≤ℤ dx → dx ≤ℤ pos 8 → negsuc 7 ≤ℤ dy → dy ≤ℤ pos 8 → Frame
framed w h p dx dy a b c d e g i j k l m = record { width = w; height = h; period = p; dx = dx; dy = dy; wide = a; narrow = b; tall = c; low = d; lasting = e; short = g; small = i; left = j; right = k; up = l; down = m }

-- the boxes 2 2 1 0 0, 1 1 1 0 0, 1 1 1 2 0, and 4 4 4 with the drift 1 1 or -1 -1
abbrev pub two_by_two : Frame
two_by_two = framed 2 2 1 (pos 0) (pos 0) (lit≤ tt) (lit≤ tt) (lit≤ tt) (lit≤ tt) (lit≤ tt) (lit≤ tt) (lit≤ tt) (record { le = tt }) (record { le = tt }) (record { le = tt }) (record { le = tt })

abbrev pub one_cell : Frame
one_cell = framed 1 1 1 (pos 0) (pos 0) (lit≤ tt) (lit≤ tt) (lit≤ tt) (lit≤ tt) (lit≤ tt) (lit≤ tt) (lit≤ tt) (record { le = tt }) (record { le = tt }) (record { le = tt }) (record { le = tt })

abbrev pub leaping_cell : Frame
leaping_cell = framed 1 1 1 (pos 2) (pos 0) (lit≤ tt) (lit≤ tt) (lit≤ tt) (lit≤ tt) (lit≤ tt) (lit≤ tt) (lit≤ tt) (record { le = tt }) (record { le = tt }) (record { le = tt }) (record { le = tt })

abbrev pub down_right : Frame
down_right = framed 4 4 4 (pos 1) (pos 1) (lit≤ tt) (lit≤ tt) (lit≤ tt) (lit≤ tt) (lit≤ tt) (lit≤ tt) (lit≤ tt) (record { le = tt }) (record { le = tt }) (record { le = tt }) (record { le = tt })

abbrev pub up_left : Frame
up_left = framed 4 4 4 (negsuc 0) (negsuc 0) (lit≤ tt) (lit≤ tt) (lit≤ tt) (lit≤ tt) (lit≤ tt) (lit≤ tt) (lit≤ tt) (record { le = tt }) (record { le = tt }) (record { le = tt }) (record { le = tt })

-- B3/S23, B3/S8 and B/S
abbrev pub life : Rule
life = record { births = 8; survivals = 12; few_births = lit< tt; few_survivals = lit< tt; quiet = refl }

abbrev pub crowded : Rule
crowded = record { births = 8; survivals = 256; few_births = lit< tt; few_survivals = lit< tt; quiet = refl }

abbrev pub barren : Rule
barren = record { births = 0; survivals = 0; few_births = lit< tt; few_survivals = lit< tt; quiet = refl }

-- rows of a filling: off and on
abbrev pub O : Bool
O = true

abbrev pub b : Bool
b = false

-- the glider bo$2bo$3o! and what becomes of it in four generations
abbrev pub glider : List Bool
glider =
    (b ∷ O ∷ b ∷ b ∷ b ∷ b ∷ O ∷ b ∷ O ∷ O ∷ O ∷ b ∷ b ∷ b ∷ b ∷ b ∷ [])
    ++ ((b ∷ b ∷ b ∷ b ∷ O ∷ b ∷ O ∷ b ∷ b ∷ O ∷ O ∷ b ∷ b ∷ O ∷ b ∷ b ∷ [])
    ++ ((b ∷ b ∷ b ∷ b ∷ b ∷ b ∷ O ∷ b ∷ O ∷ b ∷ O ∷ b ∷ b ∷ O ∷ O ∷ b ∷ [])
    ++ (b ∷ b ∷ b ∷ b ∷ b ∷ O ∷ b ∷ b ∷ b ∷ b ∷ O ∷ O ∷ b ∷ O ∷ O ∷ b ∷ [])))

-- two fillings of two by two: the top row has its right cell on, or the left column its lower one
abbrev pub top_right : List Bool
top_right = b ∷ O ∷ b ∷ b ∷ []

abbrev pub bottom_left : List Bool
bottom_left = b ∷ b ∷ O ∷ b ∷ []

-- the cell of a rank in two by two, by row and by column
abbrev pub by_row : ℕ → ℕ
by_row rank = rank

abbrev pub by_column : ℕ → ℕ
by_column rank = rank % 2 * 2 + rank / 2

pub record RollsWorked : Type 0 where
  -- what is looked at: column -1 of a torus of two by two is its column 1; on the plain plane nothing is there, and that is off
  pub goes_round : value (around_torus two_by_two) top_right 0 (negsuc 0) (pos 0) ≡ true
  pub nothing : value (plainly two_by_two) (O ∷ O ∷ O ∷ O ∷ []) 0 (negsuc 0) (pos 0) ≡ false
  -- on a torus of one cell all eight looks around it fall on it, and each counts
  pub eight_looks : total (around_torus one_cell) (O ∷ []) 0 (pos 0) (pos 0) around ≡ 8
  -- with a drift of two columns the successor of an empty place two columns to the right is the cell itself
  pub taken_away : successor (plainly leaping_cell) (O ∷ []) 0 (pos 2) (pos 0) ≡ true
  -- under B3/S23 a cell of the block has three neighbours on, and stays on; a lone cell has none, and does not
  pub stays : InstanceHolds (plainly two_by_two) life (O ∷ O ∷ O ∷ O ∷ []) 0 (pos 1) (pos 1)
  pub dies : InstanceHolds (plainly two_by_two) life (O ∷ b ∷ b ∷ b ∷ []) 0 (pos 0) (pos 0) → ⊥
  -- a tie to another cell holds where both are alike
  pub alike : TieHolds (b ∷ O ∷ O ∷ b ∷ []) 1 (Same 2)
  pub unlike : TieHolds (b ∷ O ∷ b ∷ b ∷ []) 1 (Same 2) → ⊥
  -- dictionary order: by row the filling whose first cell on comes later is the earlier one; by column it is the other way
  pub earlier : Before 4 by_row bottom_left top_right
  pub later : Before 4 by_column top_right bottom_left
  -- the block keeps B3/S23 in a box of two by two, and a lone cell does not
  pub block : Roll (plainly two_by_two) life (O ∷ O ∷ O ∷ O ∷ [])
  pub lone : Roll (plainly two_by_two) life (O ∷ b ∷ b ∷ b ∷ []) → ⊥
  -- nor does the block keep a row of ties that asks every cell to be off
  pub asked_off : Roll (emptied two_by_two) life (O ∷ O ∷ O ∷ O ∷ []) → ⊥
  -- the drift is taken away: the glider flies down and right, and not up and left
  pub flies : Roll (plainly down_right) life glider
  pub not_back : Roll (plainly up_left) life glider → ⊥
  -- each look counts: on a torus of one cell the sum is eight
  pub eight : Roll (around_torus one_cell) crowded (O ∷ [])
  -- instances reach nine cells out: nothing leaps two columns under a rule without births
  pub no_leap : Roll (plainly leaping_cell) barren (O ∷ []) → ⊥
