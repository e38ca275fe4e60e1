-- The still lifes in a box of two by two, from the bytes of their problem to the bytes that are printed for it.
use Rattle.std.specs.Prelude.{◌≡◌, ℕ, Bool, List, [], ◌∷◌, ◌++◌, Ok, codes, flat_map}
use Rattle.frames.specs.Frames.{shape_of}
use Rattle.frames.specs.declared.frame.Frame.{Frame}
use Rattle.rules.specs.Forms.{sets_of}
use Rattle.planes.specs.Layers.{kind_tie, layered, one_more}
use Rattle.planes.specs.Looks.{plain_look}
use Rattle.planes.specs.Pins.{own_tie}
use Rattle.planes.specs.declared.mirror.MirrorKind.TheVariants.{Untied}
use Rattle.planes.specs.declared.tie.Tie.TheVariants.{Free}
use Rattle.choices.specs.declared.any_order.AnyOrder.TheVariants.{Rows}
use Rattle.orders.specs.Orders.{rows_cell}
use Rattle.rolls.specs.Examples.{two_by_two, life, O, b}
use Rattle.rolls.specs.Rolls.{Surface, Roll}
use Rattle.systems.specs.Systems.{In}
use Rattle.histories.specs.Examples.{says_found, says_done, Answers}
use Rattle.histories.specs.Listed.{Listed}
use Rattle.histories.specs.Searches.{fresh}
use Rattle.problem.specs.Reading.{Said, SpaceSaid, problem_in}
use Rattle.listing.specs.Handing.{page_of}

-- lines, each with a newline after it
abbrev pub lined : List (List ℕ) → List ℕ
lined [] = []
lined (l ∷ ls) = l ++ (10 ∷ lined ls)

-- the problem
abbrev pub block_problem : List ℕ
block_problem = lined (codes "rule B3/S23" ∷ codes "box 2 2 1 0 0" ∷ codes "space plain" ∷ codes "order rows" ∷ codes "mirror 0" ∷ [])

-- what it says: the rule B3/S23, the order of rows, and the plain plane over the box, without a mirror and without a cell that is fixed
abbrev pub block_said : Said
block_said = record {
  rule = sets_of life;
  order = Rows;
  space = record { frame = shape_of two_by_two; look = plain_look two_by_two; mirror = Untied; pins = [] };
}

-- the surface of a space that is said, over its frame: no row of the plane, then the row of the mirror and that of the fixed cells
abbrev pub surface_said : Frame → SpaceSaid → Surface
surface_said f s = record {
  frame = f;
  look = s.look;
  rows = one_more (one_more 0);
  tie = layered (one_more 0) (layered 0 (λ row cell. Free) (kind_tie f s.mirror)) (own_tie f s.pins);
}

-- the space of the problem
abbrev pub block_space : Surface
block_space = surface_said two_by_two block_said.space

-- the finds: the empty box and the block
abbrev pub empty_box : List Bool
empty_box = b ∷ b ∷ b ∷ b ∷ []

abbrev pub block : List Bool
block = O ∷ O ∷ O ∷ O ∷ []

-- the page: the text of each find, and how many there are
abbrev pub block_page : List ℕ
block_page = lined (codes "x = 2, y = 2, rule = B3/S23" ∷ codes "!" ∷ codes "x = 2, y = 2, rule = B3/S23" ∷ codes "2o$2o!" ∷ codes "found 2" ∷ [])

pub record BlockWorked : Type 0 where
  -- the problem is read
  pub reads : problem_in block_problem ≡ Ok block_said
  -- a search over its space, in its order, finds the empty box after 2 steps and the block after 6 more, and then is done
  pub answers : Answers block_space life 1000000 fresh (says_found empty_box 2 ∷ says_found block 6 ∷ says_done 0 ∷ [])
  -- these two are the whole roll: no page that is listed to its end has other finds, or has them in another sequence
  pub only : (steps : ℕ) (finds : List (List Bool)) → Listed block_space life (rows_cell two_by_two) steps finds → ((f : List Bool) → Roll block_space life f → In f finds) → finds ≡ empty_box ∷ block ∷ []
  -- and this is printed of them, byte by byte
  pub prints : flat_map (λ text. text) (page_of block_space life (empty_box ∷ block ∷ [])) ≡ block_page
