-- The laws of orders that rank by a cell's digits in another turn. A cell's own number has the digits t, y and x.
use Rattle.std.specs.Prelude.{◌≡◌, ℕ, ◌*◌, ◌/◌, ◌%◌, ◌<◌, Bool, true, false}
use Rattle.std.proofs.Common.{subst, sym, ◌∙◌}
use Rattle.std.proofs.lemmas.Nat.{mod_below}
use Rattle.frames.specs.declared.frame.Frame.{Frame}
use Rattle.frames.specs.Frames.{cells}
use Rattle.orders.specs.Orders.{places_cell, places_rank}
use Rattle.frames.specs.Radix.{joined, joined_digits, joined_below, high_below, last_of, middle_of, first_of, first_swapped}
use Rattle.frames.proofs.Cells.{number_below, generation_below, column_back, row_back, generation_back, number_back}

-- a way to number the cells of a box: from column, row and generation to a number and back
pub record Numbering (w h p : ℕ) : Type 0 where
  pub number : ℕ → ℕ → ℕ → ℕ
  pub column : ℕ → ℕ
  pub row : ℕ → ℕ
  pub generation : ℕ → ℕ
  pub number_below : (x y t : ℕ) → x < w → y < h → t < p → number x y t < w * h * p
  pub column_below : (n : ℕ) → n < w * h * p → column n < w
  pub row_below : (n : ℕ) → n < w * h * p → row n < h
  pub generation_below : (n : ℕ) → n < w * h * p → generation n < p
  pub column_of : (x y t : ℕ) → x < w → y < h → t < p → column (number x y t) ≡ x
  pub row_of : (x y t : ℕ) → x < w → y < h → t < p → row (number x y t) ≡ y
  pub generation_of : (x y t : ℕ) → x < w → y < h → t < p → generation (number x y t) ≡ t
  pub number_of : (n : ℕ) → number (column n) (row n) (generation n) ≡ n

-- from a number of one way to that of the same cell in another, and back
module _ {w h p : ℕ} (A B : Numbering w h p) where
  abbrev pub renumbered : ℕ → ℕ
  renumbered n = B.number (A.column n) (A.row n) (A.generation n)

  pub renumbered_below : (n : ℕ) → n < w * h * p → renumbered n < w * h * p
  renumbered_below n less = B.number_below (A.column n) (A.row n) (A.generation n) (A.column_below n less) (A.row_below n less) (A.generation_below n less)

  pub renumbered_back : (n : ℕ) → n < w * h * p → A.number (B.column (renumbered n)) (B.row (renumbered n)) (B.generation (renumbered n)) ≡ n
  renumbered_back n less =
      let x : ℕ = A.column n in
      let y : ℕ = A.row n in
      let t : ℕ = A.generation n in
      let hx : x < w = A.column_below n less in
      let hy : y < h = A.row_below n less in
      let ht : t < p = A.generation_below n less in
      (λ k. A.number (B.column_of x y t hx hy ht k) (B.row_of x y t hx hy ht k) (B.generation_of x y t hx hy ht k)) ∙ A.number_of n

module _ (w h p : ℕ) (pw : 0 < w) (ph : 0 < h) (pp : 0 < p) where
  -- the cells' own numbers
  abbrev pub by_number : Numbering w h p
  by_number = record {
    number = λ x y t. joined h w t y x;
    column = λ n. n % w;
    row = λ n. n / w % h;
    generation = λ n. n / w / h;
    number_below = number_below w h p;
    column_below = λ n less. mod_below n w pw;
    row_below = λ n less. mod_below (n / w) h ph;
    generation_below = λ n less. generation_below w h p n pw ph less;
    column_of = λ x y t hx hy ht. column_back w h x y t hx hy;
    row_of = λ x y t hx hy ht. row_back w h x y t hx hy;
    generation_of = λ x y t hx hy ht. generation_back w h x y t hx hy;
    number_of = number_back w h;
  }

  -- by row, column and generation
  abbrev pub by_row : Numbering w h p
  by_row = record {
    number = λ x y t. joined w p y x t;
    column = λ n. n / p % w;
    row = λ n. n / p / w;
    generation = λ n. n % p;
    number_below = λ x y t hx hy ht. subst (λ n. joined w p y x t < n) (first_swapped w h p) (joined_below h w p y x t hy hx ht);
    column_below = λ n less. mod_below (n / p) w pw;
    row_below = λ n less. high_below h w p n pw pp (subst (λ m. n < m) (sym (first_swapped w h p)) less);
    generation_below = λ n less. mod_below n p pp;
    column_of = λ x y t hx hy ht. middle_of w p y x t hx ht;
    row_of = λ x y t hx hy ht. first_of w p y x t hx ht;
    generation_of = λ x y t hx hy ht. last_of w p y x t ht;
    number_of = joined_digits w p;
  }

  -- by column, row and generation
  abbrev pub by_column : Numbering w h p
  by_column = record {
    number = λ x y t. joined h p x y t;
    column = λ n. n / p / h;
    row = λ n. n / p % h;
    generation = λ n. n % p;
    number_below = λ x y t hx hy ht. joined_below w h p x y t hx hy ht;
    column_below = λ n less. high_below w h p n ph pp less;
    row_below = λ n less. mod_below (n / p) h ph;
    generation_below = λ n less. mod_below n p pp;
    column_of = λ x y t hx hy ht. first_of h p x y t hy ht;
    row_of = λ x y t hx hy ht. middle_of h p x y t hy ht;
    generation_of = λ x y t hx hy ht. last_of h p x y t ht;
    number_of = joined_digits h p;
  }

  pub rows_within : (rank : ℕ) → rank < w * h * p → joined h w (rank % p) (rank / p / w) (rank / p % w) < w * h * p
  rows_within = renumbered_below by_row by_number

  pub rows_ranked : (cell : ℕ) → cell < w * h * p → joined w p (cell / w % h) (cell % w) (cell / w / h) < w * h * p
  rows_ranked = renumbered_below by_number by_row

  pub rows_back : (rank : ℕ) → rank < w * h * p → let cell : ℕ = joined h w (rank % p) (rank / p / w) (rank / p % w) in joined w p (cell / w % h) (cell % w) (cell / w / h) ≡ rank
  rows_back = renumbered_back by_row by_number

  pub rows_forth : (cell : ℕ) → cell < w * h * p → let rank : ℕ = joined w p (cell / w % h) (cell % w) (cell / w / h) in joined h w (rank % p) (rank / p / w) (rank / p % w) ≡ cell
  rows_forth = renumbered_back by_number by_row

  pub columns_within : (rank : ℕ) → rank < w * h * p → joined h w (rank % p) (rank / p % h) (rank / p / h) < w * h * p
  columns_within = renumbered_below by_column by_number

  pub columns_ranked : (cell : ℕ) → cell < w * h * p → joined h p (cell % w) (cell / w % h) (cell / w / h) < w * h * p
  columns_ranked = renumbered_below by_number by_column

  pub columns_back : (rank : ℕ) → rank < w * h * p → let cell : ℕ = joined h w (rank % p) (rank / p % h) (rank / p / h) in joined h p (cell % w) (cell / w % h) (cell / w / h) ≡ rank
  columns_back = renumbered_back by_column by_number

  pub columns_forth : (cell : ℕ) → cell < w * h * p → let rank : ℕ = joined h p (cell % w) (cell / w % h) (cell / w / h) in joined h w (rank % p) (rank / p % h) (rank / p / h) ≡ cell
  columns_forth = renumbered_back by_number by_column

-- the same over a frame, by what comes first
pub places_within : (by_columns : Bool) (f : Frame) (rank : ℕ) → rank < cells f → places_cell by_columns f rank < cells f
places_within true f = columns_within f.width f.height f.period f.wide f.tall f.lasting
places_within false f = rows_within f.width f.height f.period f.wide f.tall f.lasting

pub places_ranked : (by_columns : Bool) (f : Frame) (cell : ℕ) → cell < cells f → places_rank by_columns f cell < cells f
places_ranked true f = columns_ranked f.width f.height f.period f.wide f.tall f.lasting
places_ranked false f = rows_ranked f.width f.height f.period f.wide f.tall f.lasting

pub places_back : (by_columns : Bool) (f : Frame) (rank : ℕ) → rank < cells f → places_rank by_columns f (places_cell by_columns f rank) ≡ rank
places_back true f = columns_back f.width f.height f.period f.wide f.tall f.lasting
places_back false f = rows_back f.width f.height f.period f.wide f.tall f.lasting

pub places_forth : (by_columns : Bool) (f : Frame) (cell : ℕ) → cell < cells f → places_cell by_columns f (places_rank by_columns f cell) ≡ cell
places_forth true f = columns_forth f.width f.height f.period f.wide f.tall f.lasting
places_forth false f = rows_forth f.width f.height f.period f.wide f.tall f.lasting
