-- What is so of each call, whatever search it is made of.
use Rattle.std.specs.Prelude.{◌≡◌, ℕ, ◌<◌, ◌≤◌, false, List, length, Ok, Err}
use Rattle.search.specs.Calls.{left_in}
use Rattle.search.specs.Moves.{is_done}
use Rattle.search.specs.declared.search.Search.{Search}
use Rattle.calls.specs.Asked.{Asked, to_open, to_go, to_read, to_write, to_count}
use Rattle.calls.specs.Ledgers.{Answered}
use Rattle.calls.specs.declared.call.Reply.{Reply}
use Rattle.calls.specs.declared.call.Reply.TheVariants.{Opened, Went, Read, Wrote, Counted}

-- a granted call answers in its own kind. To open and to go leave the page as it was, to read and to count search and page, to write the search;
-- a text that was written ends within the page, and a go that does not answer done leaves fewer to come
abbrev pub KindOf : Search → List ℕ → Asked → Reply → Search → List ℕ → Type 0
KindOf q p (to_open s r at) Opened q' p' = p' ≡ p
KindOf q p (to_go n) (Went a) q' p' = (p' ≡ p) × (is_done a ≡ false → left_in q' < left_in q)
KindOf q p (to_read c) (Read on) q' p' = (q' ≡ q) × (p' ≡ p)
KindOf q p (to_write from) (Wrote end) q' p' = (q' ≡ q) × (end ≤ length p')
KindOf q p to_count (Counted n) q' p' = (q' ≡ q) × (p' ≡ p)
KindOf q p call reply q' p' = ⊥

-- a refused one leaves both as they were
abbrev pub Kind : Search → List ℕ → Asked → Answered → Search → List ℕ → Type 0
Kind q p call (Ok reply) q' p' = KindOf q p call reply q' p'
Kind q p call (Err fault) q' p' = (q' ≡ q) × (p' ≡ p)
