-- A search that is opened follows the system from the first settling on.
use Rattle.std.proofs.Common.{Vec, Global, ◌≡◌, ℕ, ◌+◌, Bool, true, false, List, [], ◌∷◌, ◌++◌, length, slice_index, refl, sym, ap, ◌∙◌, subst, arith, append-nil}
use Rattle.std.proofs.lemmas.List.FromFn.{map-range_with_len_more}
use Rattle.frames.specs.Frames.{cells}
use Rattle.rules.specs.declared.rule.Rule.{Rule}
use Rattle.rules.specs.Answers.{answer}
use Rattle.rolls.specs.Rolls.{Surface}
use Rattle.rolls.specs.Laws.{Orders}
use Rattle.codes.specs.Tables.{code_at, code_in}
use Rattle.classes.specs.Asked.{torn_among}
use Rattle.classes.specs.Classed.{numbers_in}
use Rattle.classes.specs.Needed.{musts_in}
use Rattle.classes.specs.Numbers.{Numbers}
use Rattle.gathering.specs.Systems.{SystemOf, instances_of}
use Rattle.gathering.specs.declared.system.System.{System}
use Rattle.codes.specs.declared.value.Value.{Value}
use Rattle.systems.specs.Systems.{Sys, at, Below}
use Rattle.systems.specs.Settling.{Settles, Least, Dead}
use Rattle.systems.specs.Spaces.{classes_by_rank, start_of, system_of}
use Rattle.systems.specs.Trails.{Trailed, not_yet, Grows, QuietBut}
use Rattle.systems.proofs.Base.{never}
use Rattle.systems.proofs.Spaces.{solutions_right}
use Rattle.systems.specs.Alike.{Alike}
use Rattle.systems.proofs.Alike.{alike_turned, proper_alike}
use Rattle.systems.proofs.Settle.{settles_least}
use Rattle.search.specs.declared.standing.Decision.{Decision}
use Rattle.settling.specs.Boards.{Kept, MeetsAt, Serves, held_of, labels_of, settled_len, trail_len, trail_of, unsettled_of, values_of}
use Rattle.search.specs.Moves.{MayOpen, MaySettle}
use Rattle.search.specs.Opening.{Searches}
use Rattle.search.specs.Records.{OnlySearch}
use Rattle.search.specs.Stacks.{Stack, StandsAs, decided_in, is_contradiction, undecided}
use Rattle.search.specs.Standings.{Follows, Renders}
use Rattle.settling.specs.declared.board.Board.{Board}
use Rattle.search.specs.declared.record.Record.{Record}
use Rattle.search.specs.declared.standing.Standing.{Standing}
use Rattle.search.specs.declared.standing.Standing.TheVariants.{Contradiction, Find, Told, Choice}
use Rattle.search.proofs.Decided.{renders_kept}
use Rattle.search.proofs.Settled.{met_dead, serves}

-- to settle what is settled comes to what it came to
least_least : (S : Sys) {ρ τ σ : List Value} → Least S ρ τ → Least S τ σ → Least S ρ σ
least_least S l k =
    record {
      closed = k.closed;
      above = λ x b e. k.above x b (l.above x b e);
      least = λ v c h. k.least v c (l.least v c h);
      long = k.long ∙ l.long;
    }

stands_least : (S : Sys) {ρ τ : List Value} (σ : List Value) → Least S ρ τ → (s : Standing) → StandsAs S τ σ s → StandsAs S ρ σ s
stands_least S σ l Contradiction h = λ v c b. h v c (l.least v c b)
stands_least S σ l Find h = (least_least S l h.0, h.1)
stands_least S σ l Told h = (least_least S l h.0, h.1)
stands_least S σ l (Choice rank) h = (least_least S l h.0, h.1)

module _ (S : Sys) (r : Record) (torn : Bool) (may : MayOpen r S torn) where
  -- what is held when it has grown from the start
  grown_stack : (r' : Record) → r'.decisions ≡ r.decisions → Grows (held_of r.board) (held_of r'.board) → Stack S r'.decisions.items (held_of r'.board)
  grown_stack r' e g =
      let trail : trail_of r'.board ≡ g.added = g.trail ∙ ap (λ (xs : List ℕ). xs ++ g.added) may.unset in
      let t : Trailed S.start (values_of r'.board) (trail_of r'.board) =
      subst (Trailed S.start (values_of r'.board)) (sym trail) (subst (λ (ρ : List Value). Trailed ρ (values_of r'.board) g.added) may.start g.values) in
      subst (λ (ds : Vec Decision Global). Stack S ds.items (held_of r'.board)) (sym e) (subst (λ (ds : List Decision). Stack S ds (held_of r'.board)) (sym may.undecided) (undecided t))

  none_off_there : (r' : Record) → r'.decisions ≡ r.decisions → decided_in S r'.decisions.items ≡ S.start
  none_off_there r' e = ap (λ (ds : Vec Decision Global). decided_in S ds.items) e ∙ ap (decided_in S) may.undecided

  -- a record that grew from it, with no decision, stands as settling from the start came to
  pub opened : (r' : Record) → Kept r.board r'.board → r'.ranks ≡ r.ranks → r'.decisions ≡ r.decisions → Grows (held_of r.board) (held_of r'.board) →
      (is_contradiction r'.standing ≡ false → settled_len r'.board ≡ trail_len r'.board) → StandsAs S S.start (values_of r'.board) r'.standing → Follows r' S
  opened r' kept ranks decisions grows settled stands =
      record {
        board = renders_kept kept may.board;
        order = may.order ∙ ap (λ (v : Vec ℕ Global). v.items) (sym ranks);
        stack = grown_stack r' decisions grows;
        marks = λ j l. absurd (omega (arith, l, r'.decisions.ok.0, ap (λ (v : Vec Decision Global). length v.items) decisions, ap length may.undecided));
        settled = settled;
        stands = subst (λ (ρ : List Value). StandsAs S ρ (values_of r'.board) r'.standing) (sym (none_off_there r' decisions)) stands;
      }

  -- at a torn class nothing is settled
  pub torn_follows : torn ≡ true → Follows r S
  torn_follows q =
      opened r (record { system = refl; table = refl }) refl refl (record { added = []; trail = sym (append-nil (trail_of r.board)); values = not_yet })
      (λ e. never (cc (e, ap is_contradiction may.standing)))
      (subst (StandsAs S S.start (values_of r.board)) (sym may.standing) (λ v c b. never (cc (c.not_torn, may.whole, q))))

  module _ (whole : torn ≡ false) where
    pub may_serve : Serves r.board S
    may_serve = serves may.board (may.whole ∙ whole)

    -- a contradiction is met at once
    pub met_follows : (r' : Record) → Kept r.board r'.board → r'.ranks ≡ r.ranks → r'.decisions ≡ r.decisions → Grows (held_of r.board) (held_of r'.board) → r'.standing ≡ r.standing → MeetsAt S (values_of r.board) (values_of r'.board) → Follows r' S
    met_follows r' kept ranks decisions grows same m =
        opened r' kept ranks decisions grows
        (λ e. never (cc (e, ap is_contradiction (same ∙ may.standing))))
        (subst (StandsAs S S.start (values_of r'.board)) (sym (same ∙ may.standing)) (subst (Dead S) may.start (met_dead m)))

    module _ (b : Board) (kept : Kept r.board b) (all : settled_len b ≡ trail_len b) (s : Settles S (values_of r.board) (values_of b)) where
      least : Least S S.start (values_of b)
      least = subst (λ (ρ : List Value). Least S ρ (values_of b)) may.start (settles_least S s)

      -- what is settled may be settled again
      pub again : (r' : Record) → r'.board ≡ b → r'.ranks ≡ r.ranks → MaySettle r' S 0
      again r' e ranks =
          record {
            board = subst (λ (c : Board). Renders c S) (sym e) (renders_kept kept may.board);
            order = may.order ∙ ap (λ (v : Vec ℕ Global). v.items) (sym ranks);
            whole = may.whole ∙ whole;
            quiet = subst (λ (c : Board). QuietBut S (at (values_of c)) (unsettled_of c)) (sym e) (λ i m out. s.closed.quiet i m);
            begun = subst (λ (c : Board). Below (at S.start) (at (values_of c))) (sym e) least.above;
            known_before = λ k l. absurd (omega arith);
          }

      pub stands_again : (σ : List Value) (t : Standing) → StandsAs S (values_of b) σ t → StandsAs S S.start σ t
      stands_again σ t h = stands_least S σ least t h

-- ---- the classes by rank
pub by_rank_none : (classes : List ℕ) (cell : ℕ → ℕ) → classes_by_rank classes cell 0 ≡ []
unfolding classes_by_rank
by_rank_none classes cell = refl

pub by_rank_more : (classes : List ℕ) (cell : ℕ → ℕ) (n : ℕ) → classes_by_rank classes cell (n + 1) ≡ classes_by_rank classes cell n ++ slice_index classes (cell n) ∷ []
unfolding classes_by_rank
by_rank_more classes cell n = map-range_with_len_more (λ k. slice_index classes (cell k)) 0 n n (omega arith)

-- ---- what the space, the order and the rule say
module _ (s : Surface) (rule : Rule) (cell rank : ℕ → ℕ) (orders : Orders (cells s.frame) cell rank) (r : Record) (its : SystemOf s r.board.system) where
  -- the system that the space, the order and the rule say, and the one of the instances that are kept
  abbrev pub said : Sys
  said = system_of s rule cell

  abbrev pub S : Sys
  S = record { rule = said.rule; instances = instances_of r.board.system; start = said.start; torn = said.torn; order = said.order }

  labels_are : labels_of r.board ≡ (numbers_in s).classes
  labels_are = ap (λ (n : Numbers). n.classes) its.classes

  alike : Alike S said
  alike = record { rule = refl; start = refl; torn = refl; order = refl; forth = its.instances.0; back = its.instances.1 }

  module _ (table : (n : ℕ) → code_in r.board.table n ≡ code_at (answer rule) n)
      (ranks : r.ranks.items ≡ classes_by_rank (labels_of r.board) cell (cells s.frame))
      (values : values_of r.board ≡ start_of r.board.system.classes.musts.items)
      (unset : trail_of r.board ≡ []) (unsettled : settled_len r.board ≡ 0) (undecided : r.decisions.items ≡ []) (standing : r.standing ≡ Contradiction) where
    values_are : values_of r.board ≡ start_of (musts_in s)
    values_are = values ∙ ap start_of its.musts

    pub may_open : (torn : Bool) → torn ≡ torn_among r.board.system.classes.musts.items → MayOpen r S torn
    may_open torn t =
        record {
          board = record {
            rule = table;
            there = λ i m. m;
            back = λ i m. m;
            sized = omega (arith, ap length values_are, r.board.sized, r.board.known.values.ok.0);
            proper = proper_alike said S (alike_turned S said alike) ((solutions_right s rule cell its.inside).proper rank orders);
          };
          order = ap (λ (labels : List ℕ). classes_by_rank labels cell (cells s.frame)) (sym labels_are) ∙ sym ranks;
          whole = ap torn_among (sym its.musts) ∙ sym t;
          start = values_are;
          unset = unset;
          unsettled = unsettled;
          undecided = undecided;
          standing = standing;
        }

    pub searches : (torn : Bool) → torn ≡ torn_among r.board.system.classes.musts.items → r.frame ≡ s.frame → r.rule ≡ rule →
        (r' : Record) → OnlySearch r r' → ((S : Sys) → MayOpen r S torn → Follows r' S) → Searches r' s rule cell
    searches torn t frame same_rule r' kept follows =
        record {
          frame = kept.frame ∙ frame;
          same_rule = kept.rule ∙ same_rule;
          classes = ap (λ (y : System). y.classes.labels.items) kept.board.system ∙ labels_are;
          inside = its.inside;
          system = S;
          alike = alike;
          follows = follows S (may_open torn t);
        }
