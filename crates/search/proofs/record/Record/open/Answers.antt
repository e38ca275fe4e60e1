use Rattle.std.proofs.Common.{◌≡◌, refl, sym, vec_len, ap, subst, arith, ◌∙◌}
use Rattle.frames.specs.Frames.{cells}
use Rattle.frames.specs.declared.frame.Frame.{Frame}
use Rattle.rolls.specs.Laws.{Orders}
use Rattle.rolls.specs.Rolls.{Surface, surface}
use Rattle.classes.specs.Asked.{torn_among}
use Rattle.classes.specs.declared.classes.Classes.{Classes}
use Rattle.systems.specs.Spaces.{classes_by_rank}
use Rattle.gathering.specs.Systems.{SystemOf}
use Rattle.gathering.specs.declared.system.System.{System}
use Rattle.settling.specs.Boards.{labels_of, values_of}
use Rattle.systems.specs.Spaces.{start_of}
use Rattle.search.proofs.Opened.{searches}
use Rattle.search.proofs.record.Record.open.Goals as goal

pub ranked_classes-requires : goal.ranked_classes-requires
ranked_classes-requires g c = ap (λ (k : Classes). vec_len k.labels) c.classes.ensures ∙ c.in_ok-system.ensures.classed ∙ ap cells (sym c.frame-frame.ensures)

pub invariant_of-record-clause-classed : goal.invariant_of-record-clause-classed
invariant_of-record-clause-classed g c =
    let b = c.in_ok-board.board in
    let all = ap (λ (y : System). vec_len y.classes.labels) c.in_ok-board.ensures.system ∙ c.in_ok-system.ensures.classed ∙ ap cells (sym c.frame-frame.ensures) in
    omega (arith, all, b.system.classes.labels.ok.0)

pub returns-clause-searches : goal.returns-clause-searches
returns-clause-searches g c =
    let s : Surface = surface (g.S.Plane.means c.args.space.now) (g.S.Space.count c.args.space.now) (g.S.Space.tied c.args.space.now) in
    let order = c.args.order.now in
    let b = c.in_ok-board.board in
    let made = c.in_ok-board.ensures in
    let cell = g.O.Order.cell_of_rank order s.frame in
    let orders : Orders (cells s.frame) cell (g.O.Order.rank_of_cell order s.frame) =
    record {
      within = g.met.O.Order.within order s.frame;
      ranked = g.met.O.Order.ranked order s.frame;
      back = g.met.O.Order.back order s.frame;
      forth = g.met.O.Order.forth order s.frame;
    } in
    let its : SystemOf s b.system = subst (SystemOf s) (sym made.system) c.in_ok-system.ensures in
    let ranks : c.in_ok-ranks.ranks.items ≡ classes_by_rank (labels_of b) cell (cells s.frame) =
    c.in_ok-ranks.ensures
    ∙ ap (λ (f : Frame). classes_by_rank c.classes.result.now.labels.items (g.O.Order.cell_of_rank order f) (cells f)) c.frame-frame.ensures
    ∙ ap (λ (k : Classes). classes_by_rank k.labels.items cell (cells s.frame)) c.classes.ensures
    ∙ ap (λ (y : System). classes_by_rank y.classes.labels.items cell (cells s.frame)) (sym made.system) in
    let values : values_of b ≡ start_of b.system.classes.musts.items = made.values ∙ ap (λ (y : System). start_of y.classes.musts.items) (sym made.system) in
    let torn : c.torn-torn.result ≡ torn_among b.system.classes.musts.items =
    c.torn-torn.ensures ∙ ap (λ (k : Classes). torn_among k.musts.items) c.classes-2.ensures ∙ ap (λ (y : System). torn_among y.classes.musts.items) (sym made.system) in
    searches s c.args.rule.now cell (g.O.Order.rank_of_cell order s.frame) orders _ its
    made.table ranks values made.trail made.settled c.in_ok-decisions.ensures.items refl
    c.torn-torn.result torn c.frame-frame.ensures refl c.settle_first.new.self c.settle_first.ensures.same c.settle_first.ensures.follows
