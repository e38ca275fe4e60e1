-- What was written of a page, by what its listing handed to a printer.
use Rattle.std.proofs.Common.{◌≡◌, ℕ, ◌≤◌, Bool, List, [], ◌++◌, Option, Result, Ok, Err, sym, ap, ◌∙◌, subst, append-nil}
use Rattle.std.specs.List.{concat}
use Rattle.std.specs.Io.KnownBytes.{Keeps}
use Rattle.std.proofs.KnownBytes.{Keeps-refl}
use Rattle.calls.specs.declared.fault.CallFault.TheVariants.{Open, Go, Cell, Write, Tally}
use Rattle.histories.specs.Listed.{Listed}
use Rattle.listing.specs.Handing.{ClosedOrOpening, Shown, SpaceEnded, SpaceRan, in_full, page_of}
use Rattle.listing.specs.declared.fault.ListFault.{ListFault}
use Rattle.listing.specs.declared.fault.ListFault.TheVariants.{Call, Foot, Closed}
use Rattle.rolls.specs.Rolls.{Surface}
use Rattle.rules.specs.declared.rule.Rule.{Rule}
use Rattle.search.specs.declared.fault.OpenFault.TheVariants.{NotBlank, TieRows, Memory}
use Rattle.running.specs.Pages.{PageWritten}
use Rattle.running.proofs.Printing.{Fails, Rests, Takes, broke, handed_broke, handed_still}

module _ {A N : Type 0} (name : A → N) (written : A → Option (List ℕ)) (held : A → List ℕ) (s : Surface) (rule : Rule) (cell : ℕ → ℕ) (p p' : List ℕ) (from : A) (empty : held from ≡ []) where
  abbrev pub Finished : A → Type 0
  Finished to = SpaceRan (Takes name written held) (Rests name written held) (Fails name written held) s rule cell p from (Ok tt) p' to

  -- what was written by then, to the same writer
  abbrev pub WrittenBy : Result (Unit {0}) ListFault → A → Type 0
  WrittenBy result to = (name to ≡ name from) × PageWritten s rule cell (written from) result (written to)

  -- it was handed on whole, and the printer then rested
  pub printed : (mid to : A) → Finished mid → Rests name written held mid to → WrittenBy (Ok tt) to
  printed mid to ran r =
      let all = concat (page_of s rule ran.finds) in
      let taken = handed_still name written held from mid to (page_of s rule ran.finds) ran.ended.handed r in
      let took = taken.1 in (
        taken.0,
        (
          ran.rows,
          (
            took.part,
            took.grown,
            record {
              steps = ran.steps;
              finds = ran.finds;
              listed = ran.listed;
              all = ran.ended.all;
              texts = sym (append-nil took.part) ∙ ap (λ (left : List ℕ). took.part ++ left) (sym r.2) ∙ took.whole ∙ ap (λ (before : List ℕ). before ++ all) empty;
            },
          ),
        ),
      )

  -- a first part of texts that are shown of its finds
  begun : (to : A) (steps : ℕ) (finds : List (List Bool)) (texts : List (List ℕ)) → s.rows ≤ 8 → Listed s rule cell steps finds → Shown s rule [] finds texts → Fails name written held from (concat texts) to → WrittenBy (Err Closed) to
  begun to steps finds texts rows listed shown f = (
    f.0,
    (
      rows,
      (
        f.1.part,
        f.1.grown,
        record { steps = steps; finds = finds; listed = listed; texts = texts; shown = shown; rest = f.1.rest; whole = f.1.whole ∙ ap (λ (before : List ℕ). before ++ concat texts) empty },
      ),
    ),
  )

  -- it was handed on whole, and the printer failed at the rest
  pub cut : (mid to : A) → Finished mid → Fails name written held mid [] to → WrittenBy (Err Closed) to
  cut mid to ran f = begun to ran.steps ran.finds (page_of s rule ran.finds) ran.rows ran.listed (in_full ran.ended.all) (handed_broke name written held from mid to (page_of s rule ran.finds) ran.ended.handed f)

  kept : (to : A) → to ≡ from → Keeps (written from) (written to)
  kept to same = subst (λ (a : A). Keeps (written from) (written a)) (sym same) (Keeps-refl (written from))

  -- it came to a fault
  pub stopped : (fault : ListFault) (to : A) → ClosedOrOpening fault → SpaceEnded (Takes name written held) (Rests name written held) (Fails name written held) s rule cell p from (Err fault) p' to → WrittenBy (Err fault) to
  stopped Closed to room ran = begun to ran.steps ran.finds ran.ended.texts ran.rows ran.listed ran.ended.shown (broke name written held from to ran.ended.texts ran.ended.broken)
  stopped (Foot fault) to room ran = absurd room
  stopped (Call (Open TieRows)) to room ran = (ap name ran.2, (ran.0, kept to ran.2))
  stopped (Call (Open Memory)) to room ran = (ap name ran.2, (ran.0, kept to ran.2))
  stopped (Call (Open NotBlank)) to room ran = absurd ran
  stopped (Call (Go fault)) to room ran = absurd room
  stopped (Call (Cell fault)) to room ran = absurd room
  stopped (Call (Write fault)) to room ran = absurd room
  stopped (Call (Tally fault)) to room ran = absurd room
