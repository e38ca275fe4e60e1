use Rattle.std.proofs.Common.{Ok, Err, ap, ◌∙◌}
use Rattle.reader.proofs.Calls.{call_text, call_answer, call_stands, fault_spot}
use Rattle.reader.proofs.reader.Reader.next_item.Goals as goal

pub returns-in-Ok : goal.returns-in-Ok
returns-in-Ok c =
    let old = c.args.self.now in
    let mid = c.seek_item.new.self in
    let new = c.item_here.new.self in
    let on = c.seek_item.ensures in
    let took = c.in-Ok.ensures in
    record {
      text = call_text old mid new (Ok c.in-Ok.taken) on.text on.over took;
      answer = call_answer old mid new (Ok c.in-Ok.taken) on.text on.over took;
      stands = call_stands old mid new (Ok c.in-Ok.taken) on.text on.over took;
    }

pub returns-in-Err : goal.returns-in-Err
returns-in-Err c =
    let old = c.args.self.now in
    let mid = c.seek_item.new.self in
    let new = c.item_here.new.self in
    let on = c.seek_item.ensures in
    let took = c.in-Err.ensures in
    record {
      text = call_text old mid new (Err c.in-Err.cause) on.text on.over took;
      answer = ap Err (fault_spot old mid new (Err c.in-Err.cause) on.text on.over took c.in-Err.cause) ∙ call_answer old mid new (Err c.in-Err.cause) on.text on.over took;
      stands = call_stands old mid new (Err c.in-Err.cause) on.text on.over took;
    }
