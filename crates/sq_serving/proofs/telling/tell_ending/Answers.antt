use Rattle.std.proofs.Common.{[], append-nil}
use Rattle.sq_text.proofs.Appending.{both}
use Rattle.sq_serving.proofs.telling.tell_ending.Goals as goal
use Rattle.sq_serving.proofs.telling.tell_ending.Goals.{then-outlet, else-outlet}

pub returns : goal.returns
returns g c =
    let contents = g.W.Write.contents in
    let said = c.say_ending.ensures in
    let flushed = c.flush.ensures in
    record {
      text = said.0;
      is = said.1;
      written = λ still.
          both (contents c.args.outlet.writer) (contents c.say_ending.new.outlet.writer) (contents c.flush.new.self.writer) said.0 [] said.0
          (said.2.written (flushed.goes_on still)) (flushed.written still) (append-nil said.0);
      goes_on = λ still. said.2.goes_on (flushed.goes_on still);
      told_is = elim c.if-outlet.branch [ then-outlet w ↦ rw w.if-outlet.true w.told-is | else-outlet w ↦ rw w.if-outlet.false w.told-is ];
    }
