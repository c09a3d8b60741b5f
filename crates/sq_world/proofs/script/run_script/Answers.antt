use Rattle.std.proofs.Common.{◌≡◌, subst, sym, ap, ◌∙◌}
use Rattle.std.specs.Prelude.{Some, IfOk}
use Rattle.std.specs.Io.KnownBytes.{Appends}
use Rattle.sq_text.specs.Pieces.{next_line_number}
use Rattle.sq_text.specs.Coming.{CanCome, LinesValue}
use Rattle.sq_text.proofs.Comings.{come_now}
use Rattle.sq_text.specs.declared.input_fault.InputFault.TheVariants.{ReadFailed, TooLong}
use Rattle.sq_text.specs.declared.located.InputLine.TheVariants.{Later}
use Rattle.sq_text.specs.Located.{located}
use Rattle.sq_world.specs.declared.ending.Ending.{Ending}
use Rattle.sq_world.specs.Echo.{refused_text}
use Rattle.sq_world.specs.Run.{ending_at}
use Rattle.sq_world.specs.Script.{IsAnswered}
use Rattle.sq_world.proofs.Scripts.{begun, on_line, on_read, at_end, at_stop, at_rest, at_failed, at_long, at_too_many}
use Rattle.sq_world.proofs.script.run_script.Goals as goal

pub loop-lines-init : goal.loop-lines-init
loop-lines-init g c = λ o t leads same. begun c.args.manner o t _ _ _ leads

pub loop-lines-preserved-in_default : goal.loop-lines-preserved-in_default
loop-lines-preserved-in_default g c = λ o t leads same.
    let before = c.loop-lines.invariant o t leads same in
    let refused = c.in_ok-refused-in-Line.refused in
    on_line c.args.manner o t c.args.lines.now c.loop-lines.lines c.next.new.self (g.W.Write.contents c.args.writer.now) (g.W.Write.contents c.loop-lines.writer) (g.W.Write.contents c.write_line.new.writer) c.loop-lines.world c.write_line.new.world before refused c.in-Line.ensures.0
    (subst (λ line. IsAnswered c.args.manner.echoes o before.here line (g.W.Write.contents c.loop-lines.writer) (g.W.Write.contents c.write_line.new.writer) c.write_line.new.world refused) c.piece-bytes.ensures (c.in_ok-refused-in-Line.ensures o before.here before.leads same))
    (sym c.in_default.ensures)

pub loop-lines-preserved : goal.loop-lines-preserved
loop-lines-preserved g c = λ o t leads same.
    on_read c.args.manner o t c.args.lines.now c.loop-lines.lines c.read_more.new.self (g.W.Write.contents c.args.writer.now) (g.W.Write.contents c.loop-lines.writer) (g.W.Write.contents c.flush.new.self) c.loop-lines.world (c.loop-lines.invariant o t leads same) c.flush.ensures.bytes
    (λ ps can. subst (λ v. CanCome v ps) c.in-Unread.ensures.1 (can.0, c.read_more.ensures.comes can.0 ps can.1))

pub returns-in-Some : goal.returns-in-Some
returns-in-Some g c =
    let refused = c.in_ok-refused-in-Line.refused in
    at_stop c.args.manner c.end.result c.args.schema.now c.args.lines.now c.loop-lines.lines c.next.new.self c.next_line_number-line.result c.in-Some.number refused (g.W.Write.contents c.args.writer.now) (g.W.Write.contents c.loop-lines.writer) (g.W.Write.contents c.write_line.new.writer) (g.W.Write.contents c.end.new.writer) c.args.world.now c.loop-lines.world c.write_line.new.world
    c.loop-lines.invariant c.in-Line.ensures.0
    (λ o t leads same. subst (λ line. IsAnswered c.args.manner.echoes o t line (g.W.Write.contents c.loop-lines.writer) (g.W.Write.contents c.write_line.new.writer) c.write_line.new.world refused) c.piece-bytes.ensures (c.in_ok-refused-in-Line.ensures o t leads same))
    (sym c.in-Some.ensures) c.next_line_number-line.ensures
    (subst (λ (end : Ending). IfOk c.end.result (λ ending. ending ≡ end)) c.ending_at.ensures c.end.ensures.ending) c.end.ensures.dumped

pub returns-in-Rest : goal.returns-in-Rest
returns-in-Rest g c =
    at_rest c.args.manner c.end-in-Rest.result c.args.schema.now c.args.lines.now c.loop-lines.lines (next_line_number c.loop-lines.lines.lines_left) c.next.new.self.piece c.number-number.result (g.W.Write.contents c.args.writer.now) (g.W.Write.contents c.loop-lines.writer) (g.W.Write.contents c.write_refusal.new.writer) (g.W.Write.contents c.end-in-Rest.new.writer) c.args.world.now c.loop-lines.world
    c.loop-lines.invariant (come_now _ _ _ c.in-Rest.ensures.0) c.number-number.ensures
    (subst (λ line. Appends (g.W.Write.contents c.loop-lines.writer) (g.W.Write.contents c.write_refusal.new.writer) (refused_text c.args.manner.echoes line c.number-number.result)) c.piece.ensures c.in_ok-write_refusal-in-Rest.ensures)
    (subst (λ (end : Ending). IfOk c.end-in-Rest.result (λ ending. ending ≡ end)) (c.ending_at-in-Rest.ensures ∙ (λ i. ending_at (c.stopping-stop.ensures i) (c.next_line_number-line.ensures i))) c.end-in-Rest.ensures.ending) c.end-in-Rest.ensures.dumped

pub returns-in-End : goal.returns-in-End
returns-in-End g c =
    at_end c.args.manner c.end-in-End.result c.args.schema.now c.args.lines.now c.loop-lines.lines (g.W.Write.contents c.args.writer.now) (g.W.Write.contents c.loop-lines.writer) (g.W.Write.contents c.end-in-End.new.writer) c.args.world.now c.loop-lines.world
    c.loop-lines.invariant (come_now _ _ _ c.in-End.ensures.0) c.end-in-End.ensures.ending c.end-in-End.ensures.dumped

pub returns-in-Failed : goal.returns-in-Failed
returns-in-Failed g c =
    at_failed c.args.manner c.end_by.result c.args.schema.now c.args.lines.now c.loop-lines.lines (next_line_number c.loop-lines.lines.lines_left) c.loop-lines.lines.held c.at.result (g.W.Write.contents c.args.writer.now) (g.W.Write.contents c.loop-lines.writer) (g.W.Write.contents c.end_by.new.writer) c.args.world.now c.loop-lines.world
    c.loop-lines.invariant (come_now _ _ _ c.in-Failed.ensures.0) (c.at.ensures ∙ ap (λ line. located ReadFailed (Some line)) (c.line_of.ensures ∙ ap (λ (v : LinesValue). Later (next_line_number v.lines_left)) c.in-Failed.ensures.2)) c.end_by.ensures

pub returns-in-Long : goal.returns-in-Long
returns-in-Long g c =
    at_long c.args.manner c.end_by-in-Long.result c.args.schema.now c.args.lines.now c.loop-lines.lines c.at-in-Long.result (g.W.Write.contents c.args.writer.now) (g.W.Write.contents c.loop-lines.writer) (g.W.Write.contents c.end_by-in-Long.new.writer) c.args.world.now c.loop-lines.world
    c.loop-lines.invariant c.in-Long.ensures.0 (c.at-in-Long.ensures ∙ ap (λ line. located TooLong (Some line)) (c.line_of-in-Long.ensures ∙ ap (λ (v : LinesValue). Later (next_line_number v.lines_left)) c.in-Long.ensures.1)) c.end_by-in-Long.ensures

pub returns-in-TooMany : goal.returns-in-TooMany
returns-in-TooMany g c =
    at_too_many c.args.manner c.end_by-in-TooMany.result c.args.schema.now c.args.lines.now c.loop-lines.lines c.at-in-TooMany.result (g.W.Write.contents c.args.writer.now) (g.W.Write.contents c.loop-lines.writer) (g.W.Write.contents c.end_by-in-TooMany.new.writer) c.args.world.now c.loop-lines.world
    c.loop-lines.invariant (come_now _ _ _ c.in-TooMany.ensures.0) c.at-in-TooMany.ensures c.end_by-in-TooMany.ensures
