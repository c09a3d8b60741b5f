use Rattle.std.proofs.Common.{length, ap, arith, [], ◌∷◌, refl}
use Rattle.sq_text.specs.Pieces.{Line, Failed, TooMany, next_line_number}
use Rattle.sq_text.proofs.HeaderRun.{short_line, long_piece, long_begin, no_line_end, cut_line}
use Rattle.sq_text.proofs.header.next_line.Goals as goal

pub returns-in-Line-clause-line : goal.returns-in-Line-clause-line
returns-in-Line-clause-line g c = λ end left can.
    let number = next_line_number c.args.lines.now.lines_left in
    (Line number c.next_read.new.self.piece ∷ left, c.in-Line.ensures.finds.0 end left can, short_line number c.next_read.new.self.piece left (omega (arith, c.if-piece-le-MAX_LINE.true, ap length c.piece.ensures)))

pub returns-in-Line-2-clause-line : goal.returns-in-Line-2-clause-line
returns-in-Line-2-clause-line g c = λ end left can.
    let line = Line (next_line_number c.args.lines.now.lines_left) c.next_read.new.self.piece in
    (line ∷ left, c.in-Line.ensures.finds.0 end left can, long_piece line left (omega (arith, c.if-piece-le-MAX_LINE.false, ap length c.piece.ensures)))

pub returns-in-Line-2-2-clause-line : goal.returns-in-Line-2-2-clause-line
returns-in-Line-2-2-clause-line g c = λ end left can. (left, c.in-Line-2.ensures.finds.0.0 end left can, long_begin left (c.in-Line-2.ensures.finds.1 left (end, can)))

pub returns-in-Rest-clause-line : goal.returns-in-Rest-clause-line
returns-in-Rest-clause-line g c = no_line_end c.next_read.result c.args.lines.now c.next_read.new.self c.in-Rest.is c.next_read.ensures.finds

pub returns-in-Failed-clause-line : goal.returns-in-Failed-clause-line
returns-in-Failed-clause-line g c = λ end left can.
    let number = next_line_number c.args.lines.now.lines_left in
    let found = c.in-Failed.ensures.finds in
    (Failed number found.0 ∷ [], found.1 end left can, cut_line number found.0 found.2)

pub returns-in-TooMany-clause-line : goal.returns-in-TooMany-clause-line
returns-in-TooMany-clause-line g c = λ end left can. (TooMany ∷ [], c.in-TooMany.ensures.finds end left can, refl)
