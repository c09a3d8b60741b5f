use Rattle.std.proofs.Common.{arith}
use Rattle.std.proofs.lemmas.List.{length-take-le}
use Rattle.sq_input.proofs.Inserts.{first_ends, first_goes_on, first_stops}
use Rattle.sq_input.proofs.inserting.Inserting.read_first_line.Goals as goal
use Rattle.sq_input.proofs.inserting.Inserting.read_first_line.Goals.{else-count-gt0-via-then-count-gt0+else-buf-eq-LINE_END, else-count-gt0-via-else-count-gt0}

pub returns-then-buf-eq-LINE_END-clause-bytes : goal.returns-then-buf-eq-LINE_END-clause-bytes
returns-then-buf-eq-LINE_END-clause-bytes g c =
    first_ends c.args.self.now.place _ _ _ c.in_ok-count.count c.read.new.buf _ c.requires.place c.if-count-gt0.true c.in_ok-count.ensures.bound.0 (let same = c.read.auto.buf in let one = length-take-le 1 c.args.buf.now c.requires.some in omega (arith, same, one)) c.if-buf-eq-LINE_END.true c.in_ok-count.ensures.bytes.0

pub returns-else-count-gt0-clause-bytes : goal.returns-else-count-gt0-clause-bytes
returns-else-count-gt0-clause-bytes g c =
    elim c.else-count-gt0.branch [
      | else-count-gt0-via-then-count-gt0+else-buf-eq-LINE_END w ↦
          first_goes_on c.args.self.now.place _ _ _ c.in_ok-count.count c.read.new.buf _ c.requires.place w.if-count-gt0.true c.in_ok-count.ensures.bound.0 (let same = c.read.auto.buf in let one = length-take-le 1 c.args.buf.now c.requires.some in omega (arith, same, one)) w.if-buf-eq-LINE_END.false c.in_ok-count.ensures.bytes.0
      | else-count-gt0-via-else-count-gt0 w ↦
          first_stops c.args.self.now.place _ _ _ c.in_ok-count.count c.read.new.buf _ c.requires.place w.if-count-gt0.false (let same = c.read.auto.buf in let one = length-take-le 1 c.args.buf.now c.requires.some in omega (arith, same, one)) c.in_ok-count.ensures.bytes.0 c.in_ok-count.ensures.bytes.1
    ]
