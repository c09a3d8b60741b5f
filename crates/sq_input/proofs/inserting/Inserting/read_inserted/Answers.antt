use Rattle.std.proofs.Common.{arith}
use Rattle.sq_input.proofs.Inserts.{other_goes_on, other_ends, other_is_over}
use Rattle.sq_input.proofs.inserting.Inserting.read_inserted.Goals as goal

pub returns-then-count-gt0-clause-bytes : goal.returns-then-count-gt0-clause-bytes
returns-then-count-gt0-clause-bytes g c =
    other_goes_on c.args.self.now.place c.args.at_start _ _ _ c.in_ok-count.count c.read.new.buf c.requires.place c.if-count-gt0.true c.in_ok-count.ensures.bound.0 c.in_ok-count.ensures.bytes.0

pub returns-then-not-at_start-clause-bytes : goal.returns-then-not-at_start-clause-bytes
returns-then-not-at_start-clause-bytes g c =
    other_ends c.args.self.now.place c.args.at_start _ _ _ c.in_ok-count.count c.read.new.buf c.requires.place c.if-not-at_start.true c.if-count-gt0.false (let same = c.read.auto.buf in let some = c.requires.some in omega (arith, same, some)) c.in_ok-count.ensures.bytes.0 c.in_ok-count.ensures.bytes.1

pub returns-clause-bytes : goal.returns-clause-bytes
returns-clause-bytes g c =
    other_is_over c.args.self.now.place c.args.at_start _ _ _ _ c.in_ok-count.count c.read.new.buf c.read-2.result c.read-2.new.buf c.requires.place c.if-not-at_start.false c.if-count-gt0.false (let same = c.read.auto.buf in let some = c.requires.some in omega (arith, same, some)) c.in_ok-count.ensures.bytes.0 c.in_ok-count.ensures.bytes.1 c.read-2.ensures.bytes
