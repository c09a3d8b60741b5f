use Rattle.std.proofs.Common.{arith}
use Rattle.sq_text.proofs.Comings.{takes_one_line, found}
use Rattle.sq_text.proofs.reader.LineReader.next_read.Goals as goal

pub returns-in_default : goal.returns-in_default
returns-in_default g c = record {
  finds = found c.args.most c.args.self.now c.loop-self.self c.next.new.self c.next.result c.loop-self.invariant c.next.ensures c.in_default.not-Unread;
  one_line = omega (arith, c.loop-self.invariant.1, takes_one_line _ _ _ _ c.next.ensures);
}
