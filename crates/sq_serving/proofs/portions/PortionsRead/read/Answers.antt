use Rattle.std.proofs.Common.{arith, length}
use Rattle.sq_serving.proofs.Portioned.{portion_stays}
use Rattle.sq_serving.proofs.portions.PortionsRead.read.Goals as goal

pub returns-then-most-eq0-clause-bytes : goal.returns-then-most-eq0-clause-bytes
returns-then-most-eq0-clause-bytes g c =
    portion_stays c.args.self.now.lines_left (length c.args.buf.now) _ (λ some. let none = c.if-most-eq0.true in let least = c.min-most.ensures in omega (arith, none, least, some))
