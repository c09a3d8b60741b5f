use Rattle.std.proofs.Common.{arith}
use Rattle.sq_moves.proofs.Openings.{so_far-next, so_far-end}
use Rattle.sq_moves.proofs.given.table_of.Goals as goal

pub loop-at-preserved : goal.loop-at-preserved
loop-at-preserved c = so_far-next c.args.tables c.args.rows.now c.loop-at.at c.loop-at.table c.loop-at.invariant c.index-rows-at.result (omega arith) c.index-rows-at.is c.take.new.table c.in_ok-take.ensures.fault c.in_ok-take.ensures.ok

pub returns-clause-table : goal.returns-clause-table
returns-clause-table c = (so_far-end c.args.tables c.args.rows.now c.loop-at.at c.loop-at.table (omega arith) c.loop-at.invariant c.iter.ensures.rising c.iter.ensures.opening).1
