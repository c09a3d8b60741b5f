use Rattle.std.proofs.Common.{◌∙◌, ap, arith}
use Rattle.sq_moves.specs.Status.{reading_within}
use Rattle.sq_moves.specs.Tree.{status_at}
use Rattle.sq_moves.proofs.Nested.{node_bounds}
use Rattle.sq_moves.proofs.Readings.{readings_are}
use Rattle.sq_moves.proofs.plain.PlainTree.reads.Goals as goal

pub returns-clause-reading : goal.returns-clause-reading
returns-clause-reading c =
    let bounds = node_bounds c.nearest_live.result c.nearest_live.ensures.node in
    c.reads_live.ensures.reading 5 (omega arith) ∙ ap (reading_within 5 (status_at c.args.self.now)) c.nearest_live.ensures.nearest

pub returns-clause-rule : goal.returns-clause-rule
returns-clause-rule c = readings_are (status_at c.args.self.now) c.reads_live.ensures.grown
