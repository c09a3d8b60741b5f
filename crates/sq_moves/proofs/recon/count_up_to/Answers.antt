use Rattle.std.proofs.Common.{rules, arith}
use Rattle.std.proofs.lemmas.List.Sorted.{IsPartitionPoint-from_clause}
use Rattle.sq_moves.proofs.Cuts.{Moves, row_from_rising}
use Rattle.sq_moves.proofs.Search.{ends_by, ends_first}
use Rattle.sq_moves.proofs.recon.count_up_to.Goals as goal

pub returns-clause-point : goal.returns-clause-point
returns-clause-point c =
    let ranges = c.args.segments.now in
    IsPartitionPoint-from_clause (ends_by c.args.key) ranges c.partition_point.result c.partition_point.ensures.partitioned (ends_first Moves ranges (row_from_rising 0 ranges (omega arith) c.requires) c.args.key) (λ a r q k. search rules)
