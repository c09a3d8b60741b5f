use Rattle.std.proofs.Common.{length}
use Rattle.sq_rows.proofs.row_map.+write_all.Given as goal

abbrev pub decreases-write_all : goal.decreases-write_all
decreases-write_all l = length l.writes.now
