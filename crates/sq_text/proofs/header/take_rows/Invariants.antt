use Rattle.std.proofs.Common.{◌≡◌, ◌≤◌, ◌-◌}
use Rattle.sq_schema.specs.Table.{rows_in}
use Rattle.sq_text.proofs.HeaderRun.{RowsSoFar}
use Rattle.sq_text.proofs.header.take_rows.Given as goal

abbrev pub invariant-loop-alloc : goal.invariant-loop-alloc
invariant-loop-alloc g l =
    record {
      rows : RowsSoFar l.fn.opening.tables (rows_in l.fn.opening.table) l.fn.lines l.lines (rows_in l.opening.table) (l.most - l.lines.lines_left);
      kept : l.opening ≡ record l.fn.opening { table = l.opening.table };
      taken : l.lines.lines_left ≤ l.most;
    }

abbrev pub decreases-loop-alloc : goal.decreases-loop-alloc
decreases-loop-alloc g l = l.lines.lines_left
