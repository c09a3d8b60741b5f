use Rattle.std.proofs.Common.{◌-◌, ◌≤◌}
use Rattle.sq_gather.specs.Prelude.{ROOT_END, rows_in}
use Rattle.sq_audit.proofs.Tables.{AddedTo}
use Rattle.sq_audit.proofs.table.add_store.Given as goal

-- the rows of the families below a root key are added
abbrev pub invariant-loop-family : goal.invariant-loop-family
invariant-loop-family l = record {
  added : AddedTo (rows_in l.initial.table) l.store l.at (rows_in l.table);
  upto : l.at ≤ ROOT_END;
}

abbrev pub decreases-loop-family : goal.decreases-loop-family
decreases-loop-family l = ROOT_END - l.at
