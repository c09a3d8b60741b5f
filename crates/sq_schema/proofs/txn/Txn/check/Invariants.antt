use Rattle.std.proofs.Common.{◌≡◌, drop}
use Rattle.sq_schema.specs.Refusals.{ops_fault}
use Rattle.sq_schema.proofs.txn.Txn.check.Given as goal

-- the operations so far have no fault
abbrev pub invariant-loop-op : goal.invariant-loop-op
invariant-loop-op l = ops_fault l.tables l.ops ≡ ops_fault l.tables (drop l.op-index l.ops)
