use Rattle.std.proofs.Common.{◌≡◌, ℕ, take}
use Rattle.sq_schema.specs.Effect.{replay}
use Rattle.sq_schema.specs.Table.{IsTable, rows_in}
use Rattle.sq_schema.proofs.table.Table.replay.Given as goal

-- the transactions so far are replayed
abbrev pub invariant-loop-txn : goal.invariant-loop-txn
invariant-loop-txn l = record {
  replayed : (k : ℕ) → rows_in l.rows.entries k ≡ replay (rows_in l.fn.self) (take l.txn-index l.txns) k;
  table : IsTable l.rows.entries;
}
