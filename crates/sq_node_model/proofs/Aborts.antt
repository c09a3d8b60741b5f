-- A transaction that aborts leaves the rows as they were.
use Rattle.std.proofs.Common.{◌≡◌, false, Ok, Err, refl, true≢false}
use Rattle.sq_schema.specs.TxnValue.{TxnValue}
use Rattle.sq_schema.specs.Effect.{RowList, OpsOutcome, ops_outcome, rows_after, reply_of, effect, reply}
use Rattle.sq_node_model.specs.Receipts.{is_commit}

pub aborted_keeps : (rows : RowList) (txn : TxnValue) → is_commit (reply rows txn) ≡ false → effect rows txn ≡ rows
aborted_keeps rows txn = by (ops_outcome 0 txn.ops rows)
  where
    by : (outcome : OpsOutcome) → is_commit (reply_of outcome) ≡ false → rows_after rows outcome ≡ rows
    by (Ok told) aborts = absurd (true≢false aborts)
    by (Err abort) aborts = refl
