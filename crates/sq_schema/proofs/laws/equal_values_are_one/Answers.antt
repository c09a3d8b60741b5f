use Rattle.sq_schema.proofs.Equal.{rows_same, txn_same, reply_same}
use Rattle.sq_schema.proofs.laws.equal_values_are_one.Goals as goal

pub returns : goal.returns
returns c = record { rows = rows_same; txns = txn_same; replies = reply_same }
