-- A transaction, apart from where it is stored.
use Rattle.std.specs.Prelude.{ℕ, List}
use Rattle.sq_schema.specs.declared.txn.Op.{Op}

pub record TxnValue : Type 0 where
  pub id : ℕ
  pub root : ℕ
  pub ops : List Op
