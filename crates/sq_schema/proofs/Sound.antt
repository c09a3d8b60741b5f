-- What a transaction that isn't refused has.
use Rattle.std.proofs.Common.{◌≡◌, ℕ, ◌≤◌, List, [], ◌∷◌, Option, Some, None, refl, arith}
use Rattle.std.specs.Option.{option_or}
use Rattle.std.proofs.lemmas.Bool.Decides.{nat_tests}
use Rattle.sq_rows.specs.declared.row.RowKey.{RowKey}
use Rattle.sq_schema.specs.declared.txn.Op.{Op}
use Rattle.sq_schema.specs.declared.txn.Op.TheVariants.{Get, Put, Add, Del, Check}
use Rattle.sq_rows.specs.Values.{RowValue}
use Rattle.sq_schema.specs.Refusals.{key_fault, row_fault, op_fault, ops_fault, txn_fault}

pub or_none : {A : Type 0} (first second : Option A) → option_or first second ≡ None → (first ≡ None) × (second ≡ None)
or_none None second none = (refl, none)
or_none (Some x) second none = absurd (cc)

module _ (few many : ℕ) (more : few ≤ many) where
  -- a schema with more tables has the keys of one with fewer
  key_fault-wider : (key : RowKey) → key_fault few key ≡ None → key_fault many key ≡ None
  key_fault-wider key sound = grind (arith, nat_tests)

  pub row_fault-wider : (key : RowKey) (row : RowValue) → row_fault few key row ≡ None → row_fault many key row ≡ None
  row_fault-wider key row sound = grind (arith, nat_tests)

  op_fault-wider : (op : Op) → op_fault few op ≡ None → op_fault many op ≡ None
  op_fault-wider (Get key) sound = key_fault-wider key sound
  op_fault-wider (Put key row) sound = row_fault-wider key row sound
  op_fault-wider (Add key by) sound = key_fault-wider key sound
  op_fault-wider (Del key) sound = key_fault-wider key sound
  op_fault-wider (Check key least) sound = key_fault-wider key sound

  ops_fault-wider : (ops : List Op) → ops_fault few ops ≡ None → ops_fault many ops ≡ None
  ops_fault-wider [] sound = sound
  ops_fault-wider (op ∷ ops) sound =
      let both = or_none (op_fault few op) (ops_fault few ops) sound in
      rw (op_fault-wider op both.0) (ops_fault-wider ops both.1)

  pub txn_fault-wider : (root : ℕ) (ops : List Op) → txn_fault few root ops ≡ None → txn_fault many root ops ≡ None
  txn_fault-wider root ops sound = grind (arith, nat_tests, ops_fault-wider ops)
