-- Rows that fit a schema, and the transactions that keep them so.
use Rattle.std.specs.Prelude.{◌≡◌, ◌<◌, ◌≤◌, ◌^◌, ℕ, true, [], ◌∷◌, None, All}
use Rattle.std.specs.FinMap.Entries.{is_sorted}
use Rattle.sq_rows.specs.declared.row.RowKey.{RowKey}
use Rattle.sq_rows.specs.Keys.{key_cmp}
use Rattle.sq_rows.specs.RowList.{RowList}
use Rattle.sq_rows.specs.Rows.{is_entry, is_rooted}
use Rattle.sq_rows.specs.Values.{RowValue}
use Rattle.sq_schema.specs.declared.root.TheConstants.{ROOT_END}
use Rattle.sq_schema.specs.declared.txn.Op.{Op}
use Rattle.sq_schema.specs.declared.txn.Op.TheVariants.{Get, Put, Add, Del, Check}
use Rattle.sq_schema.specs.Effect.{RowTable, is_i64}
use Rattle.sq_schema.specs.Family.{FamilyValue, rows_of}
use Rattle.sq_schema.specs.Refusals.{row_fault}
use Rattle.sq_schema.specs.TxnValue.{TxnValue}
use Rattle.sq_model.specs.declared.step.Step.{Step}
use Rattle.sq_model.specs.declared.step.Step.TheVariants.{Submit}
use Rattle.sq_model.specs.Trace.{Trace}

-- a row in memory that fits a schema of this many tables
pub record IsFitRow (tables : ℕ) (entry : RowKey × RowValue) : Type 0 where
  pub in_range : is_entry entry ≡ true
  pub schema : row_fault tables entry.0 entry.1 ≡ None
  pub number : is_i64 entry.1.number ≡ true
  pub note : All (λ byte. byte < 2 ^ 8) entry.1.note

-- such rows of one root key: their keys rise, and rows of other tables exist only with the root row
pub record AreFitRows (tables : ℕ) (rows : RowList) : Type 0 where
  pub rising : is_sorted key_cmp rows ≡ true
  pub rooted : is_rooted rows ≡ true
  pub each : All (IsFitRow tables) rows

-- a family of such rows
pub record IsFitFamily (tables : ℕ) (family : FamilyValue) : Type 0 where
  pub root : family.root < ROOT_END
  pub rows : AreFitRows tables (rows_of family)

-- a table of such rows, with no rows beyond the root keys
pub record IsFitTable (tables : ℕ) (table : RowTable) : Type 0 where
  pub rows : (root : ℕ) → AreFitRows tables (table root)
  pub beyond : (root : ℕ) → ROOT_END ≤ root → table root ≡ []

-- an operation that puts only such rows
abbrev pub IsFitOp : ℕ → Op → Type 0
IsFitOp tables (Get key) = Unit {0}
IsFitOp tables (Put key row) = IsFitRow tables (key, row)
IsFitOp tables (Add key by) = Unit {0}
IsFitOp tables (Del key) = Unit {0}
IsFitOp tables (Check key least) = Unit {0}

-- a transaction of such operations
pub record IsFitTxn (tables : ℕ) (txn : TxnValue) : Type 0 where
  pub root : txn.root < ROOT_END
  pub ops : All (IsFitOp tables) txn.ops

-- a step that submits only such a transaction, and a history of such steps
abbrev pub IsFitStep : ℕ → Step → Type 0
IsFitStep tables (Submit part txn) = IsFitTxn tables txn
IsFitStep tables _ = Unit {0}

abbrev pub AreFitSteps : ℕ → Trace → Type 0
AreFitSteps tables [] = Unit {0}
AreFitSteps tables ((step, given) ∷ t) = IsFitStep tables step × AreFitSteps tables t
