-- What a transaction does to the rows of its root key, and its reply.
use Rattle.std.specs.Prelude.{ℕ, ℤ, Bool, ◌+◌, ◌^◌, ◌+ℤ◌, ◌==◌, ◌&&◌, not, nat_lt, if◌then◌else◌, List, [], ◌∷◌, length, fold, filter, Option, Some, None, Result, Ok, Err, is_some, pos, negsuc}
use Rattle.std.specs.Ordering.{eq_by_cmp, int_cmp, is_lt}
use Rattle.sq_rows.specs.declared.row.RowKey.{RowKey}
use Rattle.sq_schema.specs.declared.txn.Op.{Op}
use Rattle.sq_schema.specs.declared.txn.Op.TheVariants.{Get, Put, Add, Del, Check}
use Rattle.sq_schema.specs.declared.txn.OpAnswer.{OpAnswer}
use Rattle.sq_schema.specs.declared.txn.OpAnswer.TheVariants.{Found, Number, Done}
use Rattle.sq_schema.specs.declared.txn.Cause.{Cause}
use Rattle.sq_schema.specs.declared.txn.Cause.TheVariants.{Absent, Small, Range, NoRoot, Children}
use Rattle.sq_schema.specs.declared.txn.Reply.{Reply}
use Rattle.sq_schema.specs.declared.txn.Reply.TheVariants.{Committed, Aborted}
use Rattle.sq_rows.specs.Values.{RowValue}
use Rattle.sq_rows.specs.Keys.{key_cmp}
pub use Rattle.sq_rows.specs.RowList.{RowList, root_key, row_at, with_row, without_row}
use Rattle.sq_schema.specs.TxnValue.{TxnValue}

-- a number that an `i64` holds
abbrev pub is_i64 : ℤ → Bool
is_i64 (pos n) = nat_lt n (2 ^ 63)
is_i64 (negsuc n) = nat_lt n (2 ^ 63)

-- the outcome of an operation: the rows after it and its answer, or why it aborts
abbrev pub OpOutcome : Type 0
OpOutcome = Result (RowList × OpAnswer) Cause

-- a row of a table other than the root table needs a root row
abbrev pub put_outcome : RowList → RowKey → RowValue → OpOutcome
put_outcome rows key row =
    if not (key.table == 0) && not (is_some (row_at rows root_key)) then Err NoRoot else Ok (with_row rows key row, Done)

-- the number of an existing row grows by this, if the sum is an `i64`
abbrev pub add_outcome : RowList → RowKey → ℤ → Option RowValue → OpOutcome
add_outcome rows key by None = Err Absent
add_outcome rows key by (Some row) =
    if is_i64 (row.number +ℤ by)
    then Ok (with_row rows key (record { number = row.number +ℤ by; note = row.note }), Number (row.number +ℤ by))
    else Err Range

-- an existing row is deleted, the root row only if it is alone
abbrev pub del_outcome : RowList → RowKey → Option RowValue → OpOutcome
del_outcome rows key None = Err Absent
del_outcome rows key (Some row) =
    if eq_by_cmp key_cmp key root_key && not (length rows == 1) then Err Children else Ok (without_row rows key, Done)

-- there is a row, and its number is at least this
abbrev pub check_outcome : RowList → ℤ → Option RowValue → OpOutcome
check_outcome rows least None = Err Absent
check_outcome rows least (Some row) = if is_lt (int_cmp row.number least) then Err Small else Ok (rows, Done)

-- the outcome of this operation
abbrev pub op_outcome : RowList → Op → OpOutcome
op_outcome rows (Get key) = Ok (rows, Found (row_at rows key))
op_outcome rows (Put key row) = put_outcome rows key row
op_outcome rows (Add key by) = add_outcome rows key by (row_at rows key)
op_outcome rows (Del key) = del_outcome rows key (row_at rows key)
op_outcome rows (Check key least) = check_outcome rows least (row_at rows key)

-- the outcome of operations: the rows after them and their answers, or the position and the cause
-- of the first abort
abbrev pub OpsOutcome : Type 0
OpsOutcome = Result (RowList × List OpAnswer) (ℕ × Cause)

-- the outcome of the rest, with the answer before those of the rest
abbrev pub with_answer : OpAnswer → OpsOutcome → OpsOutcome
with_answer answer (Ok told) = Ok (told.0, answer ∷ told.1)
with_answer answer (Err abort) = Err abort

-- the operation at this position, and then the rest
abbrev pub then_rest : ℕ → (RowList → OpsOutcome) → OpOutcome → OpsOutcome
then_rest at rest (Ok done) = with_answer done.1 (rest done.0)
then_rest at rest (Err cause) = Err (at, cause)

-- the outcome of these operations; the first has this position
abbrev pub ops_outcome : ℕ → List Op → RowList → OpsOutcome
ops_outcome at [] rows = Ok (rows, [])
ops_outcome at (op ∷ ops) rows = then_rest at (ops_outcome (at + 1) ops) (op_outcome rows op)

-- the rows after the operations; the rows before them if one aborts
abbrev pub rows_after : RowList → OpsOutcome → RowList
rows_after rows (Ok told) = told.0
rows_after rows (Err abort) = rows

-- the answer to a transaction whose operations have this outcome
abbrev pub reply_of : OpsOutcome → Reply
reply_of (Ok told) = Committed told.1
reply_of (Err abort) = Aborted abort.0 abort.1

-- the rows of its root key after the transaction; the rows before it if it aborts
abbrev pub effect : RowList → TxnValue → RowList
effect rows txn = rows_after rows (ops_outcome 0 txn.ops rows)

-- the reply to the transaction on these rows
abbrev pub reply : RowList → TxnValue → Reply
reply rows txn = reply_of (ops_outcome 0 txn.ops rows)

-- the rows of one root key after transactions on it, one after another
abbrev pub replay_rows : RowList → List TxnValue → RowList
replay_rows rows txns = fold effect rows txns

-- a table without partitions: the rows of each root key
abbrev pub RowTable : Type 0
RowTable = ℕ → RowList

-- the table after a transaction, which changes only the rows of its root key
abbrev pub table_after : RowTable → TxnValue → RowTable
table_after table txn root = if txn.root == root then effect (table root) txn else table root

-- the table after transactions, one after another
abbrev pub replay : RowTable → List TxnValue → RowTable
replay table txns = fold table_after table txns

-- the transactions on one root key, in their order
abbrev pub only : ℕ → List TxnValue → List TxnValue
only root txns = filter (λ txn. txn.root == root) txns
