-- Why a transaction is refused before it runs.
use Rattle.std.specs.Prelude.{ℕ, ◌==◌, ◌&&◌, ◌||◌, not, nat_lt, if◌then◌else◌, List, [], ◌∷◌, length, Option, Some, None}
use Rattle.std.specs.Option.{option_or}
use Rattle.sq_rows.specs.Values.{RowValue}
use Rattle.sq_schema.specs.declared.root.TheConstants.{ROOT_END}
use Rattle.sq_rows.specs.declared.row.RowKey.{RowKey}
use Rattle.sq_rows.specs.declared.row.TheConstants.{MAX_NOTE}
use Rattle.sq_schema.specs.declared.txn.TheConstants.{MAX_OPS}
use Rattle.sq_schema.specs.declared.txn.Op.{Op}
use Rattle.sq_schema.specs.declared.txn.Op.TheVariants.{Get, Put, Add, Del, Check}
use Rattle.sq_schema.specs.declared.fault.TxnFault.{TxnFault}
use Rattle.sq_schema.specs.declared.fault.TxnFault.TheVariants.{BadOps, BadRoot, BadTable, BadSub, BadNote}

-- a key of a schema with this many tables: the table is one of them, and the root table has only
-- the sub key 0
abbrev pub key_fault : ℕ → RowKey → Option TxnFault
key_fault tables key =
    if not (nat_lt key.table tables)
    then Some BadTable
    else (if key.table == 0 && not (key.sub == 0) then Some BadSub else None)

-- a note isn't too long
abbrev pub note_fault : List ℕ → Option TxnFault
note_fault note = if nat_lt MAX_NOTE (length note) then Some BadNote else None

-- a row of such a schema: its key, and then its note
abbrev pub row_fault : ℕ → RowKey → RowValue → Option TxnFault
row_fault tables key row = option_or (key_fault tables key) (note_fault row.note)

-- an operation of such a schema: the key of its row, and the row that it puts
abbrev pub op_fault : ℕ → Op → Option TxnFault
op_fault tables (Get key) = key_fault tables key
op_fault tables (Put key row) = row_fault tables key row
op_fault tables (Add key by) = key_fault tables key
op_fault tables (Del key) = key_fault tables key
op_fault tables (Check key least) = key_fault tables key

-- the fault of the first operation that has one
abbrev pub ops_fault : ℕ → List Op → Option TxnFault
ops_fault tables [] = None
ops_fault tables (op ∷ ops) = option_or (op_fault tables op) (ops_fault tables ops)

-- the first fault of a transaction: of its count of operations, its root key, and then operation by
-- operation
abbrev pub txn_fault : ℕ → ℕ → List Op → Option TxnFault
txn_fault tables root ops =
    if length ops == 0 || nat_lt MAX_OPS (length ops)
    then Some BadOps
    else (if not (nat_lt root ROOT_END) then Some BadRoot else ops_fault tables ops)
