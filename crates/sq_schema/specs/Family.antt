-- A family: the rows of one root key, with the rows that its log starts from and the transactions
-- that committed since.
use Rattle.std.specs.Prelude.{ℕ, Bool, ◌==◌, ◌||◌, not, List, [], ◌∷◌, ◌++◌, length}
use Rattle.sq_schema.specs.declared.txn.Reply.{Reply}
use Rattle.sq_schema.specs.declared.txn.Reply.TheVariants.{Committed, Aborted}
use Rattle.sq_rows.specs.RowList.{RowList}
pub use Rattle.sq_rows.specs.Sizes.{row_size, rows_size}
use Rattle.sq_schema.specs.Effect.{replay_rows}
use Rattle.sq_schema.specs.TxnValue.{TxnValue}

-- a root key, the rows that its log starts from, and its log
pub record FamilyValue : Type 0 where
  pub root : ℕ
  pub base : RowList
  pub log : List TxnValue

-- its rows are the replay of its log on its base
abbrev pub rows_of : FamilyValue → RowList
rows_of family = replay_rows family.base family.log

-- a family is kept that has rows to start from, or a log
abbrev pub family_stands : FamilyValue → Bool
family_stands family = not (length family.base == 0) || not (length family.log == 0)

-- a family whose log is folded: it restarts from its rows
abbrev pub folded : FamilyValue → FamilyValue
folded family = record { root = family.root; base = rows_of family; log = [] }

-- a family whose log has one more transaction
abbrev pub logged : FamilyValue → TxnValue → FamilyValue
logged family txn = record family { log = family.log ++ txn ∷ [] }

-- a family after a transaction with this reply: a commit is appended to the log, an abort isn't
abbrev pub answered : FamilyValue → TxnValue → Reply → FamilyValue
answered family txn (Committed answers) = logged family txn
answered family txn (Aborted at cause) = family
