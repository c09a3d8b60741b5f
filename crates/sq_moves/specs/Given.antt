-- Opening rows as they are given, the table that they form, and the parts of an opening.
use Rattle.std.specs.Prelude.{◌≡◌, ℕ, true, nat_lt, List, [], ◌∷◌}
use Rattle.std.specs.List.{AllPass}
use Rattle.std.specs.Ordering.{nat_cmp}
use Rattle.std.specs.FinMap.Entries.{is_sorted}
use Rattle.sq_schema.specs.RowKey.{RowKey}
use Rattle.sq_schema.specs.Values.{RowValue}
use Rattle.sq_schema.specs.Effect.{RowTable}
use Rattle.sq_schema.specs.Table.{TableValue, rows_in, is_opening, with_given}
use Rattle.sq_schema.specs.declared.root.TheConstants.{ROOT_END}
use Rattle.sq_plan.specs.PlanValue.{PlanValue}
use Rattle.sq_moves.specs.declared.opening.Config.{Config}
use Rattle.sq_moves.specs.declared.opening.GivenRow.{GivenRow}
use Rattle.sq_moves.specs.Between.{recon_of}
use Rattle.sq_moves.specs.OpeningValue.{OpeningValue}

-- the place of a given row within its root key
abbrev pub key_of : GivenRow → RowKey
key_of given = record { table = given.table; sub = given.sub }

-- the row itself
abbrev pub row_of : GivenRow → RowValue
row_of given = record { number = given.number; note = given.note.items }

-- an opening row: its root key, its place within it, and the row itself
pub record GivenValue : Type 0 where
  pub root : ℕ
  pub key : RowKey
  pub row : RowValue

-- the value of a given row
abbrev pub value_of : GivenRow → GivenValue
value_of given = record { root = given.root; key = key_of given; row = row_of given }

-- a table without rows
abbrev pub no_rows : RowTable
no_rows root = []

-- the table with one more given row
abbrev pub with_one : RowTable → GivenValue → RowTable
with_one table given = with_given table given.root given.key given.row

-- the table with these rows, given one after another
abbrev pub given_rows : RowTable → List GivenRow → RowTable
given_rows table [] = table
given_rows table (given ∷ rows) = given_rows (with_one table (value_of given)) rows

-- the table of these rows: its root keys rise, and each has rows under its root row
pub record IsTableOf (rows : List GivenRow) (table : TableValue) : Type 0 where
  pub given : (root : ℕ) → rows_in table root ≡ given_rows no_rows rows root
  pub rising : is_sorted nat_cmp table ≡ true
  pub opening : AllPass (λ entry. is_opening entry.1) table
  pub roots : AllPass (λ entry. nat_lt entry.0 ROOT_END) table

-- the opening of two plans, sizes and rows
pub record IsOpeningOf (tables : ℕ) (old new : PlanValue) (config : Config) (rows : List GivenRow) (o : OpeningValue) : Type 0 where
  pub tables_are : o.tables ≡ tables
  pub old_plan : o.old ≡ old
  pub new_plan : o.new ≡ new
  pub moves : o.recon ≡ recon_of old new config.width
  pub sizes : o.config ≡ config
  pub table : (root : ℕ) → rows_in o.table root ≡ given_rows no_rows rows root
