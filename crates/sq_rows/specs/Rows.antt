-- Which rows one root key may have.
use Rattle.std.specs.Prelude.{◌≡◌, Bool, true, ◌^◌, ◌==◌, ◌&&◌, ◌||◌, nat_lt, nat_le, length, is_some}
use Rattle.std.specs.List.{AllPass, list_all}
use Rattle.std.specs.FinMap.Entries.{is_sorted}
use Rattle.sq_rows.specs.declared.row.RowKey.{RowKey}
use Rattle.sq_rows.specs.declared.row.TheConstants.{MAX_NOTE}
use Rattle.sq_rows.specs.Values.{RowValue}
use Rattle.sq_rows.specs.Keys.{key_cmp}
use Rattle.sq_rows.specs.RowList.{RowList, root_key, row_at}

-- a key within its range, and a note that isn't too long
abbrev pub is_entry : RowKey × RowValue → Bool
is_entry entry = nat_lt entry.0.table (2 ^ 8) && (nat_lt entry.0.sub (2 ^ 32) && nat_le (length entry.1.note) MAX_NOTE)

-- the keys strictly rise, and each entry is sound
pub record IsRowList (rows : RowList) : Type 0 where
  pub rising : is_sorted key_cmp rows ≡ true
  pub entries : AllPass is_entry rows

-- there are rows of other tables only under the root row
abbrev pub is_rooted : RowList → Bool
is_rooted rows = is_some (row_at rows root_key) || list_all (λ entry. entry.0.table == 0) rows
