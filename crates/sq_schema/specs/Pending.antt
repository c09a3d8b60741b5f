-- Writes of rows that are still to be performed.
use Rattle.std.specs.Prelude.{◌≡◌, ℕ, List, length}
use Rattle.std.specs.List.{AllPass}
use Rattle.sq_rows.specs.RowList.{RowList}
use Rattle.sq_rows.specs.Sizes.{rows_size}
use Rattle.sq_rows.specs.Rows.{IsRowList}
use Rattle.sq_rows.specs.Writes.{Write, is_write, with_writes}

-- rows with pending writes
pub record PendingValue : Type 0 where
  pub base : RowList
  pub writes : List Write

-- the rows as they are after the pending writes
abbrev pub pending_rows : PendingValue → RowList
pending_rows pending = with_writes pending.base pending.writes

-- the writes are sound, and so are the rows after them, which have this count and size
pub record IsPending (pending : PendingValue) (many large : ℕ) : Type 0 where
  pub rows : IsRowList (pending_rows pending)
  pub writes : AllPass is_write pending.writes
  pub count : many ≡ length (pending_rows pending)
  pub size : large ≡ rows_size (pending_rows pending)
