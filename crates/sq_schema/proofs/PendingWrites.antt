-- What one more write makes of rows with pending writes.
use Rattle.std.proofs.Common.{◌≡◌, ℕ, ◌+◌, ◌-◌, ◌*◌, ◌^◌, ◌<◌, ◌≤◌, true, [], ◌∷◌, ◌++◌, length, Some, None, Option, IfSome, arith, refl}
use Rattle.std.proofs.lemmas.Bool.Decides.{nat_tests}
use Rattle.std.proofs.lemmas.List.Elements.{All-push}
use Rattle.sq_rows.specs.declared.row.RowKey.{RowKey}
use Rattle.sq_rows.specs.Values.{RowValue}
use Rattle.sq_rows.specs.RowList.{row_at}
use Rattle.sq_rows.specs.Sizes.{rows_size}
use Rattle.sq_rows.specs.declared.row.TheConstants.{MAX_NOTE}
use Rattle.sq_rows.specs.Writes.{with_write, is_sound, is_write, count_of_row, size_of_row}
use Rattle.sq_schema.specs.Pending.{PendingValue, pending_rows, IsPending}
use Rattle.sq_rows.proofs.Kept.{IsRowList-with_write}
use Rattle.sq_rows.proofs.KeyOrder.{length_bound}
use Rattle.sq_rows.proofs.Latest.{with_writes-push}
use Rattle.sq_rows.proofs.Sizes.{rows_size_bound}
use Rattle.sq_rows.proofs.Weights.{length-with_write, rows_size-with_write}

pub is_sound_from : (key : RowKey) (row : Option RowValue) → key.table < 2 ^ 8 → key.sub < 2 ^ 32 → IfSome row (λ row. length row.note ≤ MAX_NOTE) → is_sound key row ≡ true
is_sound_from key None table sub short = refl
is_sound_from key (Some row) table sub short = grind (arith, nat_tests)

count_of_bound : (row : Option RowValue) → count_of_row row ≤ 1
count_of_bound None = omega arith
count_of_bound (Some row) = omega arith

size_of_bound : (row : Option RowValue) → IfSome row (λ row. length row.note ≤ MAX_NOTE) → size_of_row row ≤ 24 + MAX_NOTE
size_of_bound None short = omega arith
size_of_bound (Some row) short = omega arith

module _ (pending : PendingValue) (many large : ℕ) (is_pending : IsPending pending many large) (key : RowKey) (row : Option RowValue) where
  abbrev written : PendingValue
  written = record { base = pending.base; writes = pending.writes ++ (key, row) ∷ [] }

  pub count_fits : many + count_of_row row ≤ 2 ^ 40 + 1
  count_fits = omega (arith, is_pending.count, length_bound (pending_rows pending) is_pending.rows.rising is_pending.rows.entries, count_of_bound row)

  pub size_fits : IfSome row (λ row. length row.note ≤ MAX_NOTE) → large + size_of_row row ≤ 32 + (24 + MAX_NOTE) * (2 ^ 40 + 1)
  size_fits short = omega (arith, is_pending.size, rows_size_bound (pending_rows pending) is_pending.rows, size_of_bound row short)

  pending_rows-written : pending_rows written ≡ with_write (pending_rows pending) key row
  pending_rows-written = with_writes-push pending.base pending.writes key row

  pub count_after : length (pending_rows written) + count_of_row (row_at (pending_rows pending) key) ≡ many + count_of_row row
  count_after = rw pending_rows-written (omega (arith, is_pending.count, length-with_write (pending_rows pending) key row is_pending.rows.rising))

  pub size_after : rows_size (pending_rows written) + size_of_row (row_at (pending_rows pending) key) ≡ large + size_of_row row
  size_after = rw pending_rows-written (omega (arith, is_pending.size, rows_size-with_write (pending_rows pending) key row is_pending.rows.rising))

  pub IsPending-written : is_sound key row ≡ true → IsPending written (many + count_of_row row - count_of_row (row_at (pending_rows pending) key)) (large + size_of_row row - size_of_row (row_at (pending_rows pending) key))
  IsPending-written sound =
      record {
        rows = rw pending_rows-written (IsRowList-with_write (pending_rows pending) key row sound is_pending.rows);
        writes = All-push (λ write. is_write write ≡ true) pending.writes (key, row) is_pending.writes sound;
        count = omega (arith, count_after);
        size = omega (arith, size_after);
      }
