-- How an edit of rows changes their count and their size.
use Rattle.std.proofs.Common.{◌≡◌, ℕ, ◌+◌, true, cond, not, [], ◌∷◌, length, Some, None, Option, refl, ◌∙◌, arith}
use Rattle.std.specs.declared.cmp.Ordering.TheVariants.{Less, Equal, Greater}
use Rattle.std.specs.List.{sum_by}
use Rattle.std.specs.Option.{option_map_or}
use Rattle.std.specs.Ordering.{is_eq}
use Rattle.std.specs.FinMap.Entries.{by_order, below_all, is_sorted}
use Rattle.std.proofs.lemmas.Bool.{and_parts}
use Rattle.std.proofs.lemmas.List.Sums.{sum_by-cons}
use Rattle.sq_rows.specs.declared.row.RowKey.{RowKey}
use Rattle.sq_rows.specs.Values.{RowValue}
use Rattle.sq_rows.specs.Keys.{key_cmp}
use Rattle.sq_rows.specs.RowList.{RowList, row_at, with_row, without_row}
use Rattle.sq_rows.specs.Sizes.{row_size, rows_size}
use Rattle.sq_rows.specs.Writes.{with_write}
use Rattle.sq_rows.proofs.KeyOrder.{key_cmp_total}
use Rattle.sq_rows.proofs.Entries.{where_key_below, below_tied, below_before, find_below}

-- rows weigh what each of them does
module _ (weight : RowValue → ℕ) where
  abbrev of_entry : RowKey × RowValue → ℕ
  of_entry entry = weight entry.1

  abbrev of_row : Option RowValue → ℕ
  of_row row = option_map_or weight row 0

  sum_by-with_row : (rows : RowList) (key : RowKey) (row : RowValue) → is_sorted key_cmp rows ≡ true → sum_by of_entry (with_row rows key row) + of_row (row_at rows key) ≡ sum_by of_entry rows + weight row
  sum_by-with_row [] key row rising = omega arith
  sum_by-with_row (entry ∷ rows) key row rising =
      let parts = and_parts (below_all key_cmp entry.0 rows) (is_sorted key_cmp rows) rising in
      elim (key_cmp key entry.0) as (λ r. key_cmp key entry.0 ≡ r → sum_by of_entry (by_order r ((key, row) ∷ entry ∷ rows) ((entry.0, row) ∷ rows) (entry ∷ with_row rows key row)) + of_row (cond (is_eq r) (Some entry.1) (row_at rows key)) ≡ sum_by of_entry (entry ∷ rows) + weight row) [
        | Less ↦ λ is. rw (find_below key_cmp key_cmp_total key rows (below_before key_cmp key_cmp_total key entry.0 rows is parts.0)) (omega (arith, sum_by-cons of_entry (key, row) (entry ∷ rows)))
        | Equal ↦ λ is. omega (arith, sum_by-cons of_entry (entry.0, row) rows, sum_by-cons of_entry entry rows)
        | Greater ↦ λ is. omega (arith, sum_by-cons of_entry entry (with_row rows key row), sum_by-cons of_entry entry rows, sum_by-with_row rows key row parts.1)
      ] refl

  sum_by-without_row : (rows : RowList) (key : RowKey) → is_sorted key_cmp rows ≡ true → sum_by of_entry (without_row rows key) + of_row (row_at rows key) ≡ sum_by of_entry rows
  sum_by-without_row [] key rising = refl
  sum_by-without_row (entry ∷ rows) key rising =
      let parts = and_parts (below_all key_cmp entry.0 rows) (is_sorted key_cmp rows) rising in
      let left = without_row rows key in
      elim (key_cmp key entry.0) as (λ r. key_cmp key entry.0 ≡ r → sum_by of_entry (cond (not (is_eq r)) (entry ∷ left) left) + of_row (cond (is_eq r) (Some entry.1) (row_at rows key)) ≡ sum_by of_entry (entry ∷ rows)) [
        | Less ↦ λ is. omega (arith, sum_by-cons of_entry entry left, sum_by-cons of_entry entry rows, sum_by-without_row rows key parts.1)
        | Equal ↦ λ is. rw (where_key_below key_cmp key_cmp_total key rows (below_tied key_cmp key_cmp_total key entry.0 rows is parts.0)) (omega (arith, sum_by-cons of_entry entry rows))
        | Greater ↦ λ is. omega (arith, sum_by-cons of_entry entry left, sum_by-cons of_entry entry rows, sum_by-without_row rows key parts.1)
      ] refl

  sum_by-with_write : (rows : RowList) (key : RowKey) (row : Option RowValue) → is_sorted key_cmp rows ≡ true → sum_by of_entry (with_write rows key row) + of_row (row_at rows key) ≡ sum_by of_entry rows + of_row row
  sum_by-with_write rows key None rising = omega (arith, sum_by-without_row rows key rising)
  sum_by-with_write rows key (Some row) rising = sum_by-with_row rows key row rising

sum_by_one : (rows : RowList) → sum_by (λ entry. 1) rows ≡ length rows
sum_by_one [] = refl
sum_by_one (entry ∷ rows) = sum_by-cons (λ entry. 1) entry rows ∙ omega (arith, sum_by_one rows)

pub rows_size-with_write : (rows : RowList) (key : RowKey) (row : Option RowValue) → is_sorted key_cmp rows ≡ true → rows_size (with_write rows key row) + option_map_or row_size (row_at rows key) 0 ≡ rows_size rows + option_map_or row_size row 0
rows_size-with_write rows key row rising = omega (arith, sum_by-with_write row_size rows key row rising)

pub length-with_write : (rows : RowList) (key : RowKey) (row : Option RowValue) → is_sorted key_cmp rows ≡ true → length (with_write rows key row) + option_map_or (λ row. 1) (row_at rows key) 0 ≡ length rows + option_map_or (λ row. 1) row 0
length-with_write rows key row rising = omega (arith, sum_by_one rows, sum_by_one (with_write rows key row), sum_by-with_write (λ row. 1) rows key row rising)
