-- How large rows are.
use Rattle.std.proofs.Common.{◌≡◌, ◌+◌, ◌*◌, ◌^◌, ◌≤◌, true, length, arith}
use Rattle.std.specs.List.{All, sum_by}
use Rattle.std.proofs.lemmas.Bool.Decides.{nat_tests}
use Rattle.std.proofs.lemmas.List.Sums.{sum_by-le}
use Rattle.std.proofs.lemmas.List.Elements.{All-weaker}
use Rattle.sq_rows.specs.declared.row.RowKey.{RowKey}
use Rattle.sq_rows.specs.declared.row.TheConstants.{MAX_NOTE}
use Rattle.sq_rows.specs.Values.{RowValue}
use Rattle.sq_rows.specs.RowList.{RowList}
use Rattle.sq_rows.specs.Rows.{is_entry, IsRowList}
use Rattle.sq_rows.specs.Sizes.{row_size, rows_size}
use Rattle.sq_rows.proofs.KeyOrder.{length_bound}

row_size_bound : (entry : RowKey × RowValue) → is_entry entry ≡ true → row_size entry.1 ≤ 24 + MAX_NOTE
row_size_bound entry sound = grind (arith, nat_tests)

pub rows_size_bound : (rows : RowList) → IsRowList rows → rows_size rows ≤ 32 + (24 + MAX_NOTE) * 2 ^ 40
rows_size_bound rows sound =
    let small : All (λ entry. row_size entry.1 ≤ 24 + MAX_NOTE) rows = All-weaker (λ entry. is_entry entry ≡ true) (λ entry. row_size entry.1 ≤ 24 + MAX_NOTE) row_size_bound rows sound.entries in
    let sum : sum_by (λ entry. row_size entry.1) rows ≤ length rows * (24 + MAX_NOTE) = sum_by-le (λ entry. row_size entry.1) (24 + MAX_NOTE) rows small in
    omega (arith, length_bound rows sound.rising sound.entries)
