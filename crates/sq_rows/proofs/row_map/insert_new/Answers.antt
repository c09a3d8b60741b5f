use Rattle.std.proofs.Common.{◌≡◌, Some, sym, ap, ◌∙◌}
use Rattle.sq_rows.specs.Keys.{key_cmp}
use Rattle.sq_rows.specs.RowList.{row_at, with_row}
use Rattle.sq_rows.specs.Writes.{with_write}
use Rattle.sq_rows.proofs.Entries.{find-lookup, insert_entry-put}
use Rattle.sq_rows.proofs.Kept.{is_sorted-with_row}
use Rattle.sq_rows.proofs.RowMaps.{restored}
use Rattle.sq_rows.proofs.row_map.insert_new.Goals as goal

pub give_back-requires-clause-rising : goal.give_back-requires-clause-rising
give_back-requires-clause-rising c =
    let rows = c.args.rows.now.entries in
    rw (c.in-Ok-Some.ensures.entries ∙ insert_entry-put key_cmp rows c.args.key c.args.row) (is_sorted-with_row rows c.args.key c.args.row c.requires)

pub returns-in-Ok-None-clause-ok : goal.returns-in-Ok-None-clause-ok
returns-in-Ok-None-clause-ok c = c.in-Ok-None.ensures.entries ∙ insert_entry-put key_cmp c.args.rows.now.entries c.args.key c.args.row

-- the row that was put is taken back
pub returns-in-Ok-Some-clause-err : goal.returns-in-Ok-Some-clause-err
returns-in-Ok-Some-clause-err c =
    let rows = c.args.rows.now.entries in
    let key = c.args.key in
    let row = c.args.row in
    let old = c.in-Ok-Some.old in
    let had : row_at rows key ≡ Some old = sym (find-lookup key_cmp rows key) ∙ sym c.in-Ok-Some.ensures.old ∙ c.in-Ok-Some.field-0-is in
    c.give_back.ensures.rows
    ∙ ap (λ now. with_row now key old) (c.in-Ok-Some.ensures.entries ∙ insert_entry-put key_cmp rows key row)
    ∙ ap (with_write (with_row rows key row) key) (sym had)
    ∙ restored rows key row c.requires
