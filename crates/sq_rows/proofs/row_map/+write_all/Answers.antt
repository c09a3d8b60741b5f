use Rattle.std.proofs.Common.{◌≡◌, ℕ, true, false, Some, None, Option, IsSome, refl, sym, ap, subst, ◌∙◌, arith, rules}
use Rattle.std.specs.FinMap.Entries.{is_sorted}
use Rattle.sq_rows.specs.Values.{RowValue}
use Rattle.sq_rows.specs.Keys.{key_cmp}
use Rattle.sq_rows.specs.RowList.{RowList, row_at, with_row, without_row}
use Rattle.sq_rows.specs.Writes.{with_write, with_writes}
use Rattle.sq_rows.proofs.Entries.{find-lookup, insert_entry-put, remove_entry-where_key}
use Rattle.sq_rows.proofs.Kept.{is_sorted-with_row, is_sorted-with_writes}
use Rattle.sq_rows.proofs.KeyOrder.{key_cmp_total}
use Rattle.sq_rows.proofs.RowMaps.{restored, row_put, removal_covered, removal_last, first_written}
use Rattle.sq_rows.proofs.row_map.+write_all.Goals as goal
use Rattle.sq_rows.proofs.row_map.+write_all.Goals.{In_ok-old}

-- the row of the first write is put
put : (t : ℕ) (c : In_ok-old t) → c.insert.new.self.entries ≡ with_row c.args.rows.now.entries c.in-Some.first.now.0 c.in-Some-take.row
put t c = c.in_ok-old.ensures.entries ∙ insert_entry-put key_cmp c.args.rows.now.entries c.in-Some.first.now.0 c.in-Some-take.row

put_rises : (t : ℕ) (c : In_ok-old t) → is_sorted key_cmp c.insert.new.self.entries ≡ true
put_rises t c = rw (put t c) (is_sorted-with_row c.args.rows.now.entries c.in-Some.first.now.0 c.in-Some-take.row c.requires)

pub write_all-requires : goal.write_all-requires
write_all-requires t c = (omega (arith, c.in-Some.ensures.cases.1), put_rises t (goal.at.write_all-requires t c).In_ok-old)

pub put_back-requires-clause-rising : goal.put_back-requires-clause-rising
put_back-requires-clause-rising t c = rw c.in-Err.ensures.err (put_rises t (goal.at.put_back-requires-clause-rising t c).In_ok-old)

pub put_back-requires-clause-stands : goal.put_back-requires-clause-stands
put_back-requires-clause-stands t c =
    let key = c.in-Some.first.now.0 in
    let now = c.in-Err.ensures.err ∙ put t (goal.at.put_back-requires-clause-stands t c).In_ok-old in
    subst (λ (row : Option RowValue). IsSome row) (sym (ap (λ (rows : RowList). row_at rows key) now ∙ row_put c.args.rows.now.entries key c.in-Some-take.row)) refl

pub returns-in-Err-clause-err : goal.returns-in-Err-clause-err
returns-in-Err-clause-err t c =
    let key = c.in-Some.first.now.0 in
    let rows = c.args.rows.now.entries in
    c.put_back.ensures
    ∙ ap (λ (now : RowList). with_write now key c.in_ok-old.old) (c.in-Err.ensures.err ∙ put t (goal.at.returns-in-Err-clause-err t c).In_ok-old)
    ∙ ap (with_write (with_row rows key c.in-Some-take.row) key) (c.in_ok-old.ensures.old ∙ find-lookup key_cmp rows key)
    ∙ restored rows key c.in-Some-take.row c.requires

pub returns-in-Some-take-clause-ok : goal.returns-in-Some-take-clause-ok
returns-in-Some-take-clause-ok t c =
    let first = c.in-Some.first.now in
    let later = c.in-Some.rest.now in
    c.in_default-write_all.ensures.ok
    ∙ ap (λ (rows : RowList). with_writes rows later) (put t (goal.at.returns-in-Some-take-clause-ok t c).In_ok-old)
    ∙ sym (first_written c.args.rows.now.entries c.args.writes.now first later (Some c.in-Some-take.row) c.in-Some.ensures.cases.0 (sym c.take.ensures.value ∙ c.in-Some-take.is))

pub returns-then-is_last-clause-ok : goal.returns-then-is_last-clause-ok
returns-then-is_last-clause-ok t c =
    let first = c.in-Some.first.now in
    let later = c.in-Some.rest.now in
    let rows = c.args.rows.now.entries in
    let alone : c.is_written-is_last.result ≡ false = search rules in
    let made = c.in_ok-write_all.ensures.ok in
    let risen : is_sorted key_cmp c.write_all-2.new.rows.entries ≡ true = rw made (is_sorted-with_writes rows later c.requires) in
    c.remove.ensures.entries
    ∙ remove_entry-where_key key_cmp key_cmp_total c.write_all-2.new.rows.entries first.0 risen
    ∙ ap (λ (now : RowList). without_row now first.0) made
    ∙ removal_last rows first.0 later c.requires (sym c.is_written-is_last.ensures ∙ alone)
    ∙ sym (first_written rows c.args.writes.now first later None c.in-Some.ensures.cases.0 (sym c.take.ensures.value ∙ c.in_default-take.is))

pub returns-else-is_last-clause-ok : goal.returns-else-is_last-clause-ok
returns-else-is_last-clause-ok t c =
    let first = c.in-Some.first.now in
    let rows = c.args.rows.now.entries in
    let covered : c.is_written-is_last.result ≡ true = search rules in
    c.in_ok-write_all.ensures.ok
    ∙ removal_covered rows first.0 c.in-Some.rest.now c.requires (sym c.is_written-is_last.ensures ∙ covered)
    ∙ sym (first_written rows c.args.writes.now first c.in-Some.rest.now None c.in-Some.ensures.cases.0 (sym c.take.ensures.value ∙ c.in_default-take.is))
