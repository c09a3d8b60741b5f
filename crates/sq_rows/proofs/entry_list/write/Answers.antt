-- The edit at the place that the search gave.
use Rattle.std.proofs.Common.{set, sym, ap, ◌∙◌}
use Rattle.sq_rows.specs.declared.row.RowKey.{RowKey}
use Rattle.sq_rows.specs.Values.{RowValue}
use Rattle.sq_rows.proofs.entry_list.write.Goals as goal

pub returns-in-Ok-Some-clause-rows : goal.returns-in-Ok-Some-clause-rows
returns-in-Ok-Some-clause-rows c =
    let found = c.in-Ok-Some in
    rw found.is-1 (
    ap (λ (entry : RowKey × RowValue). set c.args.rows.now.items found.at (entry.0, found.row)) c.index_mut.ensures.value
    ∙ sym (rw c.deref.ensures.value at (found.ensures.put found.row c.index_mut.result.now))
    )

pub returns-in-Ok-None-clause-rows : goal.returns-in-Ok-None-clause-rows
returns-in-Ok-None-clause-rows c =
    rw c.in-Ok-None.is-1 (c.remove.ensures.items ∙ sym (rw c.deref.ensures.value at c.in-Ok-None.ensures.removed))

pub returns-in-Ok-clause-rows : goal.returns-in-Ok-clause-rows
returns-in-Ok-clause-rows c =
    rw c.in-Err-Some.is-1 (c.in-Ok.ensures.items ∙ sym (rw c.deref.ensures.value at (c.in-Err-Some.ensures.put c.in-Err-Some.row)))

pub returns-in-Err-None-clause-rows : goal.returns-in-Err-None-clause-rows
returns-in-Err-None-clause-rows c = rw c.in-Err-None.is-1 (sym (rw c.deref.ensures.value at c.in-Err-None.ensures.removed))
