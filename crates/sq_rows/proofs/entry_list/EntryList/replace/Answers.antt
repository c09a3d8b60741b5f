use Rattle.std.proofs.Common.{Some, sym, ap, ◌∙◌}
use Rattle.sq_rows.specs.declared.row.RowKey.{RowKey}
use Rattle.sq_rows.specs.Values.{RowValue}
use Rattle.sq_rows.proofs.entry_list.EntryList.replace.Goals as goal

pub returns-in-Ok-clause-ok : goal.returns-in-Ok-clause-ok
returns-in-Ok-clause-ok c =
    let d : RowKey × RowValue = (c.args.key, c.args.row) in
    c.replace_at.ensures.rows d ∙ sym (c.in-Ok.ensures.put c.args.row d)

pub returns-in-Ok-clause-old : goal.returns-in-Ok-clause-old
returns-in-Ok-clause-old c =
    let d : RowKey × RowValue = (c.args.key, c.args.row) in
    ap Some (c.replace_at.ensures.old d) ∙ sym (c.in-Ok.ensures.found d)
